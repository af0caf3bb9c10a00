-- The split that the record registers, where the node comes to owe by it.
use mathlib.Core.Path.{◌≡◌, sym}
use mathlib.Core.Bool.{false, ◌&&◌}
use Prim.Native.Nat.{◌-◌}
use borrow.Author.Tests.{eq-eqb, ne_eqb}
use Rattle.record.specs.Records.{decode}
use Rattle.record.proofs.Booleans.{both}
use Rattle.history.proofs.Logs.{record_bytes}
use Rattle.splits.specs.Walk.{split_of}
use Rattle.debts.specs.Walk.{owes_first}
use Rattle.debts.specs.Debts.{is_right}
use Rattle.debts.proofs.Debts.{first_is}
use Rattle.debts.proofs.debt.first_debt.Goals as goal
use Rattle.debts.proofs.debt.first_debt.Goals.{else-split-right-via-then-split-right+else-owes_first, else-split-right-via-else-split-right}

pub returns-then-owes_first-clause-is : goal.returns-then-owes_first-clause-is
returns-then-owes_first-clause-is c =
    let a = c.args in
    let log = a.past.now.log.now in
    let k = a.old.now.number - 1 in
    λ ix. first_is log k a.node.0 a.right (record_bytes log k c.requires.bytes) (c.in_ok-split.ensures.is ix)
    (both (eq-eqb _ _ c.if-split-right.true) (sym (c.if-owes_first.ensures ix)))

pub returns-else-split-right-clause-is : goal.returns-else-split-right-clause-is
returns-else-split-right-clause-is c =
    let a = c.args in
    let log = a.past.now.log.now in
    let k = a.old.now.number - 1 in
    let s = split_of c.in_ok-split.split in
    λ ix. first_is log k a.node.0 a.right (record_bytes log k c.requires.bytes) (c.in_ok-split.ensures.is ix)
    (let owes = owes_first log k a.node.0 (decode a.old.now.record.now) in
    let none : is_right a.right s && owes ≡ false =
    elim c.else-split-right.branch [
      | else-split-right-via-then-split-right+else-owes_first w ↦ rw (eq-eqb s.right a.right w.if-split-right.true) (sym (w.if-owes_first.ensures ix))
      | else-split-right-via-else-split-right w ↦ rw (ne_eqb s.right a.right w.if-split-right.false)
    ] in
    none)
