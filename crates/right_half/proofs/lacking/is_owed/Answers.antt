-- By the first split that the walk finds to owe it; where none is found, it is not owed.
use mathlib.Core.Path.{sym, ap, ◌∙◌}
use Prim.Native.Nat.{◌-◌}
use native.Mathlib.Omega.{arith}
use Rattle.debts.specs.Walk.{owes_split}
use Rattle.splits.proofs.Finding.{on_first, first_is, on_next, next_is, split_on, walk_over}
use Rattle.right_half.proofs.Lacks.{owed_first, owed_here, owed_next, owed_end}
use Rattle.right_half.proofs.lacking.is_owed.Goals.{else-split-right-via-then-split-right+else-owes_by, else-split-right-via-else-split-right}
use Rattle.right_half.proofs.lacking.is_owed.Goals as goal

pub loop-split-init : goal.loop-split-init
loop-split-init c =
    let a = c.args in
    let p = a.past.now in
    let z = rw (← c.into_iter-split-iterator.ensures.into_iter_gives) at c.of-split-items.ensures in
    (on_first p (omega arith) z, λ ix f. owed_first p.log.now p.count a.node.0 a.right (first_is p ix (omega arith) z))

pub returns-then-owes_by : goal.returns-then-owes_by
returns-then-owes_by c =
    let a = c.args in
    let p = a.past.now in
    λ ix f. owed_here p a.node.0 a.right ix (split_on p c.loop-split.invariant.0 c.in-Some.ensures.steps) c.if-split-right.true
    (c.cancel_of-cancel.ensures ix f) (sym (c.owes_by.ensures ix) ∙ c.if-owes_by.true)

pub loop-split-preserved : goal.loop-split-preserved
loop-split-preserved c =
    let a = c.args in
    let p = a.past.now in
    let o = c.loop-split.invariant.0 in
    let e = c.in-Some.ensures.steps in
    let s = c.in-Some.split in (
      on_next p o e,
      λ ix f.
          owed_next p a.node.0 a.right ix (split_on p o e) e.number (c.loop-split.invariant.1 ix f)
          (elim c.else-split-right.branch [
            | else-split-right-via-then-split-right+else-owes_by w ↦ λ q.
                ap (owes_split p.log.now p.count a.node.0 (s.number - 1)) (sym (c.cancel_of-cancel.ensures ix f))
                ∙ sym (w.owes_by.ensures ix) ∙ w.if-owes_by.false
            | else-split-right-via-else-split-right w ↦ λ q. absurd (w.if-split-right.false q)
          ])
          (next_is p o e ix),
    )

pub returns : goal.returns
returns c =
    let a = c.args in
    let p = a.past.now in
    λ ix f. owed_end p.log.now p.count a.node.0 a.right (walk_over p c.loop-split.invariant.0 c.next.new.self c.in-None.ensures.steps ix)
    (c.loop-split.invariant.1 ix f)
