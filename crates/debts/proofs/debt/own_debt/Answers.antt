-- By the kind of the record, where it is the node's own.
use mathlib.Core.Path.{sym}
use Prim.Native.Nat.{◌-◌}
use Rattle.history.proofs.Logs.{record_bytes}
use Rattle.debts.proofs.Debts.{own_other, own_applied, own_neither, own_covered}
use Rattle.debts.proofs.debt.own_debt.Goals as goal

pub returns-then-not-is_by-clause-is : goal.returns-then-not-is_by-clause-is
returns-then-not-is_by-clause-is c =
    let a = c.args in
    let log = a.past.now.log.now in
    let k = a.old.now.number - 1 in
    λ ix. own_other log k a.node.0 a.right (record_bytes log k c.requires.bytes) (sym c.if-not-is_by.ensures)

pub returns-then-kind-has_taken-clause-is : goal.returns-then-kind-has_taken-clause-is
returns-then-kind-has_taken-clause-is c =
    let a = c.args in
    let log = a.past.now.log.now in
    let k = a.old.now.number - 1 in
    λ ix. own_applied log k a.node.0 a.right (record_bytes log k c.requires.bytes) (sym c.if-not-is_by.ensures) (c.server_of-server.ensures ix)
    (rw (← c.has_taken.ensures, ← c.kind.ensures) c.if-kind-has_taken.true)
    (c.applied_split.ensures.is ix)

pub returns-then-kind-is_restated-clause-is : goal.returns-then-kind-is_restated-clause-is
returns-then-kind-is_restated-clause-is c =
    let a = c.args in
    let log = a.past.now.log.now in
    let k = a.old.now.number - 1 in
    λ ix. own_covered log k a.node.0 a.right (record_bytes log k c.requires.bytes) (sym c.if-not-is_by.ensures) (c.server_of-server.ensures ix)
    (rw (← c.has_taken.ensures, ← c.kind.ensures) c.if-kind-has_taken.false)
    (rw (← c.is_restated.ensures ix, ← c.kind-2.ensures) c.if-kind-is_restated.true)
    (c.covered_split.ensures.is ix)

pub returns-clause-is : goal.returns-clause-is
returns-clause-is c =
    let a = c.args in
    let log = a.past.now.log.now in
    let k = a.old.now.number - 1 in
    λ ix. own_neither log k a.node.0 a.right (record_bytes log k c.requires.bytes) (sym c.if-not-is_by.ensures) (c.server_of-server.ensures ix)
    (rw (← c.has_taken.ensures, ← c.kind.ensures) c.if-kind-has_taken.false)
    (rw (← c.is_restated.ensures ix, ← c.kind-2.ensures) c.if-kind-is_restated.false)
