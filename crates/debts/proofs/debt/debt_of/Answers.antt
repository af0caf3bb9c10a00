-- What is owed after all records was owed after those before the walk.
use native.Mathlib.Omega.{arith}
use Rattle.debts.proofs.Debts.{owes_next, owes_found, owes_end}
use Rattle.debts.proofs.debt.debt_of.Goals as goal

pub loop-at-init : goal.loop-at-init
loop-at-init c = λ ix s e. e

pub returns-in-Some-clause-owed : goal.returns-in-Some-clause-owed
returns-in-Some-clause-owed c =
    let a = c.args in
    let p = a.past.now in
    λ ix. owes_found p.log.now a.node.0 a.right p.count c.loop-at-test.true (omega arith) (c.loop-at.invariant ix) (c.in-Some.ensures.arises ix)

pub loop-at-preserved : goal.loop-at-preserved
loop-at-preserved c =
    let a = c.args in
    let p = a.past.now in
    λ ix. owes_next p.log.now a.node.0 a.right p.count c.loop-at-test.true (omega arith) (c.loop-at.invariant ix) (c.in_default.ensures.arises ix)

pub returns-clause-owed : goal.returns-clause-owed
returns-clause-owed c =
    let a = c.args in
    λ ix. owes_end a.past.now.log.now a.node.0 a.right a.past.now.count (omega arith) (c.loop-at.invariant ix)
