-- By the node's own record, else by the split that the record registers.
use Prim.Native.Nat.{◌-◌}
use Rattle.debts.proofs.Debts.{debt_own, debt_first}
use Rattle.debts.proofs.debt.debt_at.Goals as goal

pub returns-in-Some-clause-arises : goal.returns-in-Some-clause-arises
returns-in-Some-clause-arises c =
    let a = c.args in
    λ ix. debt_own a.past.now.log.now (a.old.now.number - 1) a.node.0 a.right (c.in-Some.ensures.is ix)

pub returns-clause-arises : goal.returns-clause-arises
returns-clause-arises c =
    let a = c.args in
    λ ix. debt_first a.past.now.log.now (a.old.now.number - 1) a.node.0 a.right (c.in_default.ensures.is ix) (c.first_debt.ensures.is ix)
