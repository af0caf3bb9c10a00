-- What is owed after all records was owed after those before the walk.
use Rattle.history.specs.Pasts.{Indexed}
use Rattle.splits.specs.Columns.{Known}
use Rattle.debts.proofs.Debts.{Owes}
use Rattle.debts.proofs.debt.debt_of.Given as goal

abbrev pub invariant-loop-at : goal.invariant-loop-at
invariant-loop-at l = Indexed Known l.past → Owes l.past.log.now l.node.0 l.right l.past.count l.at
