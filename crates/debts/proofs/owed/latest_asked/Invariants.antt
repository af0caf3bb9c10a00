-- A walk along the chain of the node and the range.
use Rattle.history.specs.Buckets.{bucket_by_two}
use Rattle.debts.specs.Walk.{asks}
use Rattle.debts.proofs.Walks.{Left}
use Rattle.debts.proofs.owed.latest_asked.Given as goal

abbrev pub invariant-loop-old : goal.invariant-loop-old
invariant-loop-old l = Left (asks l.asked l.node.0 l.range) (bucket_by_two l.past.cap l.node.0 l.range) l.past l.top l.old-iterator
