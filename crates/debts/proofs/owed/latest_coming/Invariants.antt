-- A walk along the chain of the node and the split's parent.
use Rattle.record.specs.Records.{decode}
use Rattle.history.specs.Buckets.{bucket_by_two}
use Rattle.splits.specs.Splits.{parent_by}
use Rattle.debts.specs.Walk.{comes}
use Rattle.debts.proofs.Walks.{Left}
use Rattle.debts.proofs.owed.latest_coming.Given as goal

abbrev pub invariant-loop-old : goal.invariant-loop-old
invariant-loop-old l =
    let s = decode l.split in
    Left (comes l.node.0 (parent_by s) s.b s.voters) (bucket_by_two l.past.cap l.node.0 (parent_by s)) l.past l.past.count l.old-iterator
