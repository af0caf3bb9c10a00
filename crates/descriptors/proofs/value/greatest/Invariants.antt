-- A walk along the range's standing values: the best so far, weighed against the greatest of the rest, stays the greatest of all,
-- and past a marked one that passes the rest is below it.
use Rattle.rules.specs.Descriptors.{standing}
use Rattle.history.proofs.Chains.{Stands}
use Rattle.history.proofs.Pasts.{OnPast}
use Rattle.history.specs.Buckets.{bucket_by}
use Rattle.history.specs.Pasts.{taken, Indexed, IsFound}
use Rattle.history.specs.Places.{standing_links}
use Rattle.descriptors.specs.Answers.{greatest_up_to}
use Rattle.descriptors.specs.Columns.{DescriptorsIndexed, standing_bucket}
use Rattle.descriptors.proofs.Walks.{Greatest}
use Rattle.descriptors.proofs.value.greatest.Given as goal

abbrev pub invariant-loop-old : goal.invariant-loop-old
invariant-loop-old l =
    (OnPast l.past standing_links l.old-iterator)
    × (IsFound l.past l.best
    × (Indexed DescriptorsIndexed l.past
    → Stands (standing_bucket l.past.cap) (bucket_by l.past.cap l.range) l.past.log.now (Greatest l.past l.range l.index l.generation l.best)
    (greatest_up_to l.range l.index l.generation (standing (taken l.past))) l.old-iterator.next))
