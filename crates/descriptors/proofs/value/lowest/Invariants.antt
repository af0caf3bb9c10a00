-- A walk along the range's standing values: the best so far, weighed against the lowest of the rest, stays the lowest of all, and
-- past a marked one up to the index nothing is above it.
use Rattle.rules.specs.Descriptors.{standing}
use Rattle.history.proofs.Chains.{Stands}
use Rattle.history.proofs.Pasts.{OnPast}
use Rattle.history.specs.Buckets.{bucket_by}
use Rattle.history.specs.Pasts.{taken, Indexed, IsFound}
use Rattle.history.specs.Places.{standing_links}
use Rattle.descriptors.specs.Answers.{lowest_above}
use Rattle.descriptors.specs.Columns.{DescriptorsIndexed, standing_bucket}
use Rattle.descriptors.proofs.Walks.{Lowest}
use Rattle.descriptors.proofs.value.lowest.Given as goal

abbrev pub invariant-loop-old : goal.invariant-loop-old
invariant-loop-old l =
    (OnPast l.past standing_links l.old-iterator)
    × (IsFound l.past l.best
    × (Indexed DescriptorsIndexed l.past
    → Stands (standing_bucket l.past.cap) (bucket_by l.past.cap l.range) l.past.log.now (Lowest l.past l.range l.index l.generation l.best)
    (lowest_above l.range l.index l.generation (standing (taken l.past))) l.old-iterator.next))
