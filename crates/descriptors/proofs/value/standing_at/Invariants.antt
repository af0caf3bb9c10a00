-- A walk along the range's standing values: the one at the place is the newest that is there; past a marked one up to the index
-- there is none.
use Rattle.rules.specs.Descriptors.{standing}
use Rattle.rules.specs.History.{latest_of}
use Rattle.history.proofs.Chains.{Stands}
use Rattle.history.proofs.Pasts.{OnPast}
use Rattle.history.specs.Buckets.{bucket_by}
use Rattle.history.specs.Logs.{hist}
use Rattle.history.specs.Pasts.{taken, Indexed}
use Rattle.history.specs.Places.{standing_links}
use Rattle.descriptors.specs.Answers.{at_place}
use Rattle.descriptors.specs.Columns.{DescriptorsIndexed, standing_bucket}
use Rattle.descriptors.proofs.value.standing_at.Given as goal

abbrev pub invariant-loop-old : goal.invariant-loop-old
invariant-loop-old l =
    (OnPast l.past standing_links l.old-iterator)
    × (Indexed DescriptorsIndexed l.past
    → Stands (standing_bucket l.past.cap) (bucket_by l.past.cap l.range) l.past.log.now
    (λ n. latest_of (at_place l.range l.index) (standing (hist l.past.log.now n)))
    (latest_of (at_place l.range l.index) (standing (taken l.past))) l.old-iterator.next)
