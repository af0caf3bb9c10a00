-- The lowest so far is the least of the ranges that the walk gave.
use mathlib.Core.Path.{◌≡◌}
use mathlib.Core.List.{map}
use Rattle.record.specs.Records.{decode}
use Rattle.rules.specs.Descriptors.{span_of}
use Rattle.history.specs.Pasts.{taken, Indexed}
use Rattle.one_owner_per_key.specs.Columns.{OwnersIndexed}
use Rattle.one_owner_per_key.specs.Answers.{passes}
use Rattle.one_owner_per_key.proofs.Meets.{least, met}
use Rattle.one_owner_per_key.proofs.Since.{range_read}
use Rattle.one_owner_per_key.proofs.meeting.lowest_meeting.Given as goal

abbrev pub invariant-loop-old : goal.invariant-loop-old
invariant-loop-old l =
    Indexed OwnersIndexed l.past
    → l.best ≡ least (met (passes l.others (decode l.rec).spans) (span_of l.k (decode l.rec)) l.node.0 (taken l.past)) (map range_read l.yielded)
