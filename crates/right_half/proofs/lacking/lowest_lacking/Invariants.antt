-- The nodes of the records that the walk passed are taken over.
use mathlib.Core.Path.{◌≡◌}
use Rattle.std.specs.Prelude.{Some}
use Rattle.record.specs.Records.{decode}
use Rattle.rules.specs.RightHalf.{registers, lacks}
use Rattle.history.specs.Pasts.{taken, Indexed}
use Rattle.history.specs.Places.{recorded_links}
use Rattle.history.proofs.Pasts.{OnPast}
use Rattle.splits.specs.Columns.{Known, recorded_bucket, by_recording}
use Rattle.splits.specs.Splits.{parent_by}
use Rattle.splits.specs.Walk.{split_of}
use Rattle.right_half.proofs.Lowering.{Lowering}
use Rattle.right_half.proofs.lacking.lowest_lacking.Given as goal

abbrev pub invariant-loop-old : goal.invariant-loop-old
invariant-loop-old l =
    (OnPast l.past recorded_links l.old-iterator)
    × (Indexed Known l.past → registers (decode l.split.record.now) (taken l.past) ≡ Some (split_of l.split)
    → Lowering (by_recording l.past.cap) (recorded_bucket l.past.cap (parent_by (decode l.split.record.now))) l.past.log.now l.past.count
    (lacks (split_of l.split) (decode l.split.record.now) (taken l.past)) l.old-iterator.next l.best)
