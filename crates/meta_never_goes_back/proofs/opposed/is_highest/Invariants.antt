-- None of the names that were passed over is one that the record does not surpass.
use mathlib.Core.Path.{◌≡◌}
use Rattle.record.specs.Records.{decode}
use Rattle.history.specs.Pasts.{Indexed}
use Rattle.meta_never_goes_back.specs.Columns.{unsurpassed, MetaIndexed}
use Rattle.meta_never_goes_back.proofs.Spared.{Passed}
use Rattle.meta_never_goes_back.proofs.opposed.is_highest.Given as goal

abbrev pub invariant-loop-old : goal.invariant-loop-old
invariant-loop-old l =
    (l.old-iterator.past ≡ l.past)
    × (Indexed MetaIndexed l.past → Passed (unsurpassed (decode l.rec)) l.past.log.now l.past.count l.old-iterator.next)
