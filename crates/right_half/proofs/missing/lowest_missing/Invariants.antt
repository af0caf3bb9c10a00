-- All that the walk passed is taken over.
use Rattle.history.specs.Pasts.{Indexed}
use Rattle.splits.specs.Columns.{Known}
use Rattle.splits.proofs.Finding.{OnSplits}
use Rattle.right_half.proofs.Searches.{Searching}
use Rattle.right_half.proofs.missing.lowest_missing.Given as goal

abbrev pub invariant-loop-split : goal.invariant-loop-split
invariant-loop-split l =
    (OnSplits l.past l.split-iterator) × (Indexed Known l.past → Searching l.past.log.now l.past.count l.node.0 l.split-iterator.next l.best)
