-- By none that the walk passed is it owed.
use mathlib.Core.Path.{◌≡◌}
use Rattle.history.specs.Pasts.{taken, Indexed}
use Rattle.splits.specs.Numbers.{refused_number}
use Rattle.splits.specs.Columns.{Known}
use Rattle.splits.proofs.Finding.{OnSplits}
use Rattle.right_half.proofs.Lacks.{Unowed}
use Rattle.right_half.proofs.lacking.is_owed.Given as goal

abbrev pub invariant-loop-split : goal.invariant-loop-split
invariant-loop-split l =
    (OnSplits l.past l.split-iterator)
    × (Indexed Known l.past → l.refused ≡ refused_number l.node.0 (taken l.past)
    → Unowed l.past.log.now l.past.count l.node.0 l.right l.split-iterator.next)
