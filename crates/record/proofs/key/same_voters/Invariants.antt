-- Each voter is the number at its place; two lists of one length are the same where every place that was passed is.
use mathlib.Core.Path.{◌≡◌}
use Prim.Native.Nat.{ℕ, ◌-◌, ◌≤◌, ◌<◌}
use lib.ListN.{get_or}
use Rattle.record.specs.Records.{voters_in}
use Rattle.record.proofs.key.same_voters.Given as goal

abbrev pub invariant-loop-i : goal.invariant-loop-i
invariant-loop-i l = (l.i ≤ l.n) × ((k : ℕ) → k < l.i → get_or (voters_in l.a) k 0 ≡ get_or (voters_in l.b) k 0)

abbrev pub decreases-loop-i : goal.decreases-loop-i
decreases-loop-i l = l.n - l.i
