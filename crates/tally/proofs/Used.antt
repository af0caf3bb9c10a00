-- How many places of a record are used: of a check's, of the totals', and never more than there are. Assumes nothing.
use mathlib.Core.Path.{◌≡◌, ap}
use mathlib.Core.Bool.{Bool, cond}
use Prim.Native.Nat.{ℕ, ◌+◌, ◌≤◌, ◌<◌}
use native.Mathlib.Omega.{arith}
use native.Mathlib.Decide.{dec_lt}
use borrow.Author.Tests.{lt-ltb, le-ltb}
use Rattle.rules.specs.Checks.{check_count, check_at}
use Rattle.tally.specs.Counts.{place_count, used_places}
use Rattle.tally.proofs.Counts.{kinds_few}

pub used_check : (k : ℕ) → k < check_count → used_places k ≡ (check_at k).kinds + 1
unfolding used_places
used_check k l = ap (λ (b : Bool). cond b ((check_at k).kinds + 1) 2) (lt-ltb k check_count l)

pub used_totals : (k : ℕ) → check_count ≤ k → used_places k ≡ 2
unfolding used_places
used_totals k l = ap (λ (b : Bool). cond b ((check_at k).kinds + 1) 2) (le-ltb k check_count l)

pub used_most : (k : ℕ) → used_places k ≤ place_count
used_most k = elim (dec_lt k check_count) [
  | yes l ↦ omega (arith, used_check k l, kinds_few k l)
  | no l ↦ omega (arith, used_totals k (omega arith))
]
