-- What the test of refusal 5 says, as facts about numbers, both ways. Assumes nothing.
use mathlib.Core.Path.{◌≡◌}
use mathlib.Core.Bool.{true, ◌&&◌}
use mathlib.Core.List.{List}
use Prim.Native.Nat.{ℕ, ◌*◌, ◌≤◌}
use native.Mathlib.Omega.{arith}
use lib.ListN.{length}
use lib.Dec.{eqb, leb}
use borrow.Author.Tests.{eqb-true, eq-eqb, leb-true, le-leb}
use Rattle.record.proofs.Booleans.{and_left, and_right}
use Rattle.history.specs.Bounds.{Bounds}
use Rattle.decision.specs.Refusals.{fits_by, suits_by}

-- the numbers of a judge, and the lengths of its buffers
pub record Suiting (capacity count logs words : ℕ) : Type 0 where
  pub small : capacity ≤ 4096
  pub within : count ≤ capacity
  pub log : logs ≡ 368 * capacity
  pub work : words ≡ 32 * capacity

pub small_by : (capacity count : ℕ) → fits_by capacity count ≡ true → capacity ≤ 4096
small_by capacity count e = leb-true _ _ (and_left (leb capacity 4096) (leb count capacity) e)

module _ {capacity count logs words : ℕ} where
  pub suiting : suits_by capacity count logs words ≡ true → Suiting capacity count logs words
  suiting e =
      let numbers = fits_by capacity count in
      let lengths = eqb logs (368 * capacity) && eqb words (32 * capacity) in
      let n : numbers ≡ true = and_left numbers lengths e in
      let l : lengths ≡ true = and_right numbers lengths e in
      record {
        small = small_by capacity count n;
        within = leb-true _ _ (and_right (leb capacity 4096) (leb count capacity) n);
        log = eqb-true _ _ (and_left (eqb logs (368 * capacity)) (eqb words (32 * capacity)) l);
        work = eqb-true _ _ (and_right (eqb logs (368 * capacity)) (eqb words (32 * capacity)) l);
      }

  pub suits_by_lem : Suiting capacity count logs words → suits_by capacity count logs words ≡ true
  suits_by_lem s = simp (le-leb _ _ s.small, le-leb _ _ s.within, eq-eqb _ _ s.log, eq-eqb _ _ s.work)

pub fits_by_lem : {capacity count : ℕ} → capacity ≤ 4096 → count ≤ capacity → fits_by capacity count ≡ true
fits_by_lem a b = simp (le-leb _ _ a, le-leb _ _ b)

-- the bounds that the checks ask for
pub bounded : {capacity count : ℕ} {log work : List ℕ} → Suiting capacity count (length log) (length work) → (capacity ≡ 0 → ⊥)
    → Bounds log work count capacity
bounded s z =
    let a = s.small in let b = s.within in let c = s.log in let d = s.work in
    record { log_holds = omega arith; work_holds = omega arith; within = b; positive = omega arith; small = a }
