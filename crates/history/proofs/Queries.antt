-- Laws of the questions asked of a list: an element that does not pass does not count, and one that passes answers, or is
-- weighed against the best so far. A walk from the newest element on carries the best so far beside the question to the rest.
use mathlib.Core.Path.{◌≡◌, refl, ap, ◌∙◌}
use mathlib.Core.Bool.{Bool, true, false, cond, ◌||◌}
use mathlib.Core.List.{List, [], ◌∷◌}
use Rattle.std.specs.Prelude.{Option, None, Some}
use Prim.Native.Nat.{ℕ, ◌≤◌, ◌<◌}
use native.Mathlib.Omega.{arith}
use lib.Dec.{ltb}
use borrow.Author.Tests.{ltb-true, ltb-false, lt-ltb, le-ltb}
use Rattle.rules.proofs.Skips.{latest_of_skip, earliest_of_skip, greatest_of_skip, lowest_of_skip}
use Rattle.history.specs.Weighing.{weigh, weigh_of, greater_of, lower_of, greatest_step, lowest_step}
use Rattle.rules.specs.History.{when, or_else, latest_of, earliest_of, greater, greatest_of, lower, lowest_of}

-- a question that only elements that pass can change
pub record Ignores {A B : Type 0} (p : A → Bool) (Q : List A → B) : Type 0 where
  pub other : (v : A) (xs : List A) → p v ≡ false → Q (v ∷ xs) ≡ Q xs

-- and whatever is made of its answer, as the best so far beside it
pub ignores_then : {A B C : Type 0} {p : A → Bool} {Q : List A → B} (F : B → C) → Ignores p Q → Ignores p (λ xs. F (Q xs))
ignores_then F q = record { other = λ v xs e. ap F (q.other v xs e) }

module _ {A : Type 0} (p : A → Bool) where
  pub latest_ignores : Ignores p (latest_of p)
  latest_ignores = record { other = latest_of_skip p }

  pub earliest_ignores : Ignores p (earliest_of p)
  earliest_ignores = record { other = earliest_of_skip p }

  pub greatest_ignores : (number : A → ℕ) → Ignores p (greatest_of number p)
  greatest_ignores number = record { other = greatest_of_skip number p }

  pub lowest_ignores : (number : A → ℕ) → Ignores p (lowest_of number p)
  lowest_ignores number = record { other = lowest_of_skip number p }

-- a walk from the newest element on, with what was found so far: `step` takes an element over from the rest to it
pub record Turns {A B C : Type 0} (join : C → B → B) (step : C → A → C) (Q : List A → B) : Type 0 where
  pub turn : (found : C) (v : A) (xs : List A) → join found (Q (v ∷ xs)) ≡ join (step found v) (Q xs)

module _ {A : Type 0} (p : A → Bool) where
  or_assoc : (a b c : Bool) → a || (b || c) ≡ (a || b) || c
  or_assoc true b c = refl
  or_assoc false b c = refl

  -- the earliest: each that passes replaces the one found before
  abbrev pub earliest_step : Option A → A → Option A
  earliest_step found v = cond (p v) (Some v) found

  earliest_turn : (t : Bool) (found : Option A) (v : A) (r : Option A) → or_else (or_else r (when t v)) found ≡ or_else r (cond t (Some v) found)
  earliest_turn true found v None = refl
  earliest_turn true found v (Some u) = refl
  earliest_turn false found v None = refl
  earliest_turn false found v (Some u) = refl

  pub earliest_turns : Turns (λ found r. or_else r found) earliest_step (earliest_of p)
  unfolding earliest_of
  earliest_turns = record { turn = λ found v xs. earliest_turn (p v) found v (earliest_of p xs) }

-- it does not matter from which end one begins
module _ {A : Type 0} (beats : A → A → Bool) (over : (w v u : A) → beats v u ≡ true → beats w v ≡ true → beats w u ≡ true)
    (under : (w v u : A) → beats v u ≡ false → beats w v ≡ false → beats w u ≡ false) where
  weigh_pair : (w v u : A) (s t : Bool) → beats v u ≡ s → beats w v ≡ t
      → weigh beats w (cond s (Some v) (Some u)) ≡ weigh_of beats (cond t (Some w) (Some v)) (Some u)
  weigh_pair w v u true true e d = rw (d, over w v u e d)
  weigh_pair w v u true false e d = rw (d, e)
  weigh_pair w v u false true e d = refl
  weigh_pair w v u false false e d = rw (e, under w v u e d)

  weigh_last : (w v : A) (t : Bool) → cond t (Some w) (Some v) ≡ weigh_of beats (cond t (Some w) (Some v)) None
  weigh_last w v true = refl
  weigh_last w v false = refl

  weigh_assoc : (best : Option A) (v : A) (r : Option A) → weigh_of beats best (weigh beats v r) ≡ weigh_of beats (weigh_of beats best (Some v)) r
  weigh_assoc None v r = refl
  weigh_assoc (Some w) v None = weigh_last w v (beats w v)
  weigh_assoc (Some w) v (Some u) = weigh_pair w v u (beats v u) (beats w v) refl refl

module _ {A : Type 0} (number : A → ℕ) where
  -- at first there is no best
  pub greater_none : (r : Option A) → greater_of number None r ≡ r
  unfolding greater_of
  greater_none r = refl

  pub lower_none : (r : Option A) → lower_of number None r ≡ r
  unfolding lower_of
  lower_none r = refl

  -- one more element to weigh: it replaces the best so far unless that one is better
  pub greater_keep : {w v : A} → number v < number w → greater_of number (Some w) (Some v) ≡ Some w
  unfolding greater_of
  greater_keep {w} {v} l = rw (lt-ltb (number v) (number w) l)

  pub greater_take : {w v : A} → number w ≤ number v → greater_of number (Some w) (Some v) ≡ Some v
  unfolding greater_of
  greater_take {w} {v} l = rw (le-ltb (number v) (number w) l)

  pub lower_keep : {w v : A} → number w < number v → lower_of number (Some w) (Some v) ≡ Some w
  unfolding lower_of
  lower_keep {w} {v} l = rw (lt-ltb (number w) (number v) l)

  pub lower_take : {w v : A} → number v ≤ number w → lower_of number (Some w) (Some v) ≡ Some v
  unfolding lower_of
  lower_take {w} {v} l = rw (le-ltb (number w) (number v) l)

  greater_weighs : (v : A) (r : Option A) → greater number v r ≡ greater_of number (Some v) r
  unfolding greater_of
  greater_weighs v None = refl
  greater_weighs v (Some u) = refl

  lower_weighs : (v : A) (r : Option A) → lower number v r ≡ lower_of number (Some v) r
  unfolding lower_of
  lower_weighs v None = refl
  lower_weighs v (Some u) = refl

  greater_assoc : (best : Option A) (v : A) (r : Option A) → greater_of number best (greater number v r) ≡ greater_of number (greater_of number best (Some v)) r
  unfolding greater_of
  greater_assoc best v r =
      ap (greater_of number best) (greater_weighs v r)
      ∙ weigh_assoc (λ w v. ltb (number v) (number w))
      (λ w v u e d. lt-ltb (number u) (number w) (omega (arith, ltb-true (number u) (number v) e, ltb-true (number v) (number w) d)))
      (λ w v u e d. le-ltb (number u) (number w) (omega (arith, ltb-false (number u) (number v) e, ltb-false (number v) (number w) d)))
      best v r

  lower_assoc : (best : Option A) (v : A) (r : Option A) → lower_of number best (lower number v r) ≡ lower_of number (lower_of number best (Some v)) r
  unfolding lower_of
  lower_assoc best v r =
      ap (lower_of number best) (lower_weighs v r)
      ∙ weigh_assoc (λ w v. ltb (number w) (number v))
      (λ w v u e d. lt-ltb (number w) (number u) (omega (arith, ltb-true (number v) (number u) e, ltb-true (number w) (number v) d)))
      (λ w v u e d. le-ltb (number w) (number u) (omega (arith, ltb-false (number v) (number u) e, ltb-false (number w) (number v) d)))
      best v r

  -- one that passes is weighed against the best so far
  greatest_turn : (t : Bool) (best : Option A) (v : A) (r : Option A)
      → greater_of number best (cond t (greater number v r) r) ≡ greater_of number (cond t (greater_of number best (Some v)) best) r
  greatest_turn true best v r = greater_assoc best v r
  greatest_turn false best v r = refl

  lowest_turn : (t : Bool) (best : Option A) (v : A) (r : Option A)
      → lower_of number best (cond t (lower number v r) r) ≡ lower_of number (cond t (lower_of number best (Some v)) best) r
  lowest_turn true best v r = lower_assoc best v r
  lowest_turn false best v r = refl

  pub greatest_turns : (p : A → Bool) → Turns (greater_of number) (greatest_step number p) (greatest_of number p)
  unfolding greatest_of
  greatest_turns p = record { turn = λ best v xs. greatest_turn (p v) best v (greatest_of number p xs) }

  pub lowest_turns : (p : A → Bool) → Turns (lower_of number) (lowest_step number p) (lowest_of number p)
  unfolding lowest_of
  lowest_turns p = record { turn = λ best v xs. lowest_turn (p v) best v (lowest_of number p xs) }

  -- and its end
  pub greatest_end : (p : A → Bool) (best : Option A) → greater_of number best (greatest_of number p []) ≡ best
  unfolding greater_of greatest_of
  greatest_end p None = refl
  greatest_end p (Some v) = refl

  pub lowest_end : (p : A → Bool) (best : Option A) → lower_of number best (lowest_of number p []) ≡ best
  unfolding lower_of lowest_of
  lowest_end p None = refl
  lowest_end p (Some v) = refl
