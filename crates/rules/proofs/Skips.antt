-- One more record, one more element: what each way of looking back makes of it, as equations for the proofs of code.
use mathlib.Core.Path.{◌≡◌, refl}
use mathlib.Core.Bool.{Bool, true, false, cond}
use mathlib.Core.List.{List, [], ◌∷◌}
use Rattle.std.specs.Prelude.{Option, None, Some}
use Prim.Native.Nat.{ℕ}
use Rattle.record.specs.Records.{TraceRecord}
use Rattle.rules.specs.History.{History, Tells, when, or_else, any_of, those, latest_of, earliest_of, greatest_of, lowest_of, told, latest, firsts}

module _ {A : Type 0} where
  either : (b : Bool) (a : A) → cond b a a ≡ a
  either true a = refl
  either false a = refl

  skipped : (a : A) (b : Bool) → b ≡ false → (o : Option A) → or_else o (when b a) ≡ o
  skipped a b e None = rw e
  skipped a b e (Some y) = refl

-- nothing yet
module _ {A : Type 0} (p : A → Bool) where
  pub any_of_nil : any_of p [] ≡ false
  unfolding any_of
  any_of_nil = refl

  pub those_nil : those p [] ≡ []
  unfolding those
  those_nil = refl

  pub latest_of_nil : latest_of p [] ≡ None
  unfolding latest_of
  latest_of_nil = refl

module _ {A : Type 0} (tells : Tells A) where
  pub told_nil : told tells [] ≡ []
  unfolding told
  told_nil = refl

  pub firsts_nil : (same : A → A → Bool) → firsts same tells [] ≡ []
  unfolding firsts
  firsts_nil same = refl

-- one more element
module _ {A : Type 0} (p : A → Bool) (x : A) (xs : List A) where
  pub any_of_hit : p x ≡ true → any_of p (x ∷ xs) ≡ true
  unfolding any_of
  any_of_hit e = rw e

  pub any_of_skip : p x ≡ false → any_of p (x ∷ xs) ≡ any_of p xs
  unfolding any_of
  any_of_skip e = rw e

  pub those_hit : p x ≡ true → those p (x ∷ xs) ≡ x ∷ those p xs
  unfolding those
  those_hit e = rw e

  pub those_skip : p x ≡ false → those p (x ∷ xs) ≡ those p xs
  unfolding those
  those_skip e = rw e

  pub latest_of_hit : p x ≡ true → latest_of p (x ∷ xs) ≡ Some x
  unfolding latest_of
  latest_of_hit e = rw e

  pub latest_of_skip : p x ≡ false → latest_of p (x ∷ xs) ≡ latest_of p xs
  unfolding latest_of
  latest_of_skip e = rw e

  -- an earlier one was found, or the new one is the first to pass
  pub earliest_of_kept : (y : A) → earliest_of p xs ≡ Some y → earliest_of p (x ∷ xs) ≡ Some y
  unfolding earliest_of
  earliest_of_kept y e = rw e

  pub earliest_of_hit : earliest_of p xs ≡ None → p x ≡ true → earliest_of p (x ∷ xs) ≡ Some x
  unfolding earliest_of
  earliest_of_hit e f = rw (e, f)

  pub earliest_of_skip : p x ≡ false → earliest_of p (x ∷ xs) ≡ earliest_of p xs
  unfolding earliest_of
  earliest_of_skip e = skipped x (p x) e (earliest_of p xs)

module _ {A : Type 0} (number : A → ℕ) (p : A → Bool) (x : A) (xs : List A) where
  pub greatest_of_skip : p x ≡ false → greatest_of number p (x ∷ xs) ≡ greatest_of number p xs
  unfolding greatest_of
  greatest_of_skip e = rw e

  pub lowest_of_skip : p x ≡ false → lowest_of number p (x ∷ xs) ≡ lowest_of number p xs
  unfolding lowest_of
  lowest_of_skip e = rw e

-- one more record
module _ {A : Type 0} (tells : Tells A) (x : TraceRecord) (h : History) where
  pub told_hit : (a : A) → tells x h ≡ Some a → told tells (x ∷ h) ≡ a ∷ told tells h
  unfolding told
  told_hit a e = rw e

  pub told_skip : tells x h ≡ None → told tells (x ∷ h) ≡ told tells h
  unfolding told
  told_skip e = rw e

  pub latest_hit : (a : A) → tells x h ≡ Some a → latest tells (x ∷ h) ≡ Some a
  unfolding latest
  latest_hit a e = rw e

  pub latest_skip : tells x h ≡ None → latest tells (x ∷ h) ≡ latest tells h
  unfolding latest
  latest_skip e = rw e

module _ {A : Type 0} (same : A → A → Bool) (tells : Tells A) (x : TraceRecord) (h : History) where
  pub firsts_skip : tells x h ≡ None → firsts same tells (x ∷ h) ≡ firsts same tells h
  unfolding firsts
  firsts_skip e = rw e

  -- it tells of what no earlier one did, or of what is known
  pub firsts_hit : (a : A) → tells x h ≡ Some a → any_of (same a) (firsts same tells h) ≡ false → firsts same tells (x ∷ h) ≡ a ∷ firsts same tells h
  unfolding firsts
  firsts_hit a e f = rw (e, f)

  pub firsts_known : (a : A) → tells x h ≡ Some a → any_of (same a) (firsts same tells h) ≡ true → firsts same tells (x ∷ h) ≡ firsts same tells h
  unfolding firsts
  firsts_known a e f = rw (e, f)
