-- The earliest fault of a list that is newest first, and the first of a list in its order: the case of the element that is found.
use mathlib.Core.Path.{◌≡◌, refl, sym, ap, ◌∙◌}
use mathlib.Core.Bool.{Bool, true, false, cond}
use mathlib.Core.List.{List, [], ◌∷◌}
use Rattle.std.specs.Prelude.{Option, None, Some}
use Rattle.rules.specs.Cases.{Case, is_fault, or_case, case_of, earliest_case, first_case}
use Rattle.rules.specs.History.{when, or_else, those, latest_of, earliest_of}
use Rattle.record.proofs.Booleans.{never}
use Rattle.rules.proofs.Members.{Mem, mem_nil, mem_cons}
use Rattle.rules.proofs.Placed.{Answer, placed_mem, Earliest, earliest_of_right, earliest_meets}

-- a case that is no fault is clear
pub clear_of : (c : Case) → is_fault c ≡ false → c ≡ None
clear_of None e = refl
clear_of (Some f) e = never refl e

pub or_case_fault : (c d : Case) → is_fault c ≡ true → or_case c d ≡ c
or_case_fault None d e = never e refl
or_case_fault (Some f) d e = refl

pub or_clear : (c : Case) → or_case c None ≡ c
or_clear None = refl
or_clear (Some f) = refl

-- where neither of two is a fault
pub clear_left : (c d : Case) → or_case c d ≡ None → c ≡ None
clear_left None d e = refl
clear_left (Some f) d e = e

pub clear_right : (c d : Case) → or_case c d ≡ None → d ≡ None
clear_right None d e = e
clear_right (Some f) d e = never refl (ap is_fault e)

module _ {A : Type 0} (f : A → Case) where
  abbrev pub is_faulty : A → Bool
  is_faulty x = is_fault (f x)

  by_case : (x : A) (c : Case) → f x ≡ c → or_case None c ≡ case_of f (when (is_fault c) x)
  by_case x None e = refl
  by_case x (Some f) e = sym e

  earliest_next : (x : A) (xs : List A) (o : Option A) → Answer (Earliest is_faulty xs) is_faulty xs o
      → or_case (case_of f o) (f x) ≡ case_of f (or_else o (when (is_faulty x) x))
  earliest_next x xs None h = by_case x (f x) refl
  earliest_next x xs (Some r) h = or_case_fault (f r) (f x) h.place.passes

  pub earliest_case_is : (xs : List A) → earliest_case f xs ≡ case_of f (earliest_of is_faulty xs)
  unfolding earliest_case earliest_of
  earliest_case_is [] = refl
  earliest_case_is (x ∷ xs) =
      ap (λ (c : Case). or_case c (f x)) (earliest_case_is xs) ∙ earliest_next x xs (earliest_of is_faulty xs) (earliest_of_right is_faulty xs)

  -- where there is no fault, none of the elements has one
  clear_head : (x : A) (xs : List A) → earliest_case f (x ∷ xs) ≡ None → f x ≡ None
  unfolding earliest_case
  clear_head x xs h = clear_right (earliest_case f xs) (f x) h

  clear_rest : (x : A) (xs : List A) → earliest_case f (x ∷ xs) ≡ None → earliest_case f xs ≡ None
  unfolding earliest_case
  clear_rest x xs h = clear_left (earliest_case f xs) (f x) h

  pub clear_each : (xs : List A) → earliest_case f xs ≡ None → (y : A) → Mem y xs → f y ≡ None
  clear_each [] h y m = mem_nil m
  clear_each (x ∷ xs) h y m = mem_cons (clear_head x xs h) (clear_each xs (clear_rest x xs h)) y m

  pub found_clear : (p : A → Bool) (xs : List A) (y : A) → earliest_case f xs ≡ None → earliest_of p xs ≡ Some y → f y ≡ None
  found_clear p xs y h e = clear_each xs h y (placed_mem (earliest_meets p e).place)

  -- and two tests that agree wherever there is none find the same
  pub earliest_agree : (p q : A → Bool) → ((x : A) → f x ≡ None → p x ≡ q x) → (xs : List A) → earliest_case f xs ≡ None
      → earliest_of p xs ≡ earliest_of q xs
  unfolding earliest_of
  earliest_agree p q e [] h = refl
  earliest_agree p q e (x ∷ xs) h = rw (e x (clear_head x xs h), earliest_agree p q e xs (clear_rest x xs h))

  first_next : (x : A) (o : Option A) (c : Case) → f x ≡ c → or_case c (case_of f o) ≡ case_of f (cond (is_fault c) (Some x) o)
  first_next x o None e = refl
  first_next x o (Some f) e = sym e

  pub first_case_is : (xs : List A) → first_case f xs ≡ case_of f (latest_of is_faulty xs)
  unfolding first_case latest_of
  first_case_is [] = refl
  first_case_is (x ∷ xs) = ap (or_case (f x)) (first_case_is xs) ∙ first_next x (latest_of is_faulty xs) (f x) refl

-- where f has no fault, and g is f at those that p leaves out, those that pass p are enough to look at
module _ {A : Type 0} (f g : A → Case) (p : A → Bool) (e : (x : A) → p x ≡ false → g x ≡ f x) where
  those_step : (x : A) (xs ys : List A) (b : Bool) → earliest_case g xs ≡ earliest_case g ys → (b ≡ false → g x ≡ None)
      → or_case (earliest_case g xs) (g x) ≡ earliest_case g (cond b (x ∷ ys) ys)
  unfolding earliest_case
  those_step x xs ys true i k = rw i
  those_step x xs ys false i k = rw (k refl, i) (or_clear _)

  pub those_enough : (xs : List A) → earliest_case f xs ≡ None → earliest_case g xs ≡ earliest_case g (those p xs)
  unfolding earliest_case those
  those_enough [] h = refl
  those_enough (x ∷ xs) h =
      those_step x xs (those p xs) (p x) (those_enough xs (clear_rest f x xs h)) (λ t. e x t ∙ clear_head f x xs h)
