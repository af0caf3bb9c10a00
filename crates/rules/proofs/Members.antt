-- Laws of membership in a list.
use mathlib.Core.Path.{◌≡◌, refl, ap, ◌∙◌}
use mathlib.Core.Bool.{Bool, true, false, cond}
use mathlib.Core.List.{List, [], ◌∷◌, ◌++◌}
use mathlib.Core.Logic.{⊎_elim}
pub use Rattle.rules.specs.History.{Mem, here, there}
use Rattle.rules.specs.History.{any_of, those}
use Rattle.record.proofs.Booleans.{decide, never, or_cases, or_left, or_right}
use Rattle.rules.proofs.Skips.{those_nil, those_hit, those_skip}

module _ {A : Type 0} where
  pub mem_nil : {B : Type 0} {x : A} → Mem x [] → B
  mem_nil = elim [ ]

  -- what holds of a head and of each of a tail
  pub mem_cons : {P : A → Type 0} {x : A} {xs : List A} → P x → ((y : A) → Mem y xs → P y) → (y : A) → Mem y (x ∷ xs) → P y
  mem_cons p h y here = p
  mem_cons p h y (there m) = h y m

  pub mem_left : {x : A} {xs : List A} (ys : List A) → Mem x xs → Mem x (xs ++ ys)
  mem_left ys here = here
  mem_left ys (there m) = there (mem_left ys m)

  pub mem_right : {x : A} {ys : List A} (xs : List A) → Mem x ys → Mem x (xs ++ ys)
  mem_right [] m = m
  mem_right (y ∷ xs) m = there (mem_right xs m)

  -- an element that passes
  pub record Passing (p : A → Bool) (xs : List A) : Type 0 where
    pub it : A
    pub mem : Mem it xs
    pub passes : p it ≡ true

  -- no element passes
  abbrev pub NonePasses : (A → Bool) → List A → Type 0
  NonePasses p xs = (y : A) → Mem y xs → p y ≡ false

  -- `any_of`: some member passes, each way; or none does
  pub any_of_mem : (p : A → Bool) {x : A} {xs : List A} → Mem x xs → p x ≡ true → any_of p xs ≡ true
  unfolding any_of
  any_of_mem p {x} (here {xs = xs}) e = or_left (p x) (any_of p xs) e
  any_of_mem p (there {y = y} {xs = xs} m) e = or_right (p y) (any_of p xs) (any_of_mem p m e)

  pub any_of_some : (p : A → Bool) (xs : List A) → any_of p xs ≡ true → Passing p xs
  unfolding any_of
  any_of_some p [] e = never e refl
  any_of_some p (x ∷ xs) e = ⊎_elim
      (λ h. record { it = x; mem = here; passes = h })
      (λ h. let w = any_of_some p xs h in record { it = w.it; mem = there w.mem; passes = w.passes })
      (or_cases (p x) (any_of p xs) e)

  pub any_of_none : (p : A → Bool) (xs : List A) → any_of p xs ≡ false → NonePasses p xs
  any_of_none p xs e y m = by_test (p y) refl
    where
      by_test : (b : Bool) → p y ≡ b → p y ≡ false
      by_test true q = never (any_of_mem p m q) e
      by_test false q = q

  pub none_any_of : (p : A → Bool) (xs : List A) → NonePasses p xs → any_of p xs ≡ false
  none_any_of p xs h = by_test (any_of p xs) refl
    where
      by_test : (b : Bool) → any_of p xs ≡ b → any_of p xs ≡ false
      by_test true q = let w = any_of_some p xs q in never w.passes (h w.it w.mem)
      by_test false q = q

  -- where no member passes a test, none passes a narrower one
  pub any_of_less : (p q : A → Bool) → ((x : A) → q x ≡ true → p x ≡ true) → (xs : List A) → any_of p xs ≡ false → any_of q xs ≡ false
  any_of_less p q i xs e = none_any_of q xs (λ y m. ⊎_elim (λ t. never (i y t) (any_of_none p xs e y m)) (λ t. t) (decide (q y)))

  -- `those`: the members that pass, each way, and in their order
  those_head : (p : A → Bool) (x : A) (xs : List A) {y : A} (b : Bool) → p x ≡ b → (Mem y (those p xs) → Mem y xs × (p y ≡ true))
      → Mem y (cond b (x ∷ those p xs) (those p xs)) → Mem y (x ∷ xs) × (p y ≡ true)
  those_head p x xs true e f here = (here, e)
  those_head p x xs true e f (there n) = let w = f n in (there w.0, w.1)
  those_head p x xs false e f n = let w = f n in (there w.0, w.1)

  pub those_mem : (p : A → Bool) (xs : List A) {y : A} → Mem y (those p xs) → Mem y xs × (p y ≡ true)
  unfolding those
  those_mem p [] m = mem_nil m
  those_mem p (x ∷ xs) m = those_head p x xs (p x) refl (λ n. those_mem p xs n) m

  pub mem_those : (p : A → Bool) {xs : List A} {y : A} → Mem y xs → p y ≡ true → Mem y (those p xs)
  mem_those p (here {x = x} {xs = xs}) e = rw (those_hit p x xs e) here
  mem_those p (there {y = x} {xs = xs} m) e = ⊎_elim
      (λ h. rw (those_hit p x xs h) (there (mem_those p m e)))
      (λ h. rw (those_skip p x xs h) (mem_those p m e))
      (decide (p x))

  pub those_append : (p : A → Bool) (xs ys : List A) → those p (xs ++ ys) ≡ those p xs ++ those p ys
  unfolding those
  those_append p [] ys = refl
  those_append p (x ∷ xs) ys = by_test (p x) (those_append p xs ys)
    where
      by_test : (b : Bool) → those p (xs ++ ys) ≡ those p xs ++ those p ys
          → cond b (x ∷ those p (xs ++ ys)) (those p (xs ++ ys)) ≡ cond b (x ∷ those p xs) (those p xs) ++ those p ys
      by_test true e = rw e
      by_test false e = e

  pub those_none : (p : A → Bool) (xs : List A) → NonePasses p xs → those p xs ≡ []
  those_none p [] h = those_nil p
  those_none p (x ∷ xs) h = those_skip p x xs (h x here) ∙ those_none p xs (λ y m. h y (there m))

  -- what stays of two lists, with one more in front of both
  pub those_under : (p : A → Bool) (x : A) (xs ys zs : List A) → those p xs ≡ those p ys ++ zs → those p (x ∷ xs) ≡ those p (x ∷ ys) ++ zs
  unfolding those
  those_under p x xs ys zs e = by_test (p x)
    where
      by_test : (b : Bool) → cond b (x ∷ those p xs) (those p xs) ≡ cond b (x ∷ those p ys) (those p ys) ++ zs
      by_test true = ap (λ (l : List A). x ∷ l) e
      by_test false = e
