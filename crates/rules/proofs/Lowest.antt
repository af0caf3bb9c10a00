-- The lowest number that passes a test: there is one answer, and a walk that takes one number after another comes to it.
use mathlib.Core.Path.{◌≡◌, refl, sym, ap, ◌∙◌}
use mathlib.Core.Bool.{Bool, true, false, cond}
use mathlib.Core.Logic.{◌⊎◌, inl, inr}
use Rattle.std.proofs.lemmas.Option.{same_Some}
use Rattle.std.specs.Prelude.{Option, None, Some}
use Prim.Native.Nat.{ℕ, ◌≤◌}
use native.Mathlib.Omega.{arith}
use native.Mathlib.Decide.{dec_lt}
use lib.Dec.{leb, ltb}
use borrow.Author.Tests.{lt-ltb, le-ltb, le-leb, leb-true, ltb-false}
use Rattle.rules.specs.History.{holds, lower}
use Rattle.rules.proofs.Candidates.{LowestOfAll}
use Rattle.record.proofs.Booleans.{never, decide}

-- the answer is at most a number
abbrev pub at_most : Option ℕ → ℕ → Bool
at_most None r = false
at_most (Some b) r = leb b r

-- the answer, if there is one, passes
pub record Sound (P : ℕ → Bool) (o : Option ℕ) : Type 0 where
  pub is : (b : ℕ) → o ≡ Some b → P b ≡ true

-- the answer is the lowest number that passes
pub record Least (P : ℕ → Bool) (o : Option ℕ) : Type 0 where
  pub sound : Sound P o
  pub least : (r : ℕ) → P r ≡ true → at_most o r ≡ true

pub least_same : {P : ℕ → Bool} (o q : Option ℕ) → Least P o → Least P q → o ≡ q
least_same None None p q = refl
least_same None (Some b) p q = never (p.least b (q.sound.is b refl)) refl
least_same (Some a) None p q = never (q.least a (p.sound.is a refl)) refl
least_same (Some a) (Some b) p q =
    let l : a ≤ b = leb-true a b (p.least b (q.sound.is b refl)) in
    let m : b ≤ a = leb-true b a (q.least a (p.sound.is a refl)) in
    let e : a ≡ b = omega arith in
    ap Some e

-- ---- one number more

abbrev pub lowered : Bool → ℕ → Option ℕ → Option ℕ
lowered t x o = cond t (lower (λ n. n) x o) o

lower_is : (x y : ℕ) → (lower (λ n. n) x (Some y) ≡ Some x) ⊎ (lower (λ n. n) x (Some y) ≡ Some y)
lower_is x y = elim (decide (ltb x y)) [ inl e ↦ inl (rw e) | inr e ↦ inr (rw e) ]

pub none_sound : (P : ℕ → Bool) → Sound P None
none_sound P = record { is = λ b e. let z : ◌≡◌ {A = ℕ} 0 1 = cc in absurd (omega arith) }

module _ (P : ℕ → Bool) (x : ℕ) where
  pub sound_lower : (t : Bool) (o : Option ℕ) → P x ≡ t → Sound P o → Sound P (lowered t x o)
  sound_lower false o e s = s
  sound_lower true None e s = record { is = λ b q. ap P (sym (same_Some _ _ q)) ∙ e }
  sound_lower true (Some y) e s = record {
    is = λ b q.
        elim (lower_is x y) [
          | inl h ↦ ap P (sym (same_Some _ _ (sym h ∙ q))) ∙ e
          | inr h ↦ s.is b (sym h ∙ q)
        ];
  }

module _ (x r : ℕ) where
  -- it is no higher than it was ..
  pub at_most_still : (t : Bool) (o : Option ℕ) → at_most o r ≡ true → at_most (lowered t x o) r ≡ true
  at_most_still false o e = e
  at_most_still true None e = never e refl
  at_most_still true (Some y) e =
      elim (dec_lt x y) [
        | yes l ↦ rw (lt-ltb x y l) (le-leb x r (omega (arith, leb-true y r e)))
        | no l ↦ rw (le-ltb x y (omega arith)) e
      ]

  -- .. and no higher than the new one
  pub at_most_new : (o : Option ℕ) → x ≤ r → at_most (lowered true x o) r ≡ true
  at_most_new None l = le-leb x r l
  at_most_new (Some y) l =
      elim (dec_lt x y) [
        | yes h ↦ rw (lt-ltb x y h) (le-leb x r l)
        | no h ↦ rw (le-ltb x y (omega arith)) (le-leb y r (omega arith))
      ]

-- ---- what the rules say

pub of_all : {P : ℕ → Bool} (o : Option ℕ) → LowestOfAll P o → Least P o
of_all {P} None h = record { sound = none_sound P; least = λ r p. never p (h r) }
of_all {P} (Some b) h = record {
  sound = record { is = λ c e. ap P (sym (same_Some _ _ e)) ∙ h.0 };
  least = λ r p. le-leb b r (h.1 r p);
}

-- a walk's answer is the lowest of all
pub least_found : {P : ℕ → Bool} (o q : Option ℕ) → Least P o → LowestOfAll P q → o ≡ q
least_found o q p l = least_same o q p (of_all q l)

-- the lowest of all is one
pub one_lowest : (P : ℕ → Bool) (o q : Option ℕ) → LowestOfAll P o → LowestOfAll P q → o ≡ q
one_lowest P o q p l = least_same o q (of_all o p) (of_all q l)

-- a number that the lowest is not below is at most every one that passes
pub at_least : (P : ℕ → Bool) (o : Option ℕ) (r n : ℕ) → LowestOfAll P o → holds (λ b. ltb b r) o ≡ false → P n ≡ true → r ≤ n
at_least P None r n w e p = never p (w n)
at_least P (Some b) r n w e p =
    let u : r ≤ b = ltb-false b r e in
    let v : b ≤ n = w.1 n p in
    omega arith
