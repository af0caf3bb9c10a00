-- `any_of` along a list of numbers by its places, as a record's voters are read.
use mathlib.Core.Path.{◌≡◌, sym, ap, ◌∙◌}
use mathlib.Core.Bool.{Bool, ◌||◌}
use mathlib.Core.List.{List, [], ◌∷◌}
use Prim.Native.Nat.{ℕ, suc, ◌+◌}
use native.Mathlib.Omega.{arith}
use lib.ListN.{length, get_or}
use Rattle.std.specs.List.{list_any, range_with_len}
use Rattle.rules.specs.History.{any_of}
use Rattle.rules.proofs.Skips.{any_of_nil}

module _ (p : ℕ → Bool) (ws : List ℕ) where
  any_from : (a : ℕ) (vs : List ℕ) → ((k : ℕ) → get_or ws (a + k) 0 ≡ get_or vs k 0)
      → list_any (λ i. p (get_or ws i 0)) (range_with_len a (length vs)) ≡ any_of p vs
  unfolding any_of
  any_from a [] e = sym (any_of_nil p)
  any_from a (v ∷ vs) e =
      let first : a + 0 ≡ a = omega arith in
      ap (λ (b : Bool). b || list_any (λ i. p (get_or ws i 0)) (range_with_len (a + 1) (length vs)))
      (ap (λ (i : ℕ). p (get_or ws i 0)) (sym first) ∙ ap p (e 0))
      ∙ ap (λ (b : Bool). p v || b)
      (any_from (a + 1) vs (λ k. let next : a + 1 + k ≡ a + suc k = omega arith in ap (λ (i : ℕ). get_or ws i 0) next ∙ e (suc k)))

-- some element passes where one does at some place
pub any_place : (p : ℕ → Bool) (vs : List ℕ) → list_any (λ i. p (get_or vs i 0)) (range_with_len 0 (length vs)) ≡ any_of p vs
any_place p vs = any_from p vs 0 vs (λ k. let same : 0 + k ≡ k = omega arith in ap (λ (i : ℕ). get_or vs i 0) same)
