-- The kind table: the rows that a range of kind bytes or the rest of them picks.
use Rattle.std.specs.Prelude.{Some, None}
use mathlib.Core.Path.{◌≡◌, refl, sym, ap, ◌∙◌}
use mathlib.Core.Bool.{Bool, true, false, ◌&&◌, ◌||◌, or-true}
use mathlib.Core.List.{List, [], ◌∷◌}
use Prim.Native.Nat.{ℕ, zero, suc, ◌+◌, ◌≤◌, ◌<◌}
use native.Mathlib.Omega.{arith}
use lib.ListN.{get_or, get_or-eq_default}
use lib.Dec.{eqb, leb}
use borrow.Author.Tests.{eqb-true, eqb-false, leb-true}
use Rattle.form.specs.declared.kind.Shape.{Shape}
use Rattle.record.specs.Limits.{voter_limit, span_limit}
use Rattle.record.proofs.Booleans.{and_left, and_right}
use Rattle.form.specs.KindTable.{numbers, plain, shapes, shape_of, Shaped}

-- one kind more that it is not
pub over : (a k : ℕ) → a ≤ k → (k ≡ a → ⊥) → a + 1 ≤ k
over a k h n = omega arith

-- past the last kind there is none
pub past : (k : ℕ) → 13 ≤ k → shape_of k ≡ None
past k h = get_or-eq_default shapes None h

-- 5 RangesRestated and 6 NodeCrashed have one row
five_six_by : (k : ℕ) → 5 ≤ k → k < 7 → (b : Bool) → eqb k 5 ≡ b → shape_of k ≡ Some (plain (numbers false false false false false))
five_six_by k l h true e = rw (eqb-true k 5 e)
five_six_by k l h false e = let n = eqb-false k 5 e in let q : k ≡ 6 = omega arith in rw q

pub five_six : (k : ℕ) → 5 ≤ k → k < 7 → shape_of k ≡ Some (plain (numbers false false false false false))
five_six k l h = five_six_by k l h (eqb k 5) refl

-- a test of every row, by its kind
abbrev rows_pass : (ℕ → Shaped → Bool) → List Shaped → Bool
rows_pass p [] = true
rows_pass p (x ∷ xs) = p 0 x && rows_pass (λ n. p (suc n)) xs

-- what every row passes, and what is no row passes, each kind byte's row passes
rows : (p : ℕ → Shaped → Bool) → ((n : ℕ) → p n None ≡ true) → (l : List Shaped) → rows_pass p l ≡ true → (n : ℕ) → p n (get_or l n None) ≡ true
rows p u [] h n = u n
rows p u (x ∷ xs) h zero = and_left (p 0 x) (rows_pass (λ n. p (suc n)) xs) h
rows p u (x ∷ xs) h (suc n) = rows (λ m. p (suc m)) (λ m. u (suc m)) xs (and_right (p 0 x) (rows_pass (λ m. p (suc m)) xs) h) n

-- no kind has more voters and spans than the limits
abbrev roomy : Shaped → Bool
roomy None = true
roomy (Some k) = leb k.voters.high voter_limit && leb k.spans.high span_limit

pub record Roomy (k : Shape) : Type 0 where
  pub voters : k.voters.high ≤ voter_limit
  pub spans : k.spans.high ≤ span_limit

pub roomy_kind : (n : ℕ) (k : Shape) → shape_of n ≡ Some k → Roomy k
roomy_kind n k e =
    let h : roomy (Some k) ≡ true = ap roomy (sym e) ∙ rows (λ m. roomy) (λ m. refl) shapes refl n in
    record {
      voters = leb-true _ _ (and_left (leb k.voters.high voter_limit) (leb k.spans.high span_limit) h);
      spans = leb-true _ _ (and_right (leb k.voters.high voter_limit) (leb k.spans.high span_limit) h);
    }

-- no kind but 1, 2, 3, 8 and 12 has spans
abbrev pub has_spans : ℕ → Bool
has_spans n = eqb n 1 || eqb n 2 || eqb n 3 || eqb n 8 || eqb n 12

abbrev spanless : Shaped → Bool
spanless None = true
spanless (Some k) = eqb k.spans.high 0

pub spanless_kind : (n : ℕ) (k : Shape) → shape_of n ≡ Some k → has_spans n ≡ false → k.spans.high ≡ 0
spanless_kind n k e h =
    eqb-true _ _ (ap (λ (b : Bool). b || spanless (Some k)) (sym h)
    ∙ ap (λ (x : Shaped). has_spans n || spanless x) (sym e)
    ∙ rows (λ m x. has_spans m || spanless x) (λ m. or-true (has_spans m)) shapes refl n)
