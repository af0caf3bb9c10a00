-- The laws of the decoded record: how many voters and spans there are, and where each lies. Assumes nothing.
use mathlib.Core.Path.{◌≡◌, refl, ap, ◌∙◌}
use mathlib.Core.List.{List}
use Prim.Native.Nat.{ℕ, zero, suc, ◌+◌, ◌*◌, ◌≤◌, ◌<◌}
use native.Mathlib.Omega.{arith}
use lib.ListN.{length, get_or}
use Rattle.record.specs.Limits.{voter_limit, span_limit, voters_at, spans_at}
use Rattle.record.specs.Numbers.{part, number64}
use Rattle.record.specs.Keys.{key_in}
use Rattle.record.specs.Records.{Span, numbers_from, voters_in, voter_count, span_at, spans_from, spans_in, span_count, decode}

-- ---- voters

pub decode_voters : (s : List ℕ) → (decode s).voters ≡ voters_in s
unfolding decode
decode_voters s = refl

pub length_numbers : (p n : ℕ) (s : List ℕ) → length (numbers_from p n s) ≡ n
unfolding numbers_from
length_numbers p zero s = refl
length_numbers p (suc n) s = ap suc (length_numbers (p + 8) n s)

pub numbers_at : (p n i : ℕ) (s : List ℕ) → i < n → get_or (numbers_from p n s) i 0 ≡ number64 (p + 8 * i) s
unfolding numbers_from
numbers_at p zero i s h = absurd (omega arith)
numbers_at p (suc n) zero s h = let e : p ≡ p + 8 * 0 = omega arith in ap (λ (q : ℕ). number64 q s) e
numbers_at p (suc n) (suc i) s h =
    let e : p + 8 + 8 * i ≡ p + 8 * suc i = omega arith in
    numbers_at (p + 8) n i s (omega arith) ∙ ap (λ (q : ℕ). number64 q s) e

pub length_voters : (s : List ℕ) → length (voters_in s) ≡ voter_count s
unfolding voters_in
length_voters s = length_numbers voters_at (voter_count s) s

-- "at most five"
pub few_voters : (s : List ℕ) → length (decode s).voters ≤ voter_limit
unfolding decode
few_voters s = omega (arith, length_voters s)

pub voter_at : (i : ℕ) (s : List ℕ) → i < length (voters_in s) → get_or (voters_in s) i 0 ≡ number64 (voters_at + 8 * i) s
unfolding voters_in
voter_at i s h = numbers_at voters_at (voter_count s) i s (omega (arith, length_numbers voters_at (voter_count s) s))

-- ---- spans

pub length_spans_from : (p n : ℕ) (s : List ℕ) → length (spans_from p n s) ≡ n
unfolding spans_from
length_spans_from p zero s = refl
length_spans_from p (suc n) s = ap suc (length_spans_from (p + 64) n s)

pub spans_from_at : (d : Span) (p n i : ℕ) (s : List ℕ) → i < n → get_or (spans_from p n s) i d ≡ span_at (p + 64 * i) s
unfolding spans_from
spans_from_at d p zero i s h = absurd (omega arith)
spans_from_at d p (suc n) zero s h = let e : p ≡ p + 64 * 0 = omega arith in ap (λ (q : ℕ). span_at q s) e
spans_from_at d p (suc n) (suc i) s h =
    let e : p + 64 + 64 * i ≡ p + 64 * suc i = omega arith in
    spans_from_at d (p + 64) n i s (omega arith) ∙ ap (λ (q : ℕ). span_at q s) e

pub length_spans : (s : List ℕ) → length (spans_in s) ≡ span_count s
unfolding spans_in
length_spans s = length_spans_from spans_at (span_count s) s

-- "four spans"
pub few_spans : (s : List ℕ) → length (decode s).spans ≤ span_limit
unfolding decode
few_spans s = omega (arith, length_spans s)

-- the k-th span of a record that has one, whatever is read past the last one
module _ (d : Span) (k : ℕ) (s : List ℕ) (h : k < length (decode s).spans) where
  pub span_at_lem : get_or (decode s).spans k d ≡ span_at (spans_at + 64 * k) s
  unfolding decode spans_in
  span_at_lem = spans_from_at d spans_at (span_count s) k s (omega (arith, length_spans_from spans_at (span_count s) s))

  pub span_start : (get_or (decode s).spans k d).start ≡ key_in (part (112 + 64 * k) (144 + 64 * k) s)
  span_start =
      let e : 112 + 64 * k + 32 ≡ 144 + 64 * k = omega arith in
      ap (λ (x : Span). x.start) span_at_lem ∙ ap (λ (q : ℕ). key_in (part (112 + 64 * k) q s)) e

  pub span_end : (get_or (decode s).spans k d).end ≡ key_in (part (144 + 64 * k) (176 + 64 * k) s)
  span_end =
      let a : 112 + 64 * k + 32 ≡ 144 + 64 * k = omega arith in
      let e : 112 + 64 * k + 64 ≡ 176 + 64 * k = omega arith in
      ap (λ (x : Span). x.end) span_at_lem
      ∙ ap (λ (q : ℕ). key_in (part q (112 + 64 * k + 64) s)) a
      ∙ ap (λ (q : ℕ). key_in (part (144 + 64 * k) q s)) e
