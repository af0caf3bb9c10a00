-- Bytes that are all zero, and places of keys that all pass a test: one turn of a loop over them, and its end.
use Rattle.std.specs.Prelude.{fold}
use Rattle.std.specs.List.{list_all, range_with_len}
use mathlib.Core.Path.{◌≡◌, refl, sym, ap, ◌∙◌}
use mathlib.Core.Bool.{Bool, true, false, ◌&&◌, and_assoc, and-true}
use mathlib.Core.List.{List, [], ◌∷◌}
use Prim.Native.Nat.{ℕ, zero, suc, ◌+◌, ◌-◌, ◌*◌, ◌≤◌, ◌<◌, max}
use native.Mathlib.Numerals.{add-one}
use native.Mathlib.Omega.{arith}
use lib.Bits.{bit_and, bit_or, and_zero_r, or_zero_r, or_add_and, and_le_l, and_le_r, and_mask}
use lib.ListN.{length, get_or, drop, replicate, drop_of_length-le, get_or-replicate, get_or-append}
use lib.Seq.{drop-cons, get_or-append-add, get_or-take, get_or-drop}
use lib.Dec.{eqb, leb}
use borrow.Author.Tests.{leb-true, leb-false, eqb-true, eqb-false, eq-eqb, ne_eqb}
use Rattle.record.specs.Limits.{spans_at}
use Rattle.record.specs.Numbers.{part}
use Rattle.record.proofs.Ranges.{fold_all}
use Rattle.form.specs.Form.{all_zero, padded, padding_bits, every, places_from}

or_zero_by : (a b : ℕ) (x y : Bool) → eqb a 0 ≡ x → eqb b 0 ≡ y → eqb (bit_or a b) 0 ≡ (x && y)
or_zero_by a b true true p q = let z = eqb-true a 0 p in let w = eqb-true b 0 q in eq-eqb (bit_or a b) 0 (omega (arith, or_add_and a b))
or_zero_by a b true false p q = ne_eqb (bit_or a b) 0 (λ e. eqb-false b 0 q (omega (arith, or_add_and a b, and_le_l a b)))
or_zero_by a b false y p q = ne_eqb (bit_or a b) 0 (λ e. eqb-false a 0 p (omega (arith, or_add_and a b, and_le_r a b)))

-- the bits of two numbers together are none exactly when each has none
or_zero : (a b : ℕ) → eqb (bit_or a b) 0 ≡ (eqb a 0 && eqb b 0)
or_zero a b = or_zero_by a b _ _ refl refl

all_zero_nil : all_zero [] ≡ true
unfolding all_zero
all_zero_nil = refl

all_zero_cons : (x : ℕ) (xs : List ℕ) → all_zero (x ∷ xs) ≡ (eqb x 0 && all_zero xs)
unfolding all_zero
all_zero_cons x xs = refl

zero_step : (s : List ℕ) (i : ℕ) → i < length s → all_zero (drop i s) ≡ (eqb (get_or s i 0) 0 && all_zero (drop (i + 1) s))
zero_step s i l = ap all_zero (drop-cons s i 0 l) ∙ all_zero_cons (get_or s i 0) (drop (suc i) s) ∙ rw add-one

-- the bits of all bytes together, from those of acc on
zero_fold_from : (s : List ℕ) (acc : ℕ) → eqb (fold bit_or acc s) 0 ≡ (eqb acc 0 && all_zero s)
zero_fold_from [] acc = rw (all_zero_nil, and-true)
zero_fold_from (x ∷ xs) acc = zero_fold_from xs (bit_or acc x) ∙ rw (or_zero, all_zero_cons, and_assoc)

-- the bytes' bits together are none exactly when every byte is zero
pub zero_fold : (s : List ℕ) → eqb (fold bit_or 0 s) 0 ≡ all_zero s
zero_fold s = zero_fold_from s 0

every_none : (p : List ℕ → Bool) (q : ℕ) (s : List ℕ) → every p (places_from q 0 s) ≡ true
unfolding every places_from
every_none p q s = refl

every_more : (p : List ℕ → Bool) (q n : ℕ) (s : List ℕ) → every p (places_from q (suc n) s) ≡ (p (part q (q + 32) s) && every p (places_from (q + 32) n s))
unfolding every places_from
every_more p q n s = refl

-- a test of a place by its number is a test of all places, from the a-th on
places_from_at : (p : List ℕ → Bool) (s : List ℕ) (test : ℕ → Bool)
    → ((i : ℕ) → test i ≡ p (part (spans_at + 32 * i) (spans_at + 32 * i + 32) s))
    → (a n : ℕ) → list_all test (range_with_len a n) ≡ every p (places_from (spans_at + 32 * a) n s)
places_from_at p s test h a zero = sym (every_none p (spans_at + 32 * a) s)
places_from_at p s test h a (suc n) =
    let q : spans_at + 32 * (a + 1) ≡ spans_at + 32 * a + 32 = omega arith in
    rw (h a, every_more, ← q, places_from_at p s test h (a + 1) n)

pub places_at : (p : List ℕ → Bool) (s : List ℕ) (test : ℕ → Bool)
    → ((i : ℕ) → test i ≡ p (part (spans_at + 32 * i) (spans_at + 32 * i + 32) s))
    → (n : ℕ) → list_all test (range_with_len 0 n) ≡ every p (places_from spans_at n s)
places_at p s test h n = places_from_at p s test h 0 n

-- a fold over the numbers, which goes on past a place that fails, tests all places
pub places_fold : (p : List ℕ → Bool) (s : List ℕ) (test : ℕ → Bool)
    → ((i : ℕ) → test i ≡ p (part (spans_at + 32 * i) (spans_at + 32 * i + 32) s))
    → (n : ℕ) → fold (λ fit i. fit && test i) true (range_with_len 0 n) ≡ every p (places_from spans_at n s)
places_fold p s test h n = fold_all test true (range_with_len 0 n) ∙ places_at p s test h n

-- the length byte of a place is the byte where the place begins
pub length_byte : (s : List ℕ) (q : ℕ) → get_or s q 0 ≡ get_or (part q (q + 32) s) 0 0
length_byte s q =
    let m : q + 32 - q ≡ 32 = omega arith in
    let z : q + 0 ≡ q = omega arith in
    let l : 0 < 32 = omega arith in
    rw (m, get_or-take 32 (drop q s) 0 0 l, get_or-drop, z)

-- a length byte past the place leaves no padding
pub no_padding : (place : List ℕ) → length place ≤ 1 + get_or place 0 0 → padded place ≡ true
no_padding place h = rw (drop_of_length-le place h, all_zero_nil)

bits_low : (k : ℕ) → k < 32 → get_or padding_bits k 0 ≡ 0
bits_low k h = get_or-append (replicate 32 0) (replicate 31 255) 0 k h ∙ get_or-replicate 32 k 0 0 h

bits_high : (k : ℕ) → k < 31 → get_or padding_bits (32 + k) 0 ≡ 255
bits_high k h = get_or-append-add (replicate 32 0) (replicate 31 255) k 0 ∙ get_or-replicate 31 k 255 0 h

-- the padding before i is all zero exactly when its bits, seen, are none
pub record Masked (place : List ℕ) (seen i : ℕ) : Type 0 where
  pub within : i ≤ 32
  pub is : padded place ≡ (eqb seen 0 && all_zero (drop (max i (1 + get_or place 0 0)) place))

pub masked_start : (place : List ℕ) → Masked place 0 0
masked_start place =
    let m : max 0 (1 + get_or place 0 0) ≡ 1 + get_or place 0 0 = omega arith in
    record { within = omega arith; is = rw m }

module _ (place : List ℕ) (seen i from : ℕ) (len : length place ≡ 32) (fits : get_or place 0 0 ≤ 31)
    (start : from ≡ 31 - get_or place 0 0) (byte : get_or place i 0 < 256) (l : i < 32) where
  -- a byte of the key changes nothing
  masked_key : Masked place seen i → i ≤ get_or place 0 0 → Masked place (bit_or seen (bit_and (get_or place i 0) (get_or padding_bits (from + i) 0))) (i + 1)
  masked_key h k =
      let e : get_or padding_bits (from + i) 0 ≡ 0 = bits_low (from + i) (omega arith) in
      let m : max (i + 1) (1 + get_or place 0 0) ≡ max i (1 + get_or place 0 0) = omega arith in
      record { within = omega arith; is = h.is ∙ rw (m, e, and_zero_r, or_zero_r) }

  -- a byte of the padding counts
  masked_padding : Masked place seen i → get_or place 0 0 < i
      → Masked place (bit_or seen (bit_and (get_or place i 0) (get_or padding_bits (from + i) 0))) (i + 1)
  masked_padding h k =
      let q : from + i ≡ 32 + (from + i - 32) = omega arith in
      let e : get_or padding_bits (from + i) 0 ≡ 255 = ap (λ (n : ℕ). get_or padding_bits n 0) q ∙ bits_high (from + i - 32) (omega arith) in
      let b : bit_and (get_or place i 0) 255 ≡ get_or place i 0 = and_mask (get_or place i 0) 8 ∙ omega arith in
      let m : max i (1 + get_or place 0 0) ≡ i = omega arith in
      let n : max (i + 1) (1 + get_or place 0 0) ≡ i + 1 = omega arith in
      record { within = omega arith; is = h.is ∙ rw (m, n, e, b, zero_step place i (omega arith), or_zero, and_assoc) }

  masked_by : (t : Bool) → leb i (get_or place 0 0) ≡ t → Masked place seen i
      → Masked place (bit_or seen (bit_and (get_or place i 0) (get_or padding_bits (from + i) 0))) (i + 1)
  masked_by true e h = masked_key h (leb-true _ _ e)
  masked_by false e h = masked_padding h (leb-false _ _ e)

  pub masked_turn : (bits : List ℕ) → bits ≡ padding_bits → Masked place seen i
      → Masked place (bit_or seen (bit_and (get_or place i 0) (get_or bits (from + i) 0))) (i + 1)
  masked_turn bits e h = rw e (masked_by _ refl h)

pub masked_end : {place : List ℕ} {seen i : ℕ} → Masked place seen i → length place ≡ 32 → 32 ≤ i → eqb seen 0 ≡ padded place
masked_end {place} {seen} {i} h e l =
    let m : length place ≤ max i (1 + get_or place 0 0) = omega arith in
    sym (h.is ∙ rw (drop_of_length-le place m, all_zero_nil, and-true))
