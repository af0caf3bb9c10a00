-- The laws of parts of a list and of numbers made of bytes: a number of n bytes is below 256 ^ n, and one of 64 bits is two of 32. Assumes nothing.
use mathlib.Core.Path.{◌≡◌, refl, sym, ap, ◌∙◌}
use mathlib.Core.List.{List, [], ◌∷◌, ◌++◌}
use Prim.Native.Nat.{ℕ, suc, ◌+◌, ◌-◌, ◌*◌, ◌^◌, ◌≤◌, ◌<◌}
use native.Mathlib.Nat.{pow-succ', pow-zero, mul_assoc, add_assoc, mul-add, pow-le-pow_right, zero-add, one-mul}
use native.Mathlib.Omega.{arith}
use native.Mathlib.Decide.{dec_lt}
use lib.ListN.{length, get_or, drop, length-take, length-drop, get_or-eq_default}
use lib.Seq.{take-add, drop-drop, length-take-le, get_or-take, get_or-drop}
use Rattle.std.specs.Int.{w32, w64, from_le_bytes}
use Rattle.record.specs.Numbers.{part, little_endian, number32, number64}

pub length_part : (a e : ℕ) (s : List ℕ) → e ≤ length s → length (part a e s) ≡ e - a
length_part a e s h = length-take-le (e - a) (drop a s) (rw length-drop (omega arith))

pub part_short : (a n : ℕ) (s : List ℕ) → length (part a (a + n) s) ≤ n
part_short a n s = rw (length-take, length-drop) (omega arith)

pub part_append : (p n m : ℕ) (s : List ℕ) → part p (p + (n + m)) s ≡ part p (p + n) s ++ part (p + n) (p + n + m) s
part_append p n m s =
    let u : (p + (n + m)) - p ≡ n + m = omega arith in
    let v : (p + n) - p ≡ n = omega arith in
    let w : (p + n + m) - (p + n) ≡ m = omega arith in
    rw (u, v, w, ← drop-drop n p s) (take-add n m (drop p s))

pub little_endian_nil : little_endian [] ≡ 0
unfolding little_endian
little_endian_nil = refl

pub little_endian_cons : (b : ℕ) (bs : List ℕ) → little_endian (b ∷ bs) ≡ b + 256 * little_endian bs
unfolding little_endian
little_endian_cons b bs = refl

pub little_endian_append : (xs ys : List ℕ) → little_endian (xs ++ ys) ≡ little_endian xs + 256 ^ length xs * little_endian ys
little_endian_append [] ys = rw (little_endian_nil, pow-zero, one-mul, zero-add)
little_endian_append (x ∷ xs) ys =
    rw (little_endian_cons x (xs ++ ys), little_endian_cons x xs, little_endian_append xs ys, pow-succ', mul-add, mul_assoc, add_assoc)

-- every number of a list is a byte
pub record Bytes (s : List ℕ) : Type 0 where
  pub below : (i : ℕ) → get_or s i 0 < 256

pub little_endian_below : (s : List ℕ) → Bytes s → little_endian s < 256 ^ length s
little_endian_below [] h = rw (little_endian_nil, pow-zero) (omega arith)
little_endian_below (b ∷ bs) h =
    let m : little_endian bs < 256 ^ length bs = little_endian_below bs (record { below = λ i. h.below (suc i) }) in
    rw (little_endian_cons b bs, pow-succ') (omega (arith, h.below 0))

-- bytes that make the same number are the same bytes
pub little_endian_same : (xs ys : List ℕ) → Bytes xs → Bytes ys → length xs ≡ length ys → little_endian xs ≡ little_endian ys → xs ≡ ys
little_endian_same [] [] p q l e = refl
little_endian_same [] (y ∷ ys) p q l e = absurd (omega (arith, l))
little_endian_same (x ∷ xs) [] p q l e = absurd (omega (arith, l))
little_endian_same (x ∷ xs) (y ∷ ys) p q l e =
    let m : x + 256 * little_endian xs ≡ y + 256 * little_endian ys = sym (little_endian_cons x xs) ∙ e ∙ little_endian_cons y ys in
    let h : x ≡ y = omega (arith, p.below 0, q.below 0) in
    let hs : xs ≡ ys =
    little_endian_same xs ys (record { below = λ i. p.below (suc i) }) (record { below = λ i. q.below (suc i) }) (omega (arith, l))
    (omega (arith, p.below 0, q.below 0)) in
    cc

-- a part of bytes is bytes
pub bytes_part : (a e : ℕ) (s : List ℕ) → Bytes s → Bytes (part a e s)
bytes_part a e s h = record {
  below = λ i. elim (dec_lt i (e - a)) [
    | yes l ↦ rw (get_or-take (e - a) (drop a s) i 0 l, get_or-drop) (h.below (a + i))
    | no l ↦ rw (get_or-eq_default (part a e s) 0 {n = i} (rw length-take (omega arith))) (omega arith)
  ];
}

-- a number of n bytes
pub number_below : (n p : ℕ) (s : List ℕ) → Bytes s → little_endian (part p (p + n) s) < 256 ^ n
number_below n p s h =
    let m : 256 ^ length (part p (p + n) s) ≤ 256 ^ n = pow-le-pow_right (omega arith) (part_short p n s) in
    omega (arith, little_endian_below (part p (p + n) s) (bytes_part p (p + n) s h))

pub get_d_part : (a e k : ℕ) (s : List ℕ) → a ≤ k → k < e → get_or (part a e s) (k - a) 0 ≡ get_or s k 0
get_d_part a e k s l h =
    let w : a + (k - a) ≡ k = omega arith in
    get_or-take (e - a) (drop a s) (k - a) 0 (omega arith) ∙ get_or-drop a s (k - a) 0 ∙ ap (λ (i : ℕ). get_or s i 0) w

-- where two lists have the same number of n bytes, they have the same bytes
pub number_same : (n p k : ℕ) (xs ys : List ℕ) → Bytes xs → Bytes ys → p + n ≤ length xs → p + n ≤ length ys
    → little_endian (part p (p + n) xs) ≡ little_endian (part p (p + n) ys) → p ≤ k → k < p + n → get_or xs k 0 ≡ get_or ys k 0
number_same n p k xs ys b c l m e u v =
    let parts : part p (p + n) xs ≡ part p (p + n) ys =
    little_endian_same (part p (p + n) xs) (part p (p + n) ys) (bytes_part p (p + n) xs b) (bytes_part p (p + n) ys c)
    (length_part p (p + n) xs l ∙ sym (length_part p (p + n) ys m)) e in
    sym (get_d_part p (p + n) k xs u v) ∙ ap (λ (s : List ℕ). get_or s (k - p) 0) parts ∙ get_d_part p (p + n) k ys u v

-- the number that std makes of four bytes and of eight
le_four : (bs : List ℕ) → length bs ≡ 4 → from_le_bytes w32 bs ≡ little_endian bs
unfolding little_endian
le_four [] e' = absurd (omega arith)
le_four (a ∷ []) e' = absurd (omega arith)
le_four (a ∷ b ∷ []) e' = absurd (omega arith)
le_four (a ∷ b ∷ c ∷ []) e' = absurd (omega arith)
le_four (a ∷ b ∷ c ∷ d ∷ []) e' = omega arith
le_four (a ∷ b ∷ c ∷ d ∷ e ∷ r) e' = absurd (omega arith)

le_eight : (bs : List ℕ) → length bs ≡ 8 → from_le_bytes w64 bs ≡ little_endian bs
unfolding little_endian
le_eight [] e' = absurd (omega arith)
le_eight (a ∷ []) e' = absurd (omega arith)
le_eight (a ∷ b ∷ []) e' = absurd (omega arith)
le_eight (a ∷ b ∷ c ∷ []) e' = absurd (omega arith)
le_eight (a ∷ b ∷ c ∷ d ∷ []) e' = absurd (omega arith)
le_eight (a ∷ b ∷ c ∷ d ∷ e ∷ []) e' = absurd (omega arith)
le_eight (a ∷ b ∷ c ∷ d ∷ e ∷ f ∷ []) e' = absurd (omega arith)
le_eight (a ∷ b ∷ c ∷ d ∷ e ∷ f ∷ g ∷ []) e' = absurd (omega arith)
le_eight (a ∷ b ∷ c ∷ d ∷ e ∷ f ∷ g ∷ h ∷ []) e' = omega arith
le_eight (a ∷ b ∷ c ∷ d ∷ e ∷ f ∷ g ∷ h ∷ i ∷ r) e' = absurd (omega arith)

pub le_number32 : (p : ℕ) (s bs : List ℕ) (n : ℕ) → p + 4 ≤ length s → bs ≡ part p (p + 4) s → n ≡ from_le_bytes w32 bs → n ≡ number32 p s
le_number32 p s bs n h e q = q ∙ le_four bs (ap length e ∙ length_part p (p + 4) s h ∙ omega arith) ∙ ap little_endian e

pub le_number64 : (p : ℕ) (s bs : List ℕ) (n : ℕ) → p + 8 ≤ length s → bs ≡ part p (p + 8) s → n ≡ from_le_bytes w64 bs → n ≡ number64 p s
le_number64 p s bs n h e q = q ∙ le_eight bs (ap length e ∙ length_part p (p + 8) s h ∙ omega arith) ∙ ap little_endian e
