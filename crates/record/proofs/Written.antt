-- Numbers written in bytes, for any width: what is written reads back, what is read is written back. Assumes nothing.
use mathlib.Core.Path.{◌≡◌, refl, ap, ◌∙◌}
use mathlib.Core.List.{List, [], ◌∷◌}
use Prim.Native.Nat.{ℕ, zero, suc, ◌+◌, ◌-◌, ◌*◌, ◌/◌, ◌%◌, ◌^◌, ◌≤◌, ◌<◌}
use native.Mathlib.Omega.{arith}
use native.Mathlib.Nat.{pow-suc, pow-zero}
use lib.ListN.{length, set, replicate}
use lib.Seq.{sets}
use Rattle.record.specs.Numbers.{little_endian, bytes_of}
use Rattle.record.proofs.Numbers.{Bytes, little_endian_nil, little_endian_cons}

pub bytes_length : (w n : ℕ) → length (bytes_of w n) ≡ w
unfolding bytes_of
bytes_length zero n = refl
bytes_length (suc w) n = ap suc (bytes_length w (n / 256))

-- what was written reads back
pub bytes_read : (w n : ℕ) → n < 256 ^ w → little_endian (bytes_of w n) ≡ n
unfolding bytes_of
bytes_read zero n l = let e = pow-zero 256 in little_endian_nil ∙ omega arith
bytes_read (suc w) n l =
    let e = pow-suc 256 w in
    let q : n / 256 < 256 ^ w = omega arith in
    little_endian_cons (n % 256) (bytes_of w (n / 256)) ∙ ap (λ (m : ℕ). n % 256 + 256 * m) (bytes_read w (n / 256) q) ∙ omega arith

-- what was read is written back
pub read_bytes : (bs : List ℕ) → Bytes bs → bytes_of (length bs) (little_endian bs) ≡ bs
unfolding bytes_of
read_bytes [] p = refl
read_bytes (b ∷ bs) p =
    let l : b < 256 = p.below 0 in
    let c = little_endian_cons b bs in
    let x : little_endian (b ∷ bs) % 256 ≡ b = omega arith in
    let y : little_endian (b ∷ bs) / 256 ≡ little_endian bs = omega arith in
    ap (λ (k : ℕ). k ∷ bytes_of (length bs) (little_endian (b ∷ bs) / 256)) x
    ∙ ap (λ (k : ℕ). b ∷ bytes_of (length bs) k) y
    ∙ ap (λ (ks : List ℕ). b ∷ ks) (read_bytes bs (record { below = λ i. p.below (suc i) }))

-- writing a number byte by byte: at the start all is left
pub write_start : (l : List ℕ) (p w n : ℕ) → sets l p (bytes_of w n) ≡ sets l (p + 0) (bytes_of (w - 0) n)
write_start l p w n =
    let a : p ≡ p + 0 = omega arith in
    let b : w ≡ w - 0 = omega arith in
    λ i. sets l (a i) (bytes_of (b i) n)

-- .. the next byte, then the rest
pub write_next : (l : List ℕ) (p w i rest : ℕ) → i < w
    → sets l (p + i) (bytes_of (w - i) rest) ≡ sets (set l (p + i) (rest % 256)) (p + (i + 1)) (bytes_of (w - (i + 1)) (rest / 256))
unfolding bytes_of
write_next l p w i rest h =
    let m : w - i ≡ suc (w - (i + 1)) = omega arith in
    let n : suc (p + i) ≡ p + (i + 1) = omega arith in
    ap (λ (k : ℕ). sets l (p + i) (bytes_of k rest)) m
    ∙ ap (λ (k : ℕ). sets (set l (p + i) (rest % 256)) k (bytes_of (w - (i + 1)) (rest / 256))) n

-- .. and at the end nothing is left
pub write_end : (l : List ℕ) (p w i rest : ℕ) → w ≤ i → sets l (p + i) (bytes_of (w - i) rest) ≡ l
unfolding bytes_of
write_end l p w i rest h =
    let m : w - i ≡ 0 = omega arith in
    ap (λ (k : ℕ). sets l (p + i) (bytes_of k rest)) m

-- a zero is zeros
pub zero_bytes : (v : ℕ) → bytes_of v 0 ≡ replicate v 0
unfolding bytes_of
zero_bytes zero = refl
zero_bytes (suc v) = ap (λ (t : List ℕ). 0 ∷ t) (zero_bytes v)
