-- Laws of big-endian numbers, and of the group that a start names.
use mathlib.Core.Path.{◌≡◌, refl, sym, ap, ◌∙◌}
use mathlib.Core.List.{List, [], ◌∷◌, ◌++◌}
use Rattle.std.specs.Prelude.{None, Some}
use Prim.Native.Nat.{ℕ, suc, ◌+◌, ◌-◌, ◌*◌, ◌≤◌, ◌<◌}
use native.Mathlib.Omega.{arith}
use lib.ListN.{length, get_or, take, drop}
use borrow.Author.Tests.{le-leb, lt-leb, eq-eqb, ne_eqb}
use Rattle.record.specs.Numbers.{part, big_endian, big_endian_from}
use Rattle.record.specs.Keys.{Key}
use Rattle.record.proofs.Numbers.{part_append}
use Rattle.record.proofs.Lists.{drop_step}
use Rattle.rules.specs.OneOwnerPerKey.{group_of}

-- four bytes after the number n
from_four : (n a b c d : ℕ) → big_endian_from n (a ∷ b ∷ c ∷ d ∷ []) ≡ 256 * (256 * (256 * (256 * n + a) + b) + c) + d
unfolding big_endian_from
from_four n a b c d = refl

from_append : (n : ℕ) (xs ys : List ℕ) → big_endian_from n (xs ++ ys) ≡ big_endian_from (big_endian_from n xs) ys
unfolding big_endian_from
from_append n [] ys = refl
from_append n (x ∷ xs) ys = from_append (256 * n + x) xs ys

byte_step : (n p q : ℕ) (s : List ℕ) → q ≡ p + 1 → p < length s → take (suc n) (drop p s) ≡ get_or s p 0 ∷ take n (drop q s)
byte_step n p q s e h = rw (e, drop_step s p h)

four_bytes : (p : ℕ) (s : List ℕ) → p + 4 ≤ length s → part p (p + 4) s ≡ get_or s p 0 ∷ get_or s (p + 1) 0 ∷ get_or s (p + 2) 0 ∷ get_or s (p + 3) 0 ∷ []
four_bytes p s h =
    let w : (p + 4) - p ≡ 4 = omega arith in
    rw (
      w,
      byte_step 3 p (p + 1) s (omega arith) (omega arith),
      byte_step 2 (p + 1) (p + 2) s (omega arith) (omega arith),
      byte_step 1 (p + 2) (p + 3) s (omega arith) (omega arith),
      byte_step 0 (p + 3) (p + 4) s (omega arith) (omega arith),
    )

pub big32_bytes : (p : ℕ) (s : List ℕ) → p + 4 ≤ length s
    → 256 * (256 * (256 * get_or s p 0 + get_or s (p + 1) 0) + get_or s (p + 2) 0) + get_or s (p + 3) 0 ≡ big_endian (part p (p + 4) s)
big32_bytes p s h = sym (ap big_endian (four_bytes p s h) ∙ from_four 0 _ _ _ _ ∙ omega arith)

pub big64_halves : (p : ℕ) (s : List ℕ) {a b : ℕ} → p + 8 ≤ length s → a ≡ big_endian (part p (p + 4) s) → b ≡ big_endian (part (p + 4) (p + 4 + 4) s)
    → 0x1_0000_0000 * a + b ≡ big_endian (part p (p + 8) s)
big64_halves p s {a} {b} h ea eb =
    let q = four_bytes (p + 4) s (omega arith) in
    let low : b ≡ 256 * (256 * (256 * (256 * 0 + get_or s (p + 4) 0) + get_or s (p + 4 + 1) 0) + get_or s (p + 4 + 2) 0) + get_or s (p + 4 + 3) 0 =
    eb ∙ ap big_endian q ∙ from_four 0 _ _ _ _ in
    let whole : big_endian (part p (p + 8) s)
    ≡ 256 * (256 * (256 * (256 * a + get_or s (p + 4) 0) + get_or s (p + 4 + 1) 0) + get_or s (p + 4 + 2) 0) + get_or s (p + 4 + 3) 0 =
    ap big_endian (part_append p 4 4 s) ∙ from_append 0 (part p (p + 4) s) (part (p + 4) (p + 4 + 4) s)
    ∙ ap (λ (n : ℕ). big_endian_from n (part (p + 4) (p + 4 + 4) s)) (sym ea) ∙ ap (big_endian_from a) q ∙ from_four a _ _ _ _ in
    omega arith

module _ (tenant : ℕ) (key : Key) where
  pub group_short : length key < 16 → None ≡ group_of tenant key
  unfolding group_of
  group_short l = rw (lt-leb 16 (length key) l)

  pub group_other : {a : ℕ} → 16 ≤ length key → a ≡ big_endian (take 8 key) → (a ≡ tenant → ⊥) → None ≡ group_of tenant key
  unfolding group_of
  group_other l e n = rw (le-leb 16 (length key) l, ← e, ne_eqb _ tenant n)

  pub group_named : {a b : ℕ} → 16 ≤ length key → a ≡ big_endian (take 8 key) → a ≡ tenant → b ≡ big_endian (take 8 (drop 8 key))
      → Some b ≡ group_of tenant key
  unfolding group_of
  group_named l e t g = rw (le-leb 16 (length key) l, ← e, eq-eqb _ tenant t, g)
