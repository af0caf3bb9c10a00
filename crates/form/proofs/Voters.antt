-- The voters as document 02's change 2 has them: at most five are read, a higher count draws 3, the last two places are under 4.
use Rattle.std.specs.Prelude.{Some}
use mathlib.Core.Path.{◌≡◌, refl, sym, ap, ◌∙◌}
use mathlib.Core.Bool.{Bool, true, false, ◌&&◌, ◌||◌}
use mathlib.Core.List.{List, [], ◌∷◌, ◌++◌}
use Prim.Native.Nat.{ℕ, ◌+◌, ◌-◌, ◌*◌, ◌≤◌}
use native.Mathlib.Omega.{arith}
use lib.ListN.{length}
use lib.Dec.{eqb}
use Rattle.form.specs.declared.kind.Shape.{Shape}
use Rattle.record.specs.Limits.{record_size}
use Rattle.record.specs.Numbers.{part, byte_at}
use Rattle.form.specs.KindTable.{shape_of}
use Rattle.form.specs.Form.{all_zero, zeros, numbers_clear, spans_clear, values_fit, unused_clear, refusal_of}
use Rattle.record.specs.Records.{decode}
use Rattle.record.proofs.Numbers.{part_append}
use Rattle.record.proofs.Records.{few_voters, length_voters}
use Rattle.record.proofs.Booleans.{and_left, and_right}
use Rattle.form.proofs.Sound.{by_shape, counted, passes, sound}

-- "The record reader promises at most five": of every list of bytes
pub at_most_five : (s : List ℕ) → length (decode s).voters ≤ 5
at_most_five = few_voters

-- and where no refusal is drawn, they are as many as are counted
pub all_counted : (s : List ℕ) → refusal_of s ≡ 0 → length (decode s).voters ≡ byte_at 48 s
unfolding decode
all_counted s h = omega (arith, length_voters s, (sound s h).voters)

all_zero_later : (xs ys : List ℕ) → all_zero (xs ++ ys) ≡ true → all_zero ys ≡ true
unfolding all_zero
all_zero_later [] ys h = h
all_zero_later (x ∷ xs) ys h = all_zero_later xs ys (and_right (eqb x 0) (all_zero (xs ++ ys)) h)

-- a stretch is its beginning and the rest
cut : (a b e : ℕ) (s : List ℕ) → a ≤ b → b ≤ e → part a e s ≡ part a b s ++ part b e s
cut a b e s l m =
    let at_b : a + (b - a) ≡ b = omega arith in
    let at_e : a + (b - a + (e - b)) ≡ e = omega arith in
    let to_e : b + (e - b) ≡ e = omega arith in
    ap (λ (q : ℕ). part a q s) (sym at_e)
    ∙ part_append a (b - a) (e - b) s
    ∙ ap (λ (q : ℕ). part a q s ++ part q (q + (e - b)) s) at_b
    ∙ ap (λ (q : ℕ). part a b s ++ part b q s) to_e

-- so the end of a stretch of zeros is zeros
zeros_later : (a b e : ℕ) (s : List ℕ) → a ≤ b → b ≤ e → zeros a e s ≡ true → zeros b e s ≡ true
zeros_later a b e s l m h = all_zero_later (part a b s) (part b e s) (ap all_zero (sym (cut a b e s l m)) ∙ h)

module _ (s : List ℕ) (size : length s ≡ record_size) (k : Shape) (known : shape_of (byte_at 0 s) ≡ Some k) where
  six_by : 6 ≤ byte_at 48 s → (b : Bool) → values_fit k s ≡ b → refusal_of s ≡ 3
  six_by h true e = absurd (omega (arith, (counted s k known e).voters))
  six_by h false e = by_shape s size (Some k) known ∙ rw e

  -- "Six or seven draw refusal 3", as every higher count does, whatever the rest of the record holds
  pub six_draw_3 : 6 ≤ byte_at 48 s → refusal_of s ≡ 3
  six_draw_3 h = six_by h _ refl

  past_five : values_fit k s ≡ true → unused_clear k s ≡ true → zeros 96 112 s ≡ true
  unfolding unused_clear
  past_five v h =
      let five = (counted s k known v).voters in
      let first = (eqb (byte_at 1 s) 1 || zeros 4 8 s) && numbers_clear k s && zeros 50 56 s in
      let voters = zeros (56 + 8 * byte_at 48 s) 112 s in
      let clear = and_right first voters (and_left (first && voters) (spans_clear k s) h) in
      zeros_later (56 + 8 * byte_at 48 s) 96 112 s (omega (arith, five)) (omega arith) clear

  filled_by : values_fit k s ≡ true → zeros 96 112 s ≡ false → (b : Bool) → unused_clear k s ≡ b → refusal_of s ≡ 4
  filled_by v h true e = let z : true ≡ false = sym (past_five v e) ∙ h in cc
  filled_by v h false e = by_shape s size (Some k) known ∙ rw (v, e)

  -- "the last two voter places must be zero under refusal 4": one byte of them that is not, where 3 is not drawn
  pub filled_draw_4 : values_fit k s ≡ true → zeros 96 112 s ≡ false → refusal_of s ≡ 4
  filled_draw_4 v h = filled_by v h _ refl

-- so a record that is taken has zeros there
pub last_two_zero : (s : List ℕ) → refusal_of s ≡ 0 → zeros 96 112 s ≡ true
last_two_zero s h = let p = passes s h in past_five s p.size p.shape p.known p.values p.unused
