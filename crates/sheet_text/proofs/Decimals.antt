-- Laws of numbers in decimal.
use mathlib.Core.Path.{◌≡◌, refl, sym, ap, ◌∙◌}
use mathlib.Core.Bool.{Bool, true, false}
use mathlib.Core.List.{List, [], ◌∷◌, ◌++◌}
use Prim.Native.Nat.{ℕ, zero, suc, ◌+◌, ◌-◌, ◌*◌, ◌/◌, ◌%◌, ◌≤◌, ◌<◌}
use native.Mathlib.Omega.{arith}
use lib.ListN.{length, get_or, length-append, get_or-append}
use lib.Dec.{ltb}
use borrow.Author.Tests.{lt-ltb, le-ltb, ltb-true, ltb-false}
use Rattle.sheet_text.specs.Sheets.{decimal_in, decimal}

pub none_small : (n : ℕ) → decimal_in zero n ≡ (48 + n) ∷ []
unfolding decimal_in
none_small n = refl

pub small_in : (k n : ℕ) → n < 10 → decimal_in (suc k) n ≡ (48 + n) ∷ []
unfolding decimal_in
small_in k n l = simp (lt-ltb n 10 l)

pub large_in : (k n : ℕ) → 10 ≤ n → decimal_in (suc k) n ≡ decimal_in k (n / 10) ++ ((48 + n % 10) ∷ [])
unfolding decimal_in
large_in k n l = simp (le-ltb n 10 l)

-- n steps are enough for n: further ones change nothing
more_step : (k n : ℕ) (b : Bool) → ltb n 10 ≡ b → (10 ≤ n → decimal_in (suc k) (n / 10) ≡ decimal_in k (n / 10))
    → decimal_in (suc (suc k)) n ≡ decimal_in (suc k) n
more_step k n true t ih = let h : n < 10 = ltb-true n 10 t in small_in (suc k) n h ∙ sym (small_in k n h)
more_step k n false t ih =
    let h : 10 ≤ n = ltb-false n 10 t in
    large_in (suc k) n h ∙ ap (λ (l : List ℕ). l ++ ((48 + n % 10) ∷ [])) (ih h) ∙ sym (large_in k n h)

one_more : (k n : ℕ) → n ≤ k → decimal_in (suc k) n ≡ decimal_in k n
one_more zero n l = small_in zero n (omega arith) ∙ sym (none_small n)
one_more (suc k) n l = more_step k n (ltb n 10) refl (λ h. one_more k (n / 10) (omega arith))

enough : (j n : ℕ) → decimal_in (j + n) n ≡ decimal_in n n
enough zero n = let e : 0 + n ≡ n = omega arith in ap (λ (k : ℕ). decimal_in k n) e
enough (suc j) n =
    let e : suc j + n ≡ suc (j + n) = omega arith in
    ap (λ (k : ℕ). decimal_in k n) e ∙ one_more (j + n) n (omega arith) ∙ enough j n

-- the two cases of the definition: a digit alone ..
pub decimal_small : (n : ℕ) → n < 10 → decimal n ≡ (48 + n) ∷ []
unfolding decimal
decimal_small zero l = none_small 0
decimal_small (suc k) l = small_in k (suc k) l

-- .. or the tenth part and then the last digit
pub decimal_large : (n : ℕ) → 10 ≤ n → decimal n ≡ decimal (n / 10) ++ ((48 + n % 10) ∷ [])
unfolding decimal
decimal_large zero l = absurd (omega arith)
decimal_large (suc k) l =
    let m = suc k / 10 in
    let e : k ≡ (k - m) + m = omega arith in
    large_in k (suc k) l
    ∙ ap (λ (d : List ℕ). d ++ ((48 + suc k % 10) ∷ [])) (ap (λ (j : ℕ). decimal_in j m) e ∙ enough (k - m) m)

pub small_length : (n : ℕ) → n < 10 → length (decimal n) ≡ 1
small_length n l = ap length (decimal_small n l)

pub large_length : (n : ℕ) → 10 ≤ n → length (decimal n) ≡ length (decimal (n / 10)) + 1
large_length n l = ap length (decimal_large n l) ∙ length-append (decimal (n / 10)) ((48 + n % 10) ∷ [])

-- induction by tenths
module _ {P : ℕ → Type 0} (small : (n : ℕ) → n < 10 → P n) (large : (n : ℕ) → 10 ≤ n → P (n / 10) → P n) where
  tenths_step : (n : ℕ) (b : Bool) → ltb n 10 ≡ b → (10 ≤ n → P (n / 10)) → P n
  tenths_step n true t ih = small n (ltb-true n 10 t)
  tenths_step n false t ih = let h : 10 ≤ n = ltb-false n 10 t in large n h (ih h)

  tenths_in : (k n : ℕ) → n ≤ k → P n
  tenths_in zero n l = small n (omega arith)
  tenths_in (suc k) n l = tenths_step n (ltb n 10) refl (λ h. tenths_in k (n / 10) (omega arith))

  pub by_tenths : (n : ℕ) → P n
  by_tenths n = tenths_in n n (omega arith)

-- THE VALUE: what the digits denote, the first of them the most significant, is the number
unfoldable pub value_from : ℕ → List ℕ → ℕ
value_from v [] = v
value_from v (d ∷ ds) = value_from (10 * v + (d - 48)) ds

value_append : (v : ℕ) (a b : List ℕ) → value_from v (a ++ b) ≡ value_from (value_from v a) b
unfolding value_from
value_append v [] b = refl
value_append v (d ∷ a) b = value_append (10 * v + (d - 48)) a b

value_digit : (v d : ℕ) → value_from v ((48 + d) ∷ []) ≡ 10 * v + d
unfolding value_from
value_digit v d = omega arith

pub decimal_value : (n : ℕ) → value_from 0 (decimal n) ≡ n
decimal_value =
    by_tenths {P = λ n. value_from 0 (decimal n) ≡ n}
    (λ n l. ap (value_from 0) (decimal_small n l) ∙ value_digit 0 n ∙ omega arith)
    (λ n l ih.
    ap (value_from 0) (decimal_large n l)
    ∙ value_append 0 (decimal (n / 10)) ((48 + n % 10) ∷ [])
    ∙ ap (λ (v : ℕ). value_from v ((48 + n % 10) ∷ [])) ih
    ∙ value_digit (n / 10) (n % 10)
    ∙ omega arith)

-- NO LEADING ZERO: only the number 0 begins with the digit 0
Led : ℕ → Type 0
Led n = (0 < length (decimal n)) × (0 < n → get_or (decimal n) 0 0 ≡ 48 → ⊥)

led_small : (n : ℕ) → n < 10 → Led n
unfolding Led
led_small n l =
    let e = decimal_small n l in
    let f : get_or (decimal n) 0 0 ≡ 48 + n = ap (λ (d : List ℕ). get_or d 0 0) e in
    (omega (arith, ap length e), λ h z. omega arith)

led_large : (n : ℕ) → 10 ≤ n → Led (n / 10) → Led n
unfolding Led
led_large n l ih =
    let e = decimal_large n l in
    let last = (48 + n % 10) ∷ [] in
    let f : get_or (decimal n) 0 0 ≡ get_or (decimal (n / 10)) 0 0 = ap (λ (d : List ℕ). get_or d 0 0) e ∙ get_or-append (decimal (n / 10)) last 0 0 ih.0 in
    (omega (arith, ap length e, length-append (decimal (n / 10)) last, ih.0), λ h z. ih.1 (omega arith) (sym f ∙ z))

pub decimal_lead : (n : ℕ) → 0 < n → get_or (decimal n) 0 0 ≡ 48 → ⊥
unfolding Led
decimal_lead n = (by_tenths {P = Led} led_small led_large n).1

-- the length: a number below a power of ten has at most as many digits
unfoldable tens : ℕ → ℕ
tens zero = 1
tens (suc k) = 10 * tens k

tens_step : (k n : ℕ) → n < tens (suc k) → n / 10 < tens k
unfolding tens
tens_step k n l = omega arith

tens_one : (n : ℕ) → n < tens 1 → n < 10
unfolding tens
tens_one n l = omega arith

Short : ℕ → Type 0
Short n = (k : ℕ) → n < tens (suc k) → length (decimal n) ≤ suc k

short_small : (n : ℕ) → n < 10 → Short n
unfolding Short
short_small n l k h = omega (arith, ap length (decimal_small n l))

short_large : (n : ℕ) → 10 ≤ n → Short (n / 10) → Short n
unfolding Short
short_large n l ih zero h = absurd (omega (arith, tens_one n h))
short_large n l ih (suc k) h =
    omega (arith, ap length (decimal_large n l), length-append (decimal (n / 10)) ((48 + n % 10) ∷ []), ih k (tens_step (suc k) n h))

-- a number of 64 bits has at most twenty digits
pub decimal_length : (n : ℕ) → n < 18446744073709551616 → length (decimal n) ≤ 20
unfolding Short tens
decimal_length n l = by_tenths {P = Short} short_small short_large n 19 (omega arith)
