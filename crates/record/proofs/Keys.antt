-- The laws of keys: the key in its place, equality of lists, and the order of keys, which is irreflexive, transitive and total. Assumes nothing.
use mathlib.Core.Path.{◌≡◌, refl, sym, ap, ◌∙◌}
use mathlib.Core.Bool.{Bool, true, false, ◌&&◌}
use mathlib.Core.List.{List, [], ◌∷◌}
use mathlib.Core.Logic.{◌⊎◌, inl, inr, ⊎_elim}
use Prim.Native.Nat.{ℕ, ◌+◌, ◌-◌, ◌≤◌, ◌<◌}
use native.Mathlib.Omega.{arith}
use native.Mathlib.Decide.{dec_lt}
use lib.Dec.{eqb}
use lib.ListN.{length, get_or, take, drop, length-take, length-drop}
use lib.Seq.{take_all, ext_get_or}
use borrow.Author.Tests.{lt-ltb, le-ltb, eq-eqb, ne_eqb, eqb-true, eqb-false}
use Rattle.std.proofs.Common.{nat_eq}
use Rattle.std.specs.Cmp.Lexicographic.{slice_cmp, pointwise}
use Rattle.std.specs.Ordering.{nat_cmp, is_lt}
use Rattle.record.specs.Limits.{key_size, key_limit}
use Rattle.record.specs.Numbers.{number64}
use Rattle.record.specs.Keys.{Key, key_in, key_ltb, list_eqb, Lt, Le}
use Rattle.record.proofs.Booleans.{decide, never, and_left, and_right}
use Rattle.record.proofs.Numbers.{Bytes, number_same}

-- ---- the key in its place

-- an empty place has the empty key
pub key_none : (s : List ℕ) → length s ≡ 0 → s ≡ key_in s
unfolding key_in
key_none [] e = refl
key_none (x ∷ xs) e = absurd (omega (arith, e))

-- the part as far as the length byte says, and the rest of a place that ends before
pub key_whole : (s : List ℕ) (e : ℕ) → e ≡ 1 + get_or s 0 0 → take (e - 1) (drop 1 s) ≡ key_in s
unfolding key_in
key_whole s e h = let w : e - 1 ≡ get_or s 0 0 = omega arith in rw w

pub key_cut : (s : List ℕ) → length s < 1 + get_or s 0 0 → take (length s - 1) (drop 1 s) ≡ key_in s
unfolding key_in
key_cut s h =
    take_all (length s - 1) (drop 1 s) (rw length-drop (omega arith))
    ∙ sym (take_all (get_or s 0 0) (drop 1 s) (rw length-drop (omega arith)))

-- "a length byte, 31 bytes": the key in a place is at most 31 bytes long
pub key_short : (s : List ℕ) → length s ≤ key_size → length (key_in s) ≤ key_limit
unfolding key_in
key_short s h = rw (length-take, length-drop) (omega arith)

-- ---- equality of lists: the test is true of a list and itself, and of no others

pub list_eqb_refl : (xs : List ℕ) → list_eqb xs xs ≡ true
unfolding list_eqb
list_eqb_refl [] = refl
list_eqb_refl (x ∷ xs) = rw (eq-eqb x x refl) (list_eqb_refl xs)

pub list_eqb_same : (xs ys : List ℕ) → list_eqb xs ys ≡ true → xs ≡ ys
unfolding list_eqb
list_eqb_same [] [] h = refl
list_eqb_same [] (y ∷ ys) h = never h refl
list_eqb_same (x ∷ xs) [] h = never h refl
list_eqb_same (x ∷ xs) (y ∷ ys) h =
    let e : x ≡ y = eqb-true x y (and_left (eqb x y) (list_eqb xs ys) h) in
    let es : xs ≡ ys = list_eqb_same xs ys (and_right (eqb x y) (list_eqb xs ys) h) in
    cc

pub list_eqb_equal : (xs ys : List ℕ) → xs ≡ ys → list_eqb xs ys ≡ true
list_eqb_equal xs ys e = ap (list_eqb xs) (sym e) ∙ list_eqb_refl xs

pub list_eqb_differ : (xs ys : List ℕ) → (xs ≡ ys → ⊥) → list_eqb xs ys ≡ false
list_eqb_differ xs ys h = ⊎_elim (λ p. absurd (h (list_eqb_same xs ys p))) (λ p. p) (decide (list_eqb xs ys))

-- and it is that of std's lists
pub same_is : (xs ys : List ℕ) → pointwise nat_eq xs ys ≡ list_eqb xs ys
unfolding list_eqb
same_is [] [] = refl
same_is [] (y ∷ ys) = refl
same_is (x ∷ xs) [] = refl
same_is (x ∷ xs) (y ∷ ys) = ap (λ (t : Bool). eqb x y && t) (same_is xs ys)

-- two lists differ by their lengths, or at a place; they are equal where every place has been passed
pub differ_length : (xs ys : List ℕ) → (length xs ≡ length ys → ⊥) → list_eqb xs ys ≡ false
differ_length xs ys h = list_eqb_differ xs ys (λ e. h (ap length e))

pub differ_at : (xs ys : List ℕ) (i : ℕ) → (get_or xs i 0 ≡ get_or ys i 0 → ⊥) → list_eqb xs ys ≡ false
differ_at xs ys i h = list_eqb_differ xs ys (λ e. h (ap (λ (l : List ℕ). get_or l i 0) e))

pub equal_all : (xs ys : List ℕ) (i : ℕ) → length xs ≡ length ys → length xs ≤ i → ((k : ℕ) → k < i → get_or xs k 0 ≡ get_or ys k 0)
    → list_eqb xs ys ≡ true
equal_all xs ys i e m h = list_eqb_equal xs ys (ext_get_or 0 xs ys e (λ k l. h k (omega arith)))

-- two places hold the same bytes where their four words are the same
module _ (xs ys : List ℕ) (l : length xs ≡ key_size) (m : length ys ≡ key_size) where
  abbrev words : ℕ → Bool
  words p = eqb (number64 p xs) (number64 p ys)

  word_differs : (p : ℕ) → words p ≡ false → list_eqb xs ys ≡ false
  word_differs p e = list_eqb_differ xs ys (λ q. eqb-false (number64 p xs) (number64 p ys) e (ap (number64 p) q))

  word_same : (p k : ℕ) → Bytes xs → Bytes ys → p + 8 ≤ key_size → words p ≡ true → p ≤ k → k < p + 8 → get_or xs k 0 ≡ get_or ys k 0
  word_same p k b c h e = number_same 8 p k xs ys b c (omega (arith, l)) (omega (arith, m)) (eqb-true _ _ e)

  words_same : Bytes xs → Bytes ys → words 0 ≡ true → words 8 ≡ true → words 16 ≡ true → words 24 ≡ true → list_eqb xs ys ≡ true
  words_same b c e f g h = equal_all xs ys key_size (l ∙ sym m) (omega (arith, l)) (λ k n. elim (dec_lt k 16) [
    | yes u ↦ elim (dec_lt k 8) [
      | yes v ↦ word_same 0 k b c (omega arith) e (omega arith) (omega arith)
      | no v ↦ word_same 8 k b c (omega arith) f (omega arith) (omega arith)
    ]
    | no u ↦ elim (dec_lt k 24) [
      | yes v ↦ word_same 16 k b c (omega arith) g (omega arith) (omega arith)
      | no v ↦ word_same 24 k b c (omega arith) h (omega arith) (omega arith)
    ]
  ])

  pub places_same : Bytes xs → Bytes ys → words 0 && words 8 && words 16 && words 24 ≡ list_eqb xs ys
  places_same b c = go (words 0) (words 8) (words 16) (words 24) (words_same b c) (word_differs 0) (word_differs 8) (word_differs 16) (word_differs 24)
    where
      go : (p q r s : Bool) → (p ≡ true → q ≡ true → r ≡ true → s ≡ true → list_eqb xs ys ≡ true)
          → (p ≡ false → list_eqb xs ys ≡ false) → (q ≡ false → list_eqb xs ys ≡ false) → (r ≡ false → list_eqb xs ys ≡ false)
          → (s ≡ false → list_eqb xs ys ≡ false) → p && q && r && s ≡ list_eqb xs ys
      go true true true true t e f g h = sym (t refl refl refl refl)
      go true true true false t e f g h = sym (h refl)
      go true true false s t e f g h = sym (g refl)
      go true false r s t e f g h = sym (f refl)
      go false q r s t e f g h = sym (e refl)

-- and then the same key
pub places_key : (xs ys : List ℕ) (whole : Bool) → whole && list_eqb xs ys ≡ true → list_eqb (key_in xs) (key_in ys) ≡ true
places_key xs ys whole e = list_eqb_equal _ _ (ap key_in (list_eqb_same xs ys (and_right whole (list_eqb xs ys) e)))

-- ---- the order of keys

three : (a b : ℕ) → (a < b) ⊎ ((b < a) ⊎ (a ≡ b))
three a b = elim (dec_lt a b) [
  | yes l ↦ inl l
  | no l ↦ elim (dec_lt b a) [ yes m ↦ inr (inl m) | no m ↦ inr (inr (omega arith)) ]
]

module _ (a b : ℕ) (xs ys : List ℕ) where
  pub head_lt : a < b → key_ltb (a ∷ xs) (b ∷ ys) ≡ true
  unfolding key_ltb
  head_lt h = rw (lt-ltb a b h)

  pub head_gt : b < a → key_ltb (a ∷ xs) (b ∷ ys) ≡ false
  unfolding key_ltb
  head_gt h = rw (le-ltb a b (omega arith), lt-ltb b a h)

  pub head_eq : a ≡ b → key_ltb (a ∷ xs) (b ∷ ys) ≡ key_ltb xs ys
  unfolding key_ltb
  head_eq h = rw (le-ltb a b (omega arith), le-ltb b a (omega arith))

  lt_cases : key_ltb (a ∷ xs) (b ∷ ys) ≡ true → (a < b) ⊎ ((a ≡ b) × (key_ltb xs ys ≡ true))
  lt_cases h = ⊎_elim (λ l. inl l) (⊎_elim (λ l. never h (head_gt l)) (λ e. inr (e, sym (head_eq e) ∙ h))) (three a b)

  ge_cases : key_ltb (a ∷ xs) (b ∷ ys) ≡ false → (b < a) ⊎ ((a ≡ b) × (key_ltb xs ys ≡ false))
  ge_cases h = ⊎_elim (λ l. never (head_lt l) h) (⊎_elim (λ l. inl l) (λ e. inr (e, sym (head_eq e) ∙ h))) (three a b)

nil_cons : (b : ℕ) (ys : List ℕ) → key_ltb [] (b ∷ ys) ≡ true
unfolding key_ltb
nil_cons b ys = refl

none_below : (xs : Key) → key_ltb xs [] ≡ false
unfolding key_ltb
none_below [] = refl
none_below (x ∷ xs) = refl

-- "Keys compare bytewise, a proper prefix first": the order of std's lists
pub less_is : (xs ys : Key) → is_lt (slice_cmp nat_cmp xs ys) ≡ key_ltb xs ys
unfolding key_ltb
less_is [] [] = refl
less_is [] (y ∷ ys) = refl
less_is (x ∷ xs) [] = refl
less_is (x ∷ xs) (y ∷ ys) =
    ⊎_elim
    (λ l. rw (lt-ltb x y l))
    (⊎_elim (λ l. rw (le-ltb x y (omega arith), lt-ltb y x l, ne_eqb x y (λ e. omega arith)))
    (λ e. rw (le-ltb x y (omega arith), le-ltb y x (omega arith), eq-eqb x y e) (less_is xs ys)))
    (three x y)

pub irrefl : (k : Key) → key_ltb k k ≡ false
irrefl [] = none_below []
irrefl (a ∷ xs) = head_eq a a xs xs refl ∙ irrefl xs

pub trans : (x y z : Key) → key_ltb x y ≡ true → key_ltb y z ≡ true → key_ltb x z ≡ true
trans [] [] z p q = q
trans [] (b ∷ ys) [] p q = never q (none_below (b ∷ ys))
trans [] (b ∷ ys) (c ∷ zs) p q = nil_cons c zs
trans (a ∷ xs) [] z p q = never p (none_below (a ∷ xs))
trans (a ∷ xs) (b ∷ ys) [] p q = never q (none_below (b ∷ ys))
trans (a ∷ xs) (b ∷ ys) (c ∷ zs) p q =
    ⊎_elim
    (λ l. ⊎_elim (λ m. head_lt a c xs zs (omega arith)) (λ m. head_lt a c xs zs (omega (arith, m.0))) (lt_cases b c ys zs q))
    (λ l. ⊎_elim (λ m. head_lt a c xs zs (omega (arith, l.0))) (λ m. head_eq a c xs zs (l.0 ∙ m.0) ∙ trans xs ys zs l.1 m.1) (lt_cases b c ys zs q))
    (lt_cases a b xs ys p)

pub total : (x y : Key) → key_ltb x y ≡ false → key_ltb y x ≡ false → x ≡ y
total [] [] p q = refl
total [] (b ∷ ys) p q = never (nil_cons b ys) p
total (a ∷ xs) [] p q = never (nil_cons a xs) q
total (a ∷ xs) (b ∷ ys) p q =
    ⊎_elim
    (λ l. ⊎_elim (λ m. absurd (omega arith)) (λ m. absurd (omega (arith, m.0))) (ge_cases b a ys xs q))
    (λ l. ⊎_elim (λ m. absurd (omega (arith, l.0))) (λ m. let t : xs ≡ ys = total xs ys l.1 m.1 in let h : a ≡ b = l.0 in cc) (ge_cases b a ys xs q))
    (ge_cases a b xs ys p)

pub lt_or_le : (x y : Key) → Lt x y ⊎ Le y x
lt_or_le x y = ⊎_elim (λ p. inl (record { is = p })) (λ p. inr (record { is = p })) (decide (key_ltb x y))

pub le_refl : (x : Key) → Le x x
le_refl x = record { is = irrefl x }

module _ {A : Type 0} {x y : Key} where
  pub clash : Lt x y → Le y x → A
  clash p q = never p.is q.is

module _ {x y : Key} where
  pub lt_le : Lt x y → Le x y
  lt_le p = ⊎_elim (λ q. never (trans x y x p.is q.is) (irrefl x)) (λ q. q) (lt_or_le y x)

  pub le_le_eq : Le x y → Le y x → x ≡ y
  le_le_eq p q = total x y q.is p.is

module _ {x y z : Key} where
  pub lt_lt_lt : Lt x y → Lt y z → Lt x z
  lt_lt_lt p q = record { is = trans x y z p.is q.is }

  pub le_lt_lt : Le x y → Lt y z → Lt x z
  le_lt_lt p q = ⊎_elim (λ l. lt_lt_lt l q) (λ l. record { is = ap (λ (k : Key). key_ltb k z) (le_le_eq p l) ∙ q.is }) (lt_or_le x y)

  pub lt_le_lt : Lt x y → Le y z → Lt x z
  lt_le_lt p q = ⊎_elim (λ l. lt_lt_lt p l) (λ l. record { is = ap (λ (k : Key). key_ltb x k) (sym (le_le_eq q l)) ∙ p.is }) (lt_or_le y z)

pub le_le_le : {x y z : Key} → Le x y → Le y z → Le x z
le_le_le {x} {z = z} p q = ⊎_elim (λ l. clash (le_lt_lt q l) p) (λ l. l) (lt_or_le z x)
