-- Lists of numbers: one step further along one, the front of a rest, and runs of stores. What the logic's own `lib.Seq` has is not said again.
use mathlib.Core.Path.{◌≡◌, refl, sym, ap, ◌∙◌}
use mathlib.Core.List.{List, [], ◌∷◌, ◌++◌, append-nil, append_assoc}
use Prim.Native.Nat.{ℕ, zero, suc, ◌+◌, ◌≤◌, ◌<◌}
use native.Mathlib.Numerals.{add-one}
use native.Mathlib.Omega.{arith}
use lib.ListN.{length, get_or, take, drop, set, length-append, length-set, drop_of_length-le}
use borrow.Rule.Slice.PartMut.{put_mid}
use Rattle.std.proofs.lemmas.Slice.{put_mid-paste}
use Rattle.std.proofs.lemmas.List.Edits.{paste_all}
use lib.Seq.{drop-cons, take-nil, take_at, set-append_left, sets, sets-eq}

-- a list from a place on is the number there, and the list from the next place on
pub drop_step : (l : List ℕ) (i : ℕ) → i < length l → drop i l ≡ get_or l i 0 ∷ drop (i + 1) l
drop_step l i h = rw (add-one, drop-cons l i 0)

-- the front of a rest is the rest of a front
pub drop_take : (n m k : ℕ) (l : List ℕ) → k ≡ n + m → drop n (take k l) ≡ take m (drop n l)
drop_take zero m k l e = let f : k ≡ m = omega arith in ap (λ (j : ℕ). take j l) f
drop_take (suc n) m k [] e = ap (drop (suc n)) (take-nil k) ∙ take_none m
  where
    take_none : (m : ℕ) → ◌≡◌ {A = List ℕ} [] (take m [])
    take_none zero = refl
    take_none (suc m) = refl
drop_take (suc n) m zero (x ∷ l) e = absurd (omega arith)
drop_take (suc n) m (suc k) (x ∷ l) e = drop_take n m k l (omega arith)

-- a run of stores, and then a run after it
pub sets_append : (l : List ℕ) (i : ℕ) (a b : List ℕ) → sets l i (a ++ b) ≡ sets (sets l i a) (i + length a) b
sets_append l i [] b = ap (λ (k : ℕ). sets l k b) (omega arith)
sets_append l i (x ∷ a) b =
    sets_append (set l i x) (suc i) a b ∙ ap (λ (k : ℕ). sets (sets (set l i x) (suc i) a) k b) (omega arith)

-- stored from the start on, the words stand at the front, and the rest is as it was
pub sets_front : (l words : List ℕ) → length words ≤ length l → sets l 0 words ≡ words ++ drop (length words) l
sets_front l words h =
    let e : 0 + length words ≡ length words = omega arith in
    sets-eq words l 0 (omega arith) ∙ ap (λ (k : ℕ). words ++ drop k l) e

-- stored over all of a list, the words are the list
pub sets_all : (l words : List ℕ) → length words ≡ length l → sets l 0 words ≡ words
sets_all l words h =
    sets_front l words (omega arith) ∙ ap (λ (t : List ℕ). words ++ t) (drop_of_length-le l {i = length words} (omega arith)) ∙ append-nil words

-- stored behind a front, they leave the front; stored within it, they leave what is behind
pub set_tail : (a b : List ℕ) (i x : ℕ) → set (a ++ b) (length a + i) x ≡ a ++ set b i x
set_tail [] b i x = ap (λ (n : ℕ). set b n x) (omega arith)
set_tail (y ∷ a) b i x =
    let e : length (y ∷ a) + i ≡ suc (length a + i) = omega arith in
    ap (λ (n : ℕ). set (y ∷ a ++ b) n x) e ∙ ap (λ (t : List ℕ). y ∷ t) (set_tail a b i x)

pub sets_tail : (a b : List ℕ) (i : ℕ) (vs : List ℕ) → sets (a ++ b) (length a + i) vs ≡ a ++ sets b i vs
sets_tail a b i [] = refl
sets_tail a b i (v ∷ vs) =
    let e : suc (length a + i) ≡ length a + suc i = omega arith in
    ap (λ (l : List ℕ). sets l (suc (length a + i)) vs) (set_tail a b i v)
    ∙ ap (λ (n : ℕ). sets (a ++ set b i v) n vs) e
    ∙ sets_tail a (set b i v) (suc i) vs

pub sets_left : (xs ys : List ℕ) (i : ℕ) (vs : List ℕ) → i + length vs ≤ length xs → sets (xs ++ ys) i vs ≡ sets xs i vs ++ ys
sets_left xs ys i [] h = refl
sets_left xs ys i (v ∷ vs) h =
    let n = length-set xs i v in
    ap (λ (l : List ℕ). sets l (suc i) vs) (set-append_left xs ys i v (omega arith)) ∙ sets_left (set xs i v) ys (suc i) vs (omega arith)

-- stored over all that is behind a front
pub sets_end : (xs ys vs : List ℕ) (i : ℕ) → length xs ≡ i → length ys ≡ length vs → sets (xs ++ ys) i vs ≡ xs ++ vs
sets_end xs ys vs i e f =
    let n = length-append xs ys in
    let d : drop (i + length vs) (xs ++ ys) ≡ [] = drop_of_length-le (xs ++ ys) {i = i + length vs} (omega arith) in
    sets-eq vs (xs ++ ys) i (omega arith)
    ∙ ap (λ (t : List ℕ). t ++ vs ++ drop (i + length vs) (xs ++ ys)) (take_at xs ys i e)
    ∙ ap (λ (t : List ℕ). xs ++ vs ++ t) d
    ∙ append-nil (xs ++ vs)

-- a part overwritten by a list of its length is that list stored from the part's start on
pub put_sets : {A : Type 0} (l : List A) (i k : ℕ) (vs : List A) → k ≡ length vs → i + k ≤ length l → put_mid i k l vs ≡ sets l i vs
put_sets l i k vs e h =
    put_mid-paste i k l vs vs (length vs) refl (sym e) refl
    ∙ paste_all l i vs (length vs) refl
    ∙ sym (sets-eq vs l i (omega arith) ∙ append_assoc (take i l) vs (drop (i + length vs) l))
