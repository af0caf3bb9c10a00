-- Counting up: a test of each number below one, and an array made of a value for each. Assumes nothing.
use Rattle.std.proofs.Common.{◌≡◌, refl, ◌∙◌, ap, sym, subst, ℕ, zero, suc, ◌+◌, ◌-◌, ◌<◌, ◌≤◌, Bool}
use Rattle.std.proofs.Common.{true, false, Option, MatchOption, ◌&&◌, List, [], ◌∷◌, ◌++◌, get_or, map, arith, add-one}
use mathlib.Core.List.{map-id}
use Rattle.std.proofs.Math.Bool.{and-true, and_assoc}
use native.Mathlib.Decide.{ℕ_discrete}
use Rattle.std.specs.Fn.{Mut, Called}
use Rattle.std.specs.Array.{IsFromFnResult, IsFromFnResultFrom}
use Rattle.std.specs.Prelude.{fold}
use Rattle.std.specs.List.{list_all, range_with_len, FoldsTo}
use Rattle.std.proofs.lemmas.List.FromFn.{fill_by_all, map-range_with_len_more}
use Rattle.std.proofs.lemmas.List.Folds.{list_all-append}
use Rattle.std.proofs.iter.Yields.{nat_range_steps}
use Rattle.std.specs.Iterator.{Yields, YieldsThen, Drains, CallableAtEachTurn}
use Rattle.std.specs.declared.ops.Range.{Range}
use Rattle.std.proofs.lemmas.Fn.{serves_by}
use Rattle.std.proofs.lemmas.Iterator.{YieldsList-from_range}
use Rattle.std.proofs.lemmas.Iterator.Search.{all_from_yields_List}
use Rattle.std.proofs.lemmas.Iterator.Consumers.{fold_from_yields_List}

range_snoc : (a n : ℕ) → range_with_len a (suc n) ≡ range_with_len a n ++ (a + n) ∷ []
range_snoc a n =
    ap (range_with_len a) (sym (add-one n))
    ∙ sym (map-id (range_with_len a (n + 1)))
    ∙ map-range_with_len_more (λ k. k) a n (a + n) refl
    ∙ ap (λ (t : List ℕ). t ++ (a + n) ∷ []) (map-id (range_with_len a n))

-- a test of each of n numbers, by a function that asks for one number more at each step
all_range : (holds test : ℕ → Bool) (a n : ℕ) → holds a ≡ true
    → ((k : ℕ) → a ≤ k → k < a + n → holds (k + 1) ≡ (holds k && test k)) → list_all test (range_with_len a n) ≡ holds (a + n)
all_range holds test a zero none more = sym none ∙ ap holds (omega arith)
all_range holds test a (suc n) none more =
    let before : list_all test (range_with_len a n) ≡ holds (a + n) = all_range holds test a n none (λ k l m. more k l (omega arith)) in
    ap (list_all test) (range_snoc a n)
    ∙ list_all-append test (range_with_len a n) ((a + n) ∷ [])
    ∙ (λ i. before i && and-true (test (a + n)) i)
    ∙ sym (more (a + n) (omega arith) (omega arith))
    ∙ ap holds (omega arith)

-- what a range's `all` gives, where the closure is such a test
pub range_all : {F : Type 0} {g : Mut F (ℕ × Unit {0}) Bool} (test : ℕ → Bool) (a b : ℕ) {s u : Range ℕ} {f : F} (r : Bool)
    → (xs : List ℕ) × (o : Option ℕ) × (j : F) × YieldsThen nat_range_steps s xs o u × FoldsTo (λ p x q. Called g p (x, tt) true q) f xs j
    × MatchOption o (r ≡ true) (λ x. (r ≡ false) × ((h : F) × Called g j (x, tt) false h))
    → s ≡ record { start = a; end = b } → ((x : ℕ) (b : Bool) (q : F) → Called g f (x, tt) b q → (q ≡ f) × (b ≡ test x))
    → (holds : ℕ → Bool) → a ≤ b → holds a ≡ true → ((k : ℕ) → a ≤ k → k < b → holds (k + 1) ≡ (holds k && test k)) → r ≡ holds b
range_all test a b r ran from each holds l none more =
    all_from_yields_List test _ _ r ran (YieldsList-from_range a b (b - a) from refl) each
    ∙ all_range holds test a (b - a) none (λ k h m. more k h (omega arith))
    ∙ ap holds (omega arith)

-- a fold by `&`, which goes on past a test that fails, tests all
pub fold_all : {A : Type 0} (test : A → Bool) (b : Bool) (xs : List A) → fold (λ p x. p && test x) b xs ≡ (b && list_all test xs)
fold_all test b [] = rw and-true refl
fold_all test b (x ∷ xs) = fold_all test (b && test x) xs ∙ rw and_assoc refl

-- what a fold by `&` over a range gives: what `all` would
pub range_fold : {F : Type 0} {g : Mut F (Bool × (ℕ × Unit {0})) Bool} (test : ℕ → Bool) (a b : ℕ) {s : Range ℕ} {f : F} (r : Bool)
    → (xs : List ℕ) × (q : F) × Drains nat_range_steps s xs
    × FoldsTo {P = F × Bool} (λ p x t. Called g p.0 (p.1, (x, tt)) t.1 t.0) (f, true) xs (q, r)
    → s ≡ record { start = a; end = b } → ((p : Bool) (x : ℕ) (t : Bool) (q : F) → Called g f (p, (x, tt)) t q → (q ≡ f) × (t ≡ (p && test x)))
    → (holds : ℕ → Bool) → a ≤ b → holds a ≡ true → ((k : ℕ) → a ≤ k → k < b → holds (k + 1) ≡ (holds k && test k)) → r ≡ holds b
range_fold {g = g} test a b r ran from each holds l none more =
    fold_from_yields_List g (λ p k. p && test k) true r ran (YieldsList-from_range a b (b - a) from refl) each
    ∙ fold_all test true (range_with_len a (b - a))
    ∙ all_range holds test a (b - a) none (λ k h m. more k h (omega arith))
    ∙ ap holds (omega arith)

within : (xs : List ℕ) (s t : Range ℕ) → Yields nat_range_steps s xs t → (t.end ≡ s.end) × (s.start ≤ t.start)
within [] s t y = (sym (ap (λ k. k.end) y), omega (arith, ap (λ (k : Range ℕ). k.start) y))
within (x ∷ xs) s t y = let h = within xs y.0 t y.2 in (h.0 ∙ y.1.0, omega (arith, h.1, y.1.1.2))

-- what a fold over a range may ask of its closure, where that stays as it is: std has it where what is carried stays too
pub serves_fold : {F C : Type 0} {R : F × C → ℕ → F × C → Type 0} {Q : F × C → ℕ → Type 0} {s : Range ℕ} {f : F} {c : C}
    → ((c : C) (x : ℕ) (q : F × C) → R (f, c) x q → q.0 ≡ f) → ((c : C) (x : ℕ) → s.start ≤ x → x < s.end → Q (f, c) x)
    → CallableAtEachTurn nat_range_steps R Q s (f, c)
serves_fold {R = R} {Q = Q} {s = s} {f = f} {c = c} stays h =
    serves_by R (λ xs q. q.0 ≡ f) (λ xs q x v k r. stays q.1 x v (subst (λ p. R (p, q.1) x v) k r)) nat_range_steps Q s (f, c) refl
    (λ xs t q x u y e k.
    let w = within xs s t y in
    subst (λ p. Q (p, q.1) x) (sym k) (h q.1 x (omega (arith, w.1, e.1.1)) (omega (arith, w.0, e.1.0, e.1.1))))

made_at : {F B : Type 0} {g : Mut F (ℕ × Unit {0}) B} (h : ℕ → B) (f : F) (made : List B)
    → ((k : ℕ) (y : B) (q : F) → Called g f (k, tt) y q → (q ≡ f) × (y ≡ h k))
    → (i n : ℕ) → IsFromFnResultFrom g f made i n → (k : ℕ) (d : B) → i ≤ k → k < i + n → get_or made k d ≡ h k
made_at h f made each i zero e k d l m = absurd (omega arith)
made_at {g = g} h f made each i (suc n) e k d l m =
    let t = each i e.1 e.0 e.3 in
    elim (ℕ_discrete k i) [
      | yes q ↦ ap (λ (j : ℕ). get_or made j d) q ∙ e.2.1 d ∙ t.1 ∙ ap h (sym q)
      | no q ↦ made_at h f made each (i + 1) n (subst (λ p. IsFromFnResultFrom g p made (i + 1) n) t.0 e.4) k d (omega arith) (omega arith)
    ]

-- what `array::from_fn` makes of a closure that gives h of each place
pub made_by : {F B : Type 0} {g : Mut F (ℕ × Unit {0}) B} (h : ℕ → B) (f : F) (made : List B) (n : ℕ) → IsFromFnResult g f made n
    → ((k : ℕ) (y : B) (q : F) → Called g f (k, tt) y q → (q ≡ f) × (y ≡ h k)) → made ≡ map h (range_with_len 0 n)
made_by h f [] n e each = ap (λ (m : ℕ). map h (range_with_len 0 m)) e.long
made_by h f (y ∷ ys) n e each = fill_by_all h (y ∷ ys) n y e.long (λ k l. made_at h f (y ∷ ys) each 0 n e.each k y (omega arith) (omega arith))
