-- A test of the first n places: what it says of each, and how it grows by one place and by a whole record. Assumes nothing.
use mathlib.Core.Path.{◌≡◌, refl, sym, ap, ◌∙◌}
use mathlib.Core.Bool.{Bool, true, false, ◌&&◌}
use Prim.Native.Nat.{ℕ, zero, suc, ◌+◌, ◌≤◌, ◌<◌}
use native.Mathlib.Omega.{arith}
use native.Mathlib.Decide.{dec_lt, ℕ_discrete}
use Rattle.record.proofs.Booleans.{and_left, and_right, both}
use Rattle.std.proofs.Common.{List, length, get_or, take, add-one}
use Rattle.std.specs.List.{list_all}
use Rattle.std.proofs.lemmas.List.Folds.{list_all_more}
use lib.Seq.{take_all}
use Rattle.tally.specs.Stored.{all_to}

pub all_none : (test : ℕ → Bool) → all_to 0 test ≡ true
unfolding all_to
all_none test = refl

pub all_next : (n : ℕ) (test : ℕ → Bool) → all_to (n + 1) test ≡ (all_to n test && test n)
unfolding all_to
all_next n test = let e : n + 1 ≡ suc n = omega arith in ap (λ (k : ℕ). all_to k test) e

-- a test of the elements of a list is that of its places
pub all_list : (test : ℕ → Bool) (xs : List ℕ) → list_all test xs ≡ all_to (length xs) (λ k. test (get_or xs k 0))
unfolding all_to
all_list test xs = sym (ap (list_all test) (take_all (length xs) xs (omega arith))) ∙ front (length xs) (omega arith)
  where
    front : (n : ℕ) → n ≤ length xs → list_all test (take n xs) ≡ all_to n (λ k. test (get_or xs k 0))
    front zero l = refl
    front (suc n) l =
        ap (λ (m : ℕ). list_all test (take m xs)) (sym (add-one n))
        ∙ list_all_more test xs n 0 (omega arith)
        ∙ ap (λ (b : Bool). b && test (get_or xs n 0)) (front n (omega arith))

-- both ways: the test of each place, and of all
pub all_at : (n : ℕ) (test : ℕ → Bool) → all_to n test ≡ true → (i : ℕ) → i < n → test i ≡ true
unfolding all_to
all_at zero test e i l = absurd (omega arith)
all_at (suc n) test e i l = elim (dec_lt i n) [
  | yes h ↦ all_at n test (and_left (all_to n test) (test n) e) i h
  | no h ↦ let q : n ≡ i = omega arith in ap test (sym q) ∙ and_right (all_to n test) (test n) e
]

pub all_of : (n : ℕ) (test : ℕ → Bool) → ((i : ℕ) → i < n → test i ≡ true) → all_to n test ≡ true
unfolding all_to
all_of zero test h = refl
all_of (suc n) test h = both (all_of n test (λ i l. h i (omega arith))) (h n (omega arith))

-- tests that agree
pub all_same : (n : ℕ) (test other : ℕ → Bool) → ((i : ℕ) → i < n → test i ≡ other i) → all_to n test ≡ all_to n other
unfolding all_to
all_same zero test other h = refl
all_same (suc n) test other h =
    let i : all_to n test ≡ all_to n other = all_same n test other (λ i l. h i (omega arith)) in
    let e : test n ≡ other n = h n (omega arith) in
    λ k. i k && e k

-- two tests of each other's places are one
pub same_tests : (a b : Bool) → (a ≡ true → b ≡ true) → (b ≡ true → a ≡ true) → a ≡ b
same_tests true b f g = sym (f refl)
same_tests false true f g = g refl
same_tests false false f g = refl

-- places among which one alone can fail add its test
pub all_one : (m n q : ℕ) (test : ℕ → Bool) → m ≤ q → q < n → ((i : ℕ) → m ≤ i → i < n → (i ≡ q → ⊥) → test i ≡ true)
    → all_to n test ≡ (all_to m test && test q)
all_one m n q test l h others = same_tests (all_to n test) (all_to m test && test q) down up
  where
    down : all_to n test ≡ true → (all_to m test && test q) ≡ true
    down e = both (all_of m test (λ i k. all_at n test e i (omega arith))) (all_at n test e q h)

    place : (all_to m test && test q) ≡ true → (i : ℕ) → i < n → test i ≡ true
    place e i k = elim (dec_lt i m) [
      | yes u ↦ all_at m test (and_left (all_to m test) (test q) e) i u
      | no u ↦ elim (ℕ_discrete i q) [
        | yes v ↦ ap test v ∙ and_right (all_to m test) (test q) e
        | no v ↦ others i (omega arith) k v
      ]
    ]

    up : (all_to m test && test q) ≡ true → all_to n test ≡ true
    up e = all_of n test (place e)

-- places that all pass add nothing
pub all_more : (m n : ℕ) (test : ℕ → Bool) → m ≤ n → ((i : ℕ) → m ≤ i → i < n → test i ≡ true) → all_to n test ≡ all_to m test
all_more m n test l others = same_tests (all_to n test) (all_to m test) (λ e. all_of m test (λ i k. all_at n test e i (omega arith))) up
  where
    up : all_to m test ≡ true → all_to n test ≡ true
    up e = all_of n test (λ i k. elim (dec_lt i m) [
      | yes u ↦ all_at m test e i u
      | no u ↦ others i (omega arith) k
    ])
