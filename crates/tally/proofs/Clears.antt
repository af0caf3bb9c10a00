-- Places that have to be zero: from one place on, and the unused ones of a tally record by record. Assumes nothing.
use mathlib.Core.Path.{◌≡◌, sym, ap, ◌∙◌}
use mathlib.Core.Bool.{Bool, true, ◌&&◌, ◌||◌}
use mathlib.Core.List.{List}
use Prim.Native.Nat.{ℕ, ◌+◌, ◌*◌, ◌≤◌, ◌<◌}
use native.Mathlib.Omega.{arith}
use native.Mathlib.Decide.{dec_lt}
use lib.Dec.{eqb, ltb}
use borrow.Author.Tests.{ltb-true, lt-ltb, le-ltb}
use Rattle.record.proofs.Booleans.{and_left, and_right, both, or_left, or_right}
use Rattle.tally.specs.Stored.{number_in, all_to, clear_from}
use Rattle.tally.specs.Counts.{place_count, record_of, place_of, used_places, is_used}
use Rattle.tally.specs.Entries.{width}
use Rattle.tally.proofs.Tests.{all_at, all_of, all_next, all_same, same_tests}

-- ---- from one place on

-- no place below the first one is asked
pub clear_none : (w : ℕ) (bytes : List ℕ) (from : ℕ) → clear_from w bytes from from ≡ true
unfolding clear_from
clear_none w bytes from = all_of from _ (λ i l. or_left (ltb i from) (eqb (number_in w bytes i) 0) (lt-ltb i from l))

pub clear_next : (w : ℕ) (bytes : List ℕ) (from i : ℕ) → from ≤ i
    → clear_from w bytes from (i + 1) ≡ (clear_from w bytes from i && eqb (number_in w bytes i) 0)
unfolding clear_from
clear_next w bytes from i l =
    let zero = eqb (number_in w bytes i) 0 in
    all_next i _ ∙ ap (λ (b : Bool). clear_from w bytes from i && (b || zero)) (le-ltb i from l)

-- ---- record by record

-- a test that the first m places pass
abbrev after : ℕ → (ℕ → Bool) → ℕ → Bool
after m test i = ltb i m || test i

after_below : (m : ℕ) (test : ℕ → Bool) (i : ℕ) → i < m → after m test i ≡ true
after_below m test i l = or_left (ltb i m) (test i) (lt-ltb i m l)

after_above : (m : ℕ) (test : ℕ → Bool) (i : ℕ) → m ≤ i → after m test i ≡ test i
after_above m test i l = ap (λ (b : Bool). b || test i) (le-ltb i m l)

-- all of n places are the first m and those after them
all_split : (m n : ℕ) (test : ℕ → Bool) → m ≤ n → all_to n test ≡ (all_to m test && all_to n (after m test))
all_split m n test l = same_tests (all_to n test) (all_to m test && all_to n (after m test)) down up
  where
    down : all_to n test ≡ true → (all_to m test && all_to n (after m test)) ≡ true
    down e = both
        (all_of m test (λ i h. all_at n test e i (omega arith)))
        (all_of n (after m test) (λ i h. or_right (ltb i m) (test i) (all_at n test e i h)))

    place : (all_to m test && all_to n (after m test)) ≡ true → (i : ℕ) → i < n → test i ≡ true
    place e i h = elim (dec_lt i m) [
      | yes u ↦ all_at m test (and_left (all_to m test) (all_to n (after m test)) e) i u
      | no u ↦
          sym (after_above m test i (omega arith)) ∙ all_at n (after m test) (and_right (all_to m test) (all_to n (after m test)) e) i h
    ]

    up : (all_to m test && all_to n (after m test)) ≡ true → all_to n test ≡ true
    up e = all_of n test (place e)

-- in record k the used places come first
used_first : (k i : ℕ) → place_count * k ≤ i → i < place_count * k + place_count → is_used i ≡ ltb i (place_count * k + used_places k)
used_first k i l h =
    let r : record_of i ≡ k = omega arith in
    let p : place_count * k + place_of i ≡ i = omega arith in
    let used = used_places k in
    ap (λ (n : ℕ). ltb (place_of i) (used_places n)) r
    ∙ same_tests
    (ltb (place_of i) used)
    (ltb i (place_count * k + used))
    (λ e. let u = ltb-true (place_of i) used e in lt-ltb i (place_count * k + used) (omega arith))
    (λ e. let u = ltb-true i (place_count * k + used) e in lt-ltb (place_of i) used (omega arith))

abbrev is_zero : List ℕ → ℕ → Bool
is_zero bytes i = eqb (number_in width bytes i) 0

-- a place is used, or zero
abbrev pub used_or_zero : List ℕ → ℕ → Bool
used_or_zero bytes i = is_used i || is_zero bytes i

module _ (bytes : List ℕ) (k : ℕ) where
  abbrev begin : ℕ
  begin = place_count * k

  abbrev from : ℕ
  from = begin + used_places k

  abbrev end : ℕ
  end = begin + place_count

  -- past its beginning a record has its used places, and then those that have to be zero
  record_place : (i : ℕ) → i < end → after begin (used_or_zero bytes) i ≡ after from (is_zero bytes) i
  record_place i h = elim (dec_lt i begin) [
    | yes u ↦ after_below begin (used_or_zero bytes) i u ∙ sym (after_below from (is_zero bytes) i (omega arith))
    | no u ↦
        after_above begin (used_or_zero bytes) i (omega arith) ∙ ap (λ (b : Bool). b || is_zero bytes i) (used_first k i (omega arith) h)
  ]

  -- one more record: its places after the used ones are zero
  pub record_next : all_to (place_count * (k + 1)) (used_or_zero bytes) ≡ (all_to begin (used_or_zero bytes) && clear_from width bytes from end)
  unfolding clear_from
  record_next =
      let e : place_count * (k + 1) ≡ end = omega arith in
      let same = all_same end (after begin (used_or_zero bytes)) (after from (is_zero bytes)) record_place in
      ap (λ (n : ℕ). all_to n (used_or_zero bytes)) e
      ∙ all_split begin end (used_or_zero bytes) (omega arith)
      ∙ ap (λ (b : Bool). all_to begin (used_or_zero bytes) && b) same
