-- By how much an entry raises each place, and what follows for the test of room and for what is stored. Assumes nothing.
use mathlib.Core.Path.{◌≡◌, refl, sym, ap, ◌∙◌}
use mathlib.Core.Bool.{Bool, true, false, cond, ◌&&◌}
use mathlib.Core.List.{List, [], ◌∷◌}
use Prim.Native.Nat.{ℕ, suc, ◌+◌, ◌-◌, ◌*◌, ◌^◌, ◌≤◌, ◌<◌}
use native.Mathlib.Decide.{dec_lt, ℕ_discrete}
use native.Mathlib.Omega.{arith}
use lib.ListN.{length, get_or}
use lib.Seq.{sets}
use lib.Dec.{eqb, leb, ltb}
use borrow.Author.Tests.{ltb-true, leb-true, lt-ltb, le-ltb, le-leb, eq-eqb, ne_eqb}
use Rattle.record.proofs.Numbers.{Bytes}
use Rattle.record.specs.Numbers.{bytes_of}
use Rattle.rules.specs.Checks.{check_count}
use Rattle.tally.specs.Stored.{holds, number_in, all_to}
use Rattle.tally.specs.Counts.{place_count, tally_places, record_of, place_of}
use Rattle.tally.specs.Entries.{width, tally_size}
use Rattle.tally.specs.Raising.{Known, raise_at, raised_to, tallied_to, room_to, room_for}
use Rattle.tally.proofs.Widths.{placed, number_stored, number_fits, stored_same, stored_back, write_stored}
use Rattle.tally.proofs.Tests.{all_none, all_at, all_one, all_more, same_tests}

-- a number can be raised where what is left of its width is enough
pub can_raise : (number by read : ℕ) → read ≡ number → read < 256 ^ width → leb by (4294967295 - read) ≡ holds width (number + by)
can_raise number by read e l = same_tests (leb by (4294967295 - read)) (holds width (number + by)) fits room
  where
    fits : leb by (4294967295 - read) ≡ true → holds width (number + by) ≡ true
    fits t = let h : by ≤ 4294967295 - read = leb-true by (4294967295 - read) t in lt-ltb (number + by) (256 ^ width) (omega arith)

    room : holds width (number + by) ≡ true → leb by (4294967295 - read) ≡ true
    room t = let h : number + by < 256 ^ width = ltb-true (number + by) (256 ^ width) t in le-leb by (4294967295 - read) (omega arith)

module _ (places : List ℕ) (count : ℕ) where
  -- ---- by how much

  -- a place of a check's record
  pub raise_check : (k p i : ℕ) → k < check_count → p < place_count → i ≡ place_count * k + p
      → raise_at places count i ≡ cond (eqb (get_or places k 0) p) 1 0
  unfolding raise_at
  raise_check k p i l h e =
      let r : record_of i ≡ k = omega arith in
      let q : place_of i ≡ p = omega arith in
      let t : ltb (record_of i) check_count ≡ true = lt-ltb (record_of i) check_count (omega arith) in
      ap (λ (b : Bool). cond b (cond (eqb (get_or places (record_of i) 0) (place_of i)) 1 0) (get_or (1 ∷ count ∷ []) (place_of i) 0)) t
      ∙ (λ n. cond (eqb (get_or places (r n) 0) (q n)) 1 0)

  -- the verdict's own place, and the others
  pub raise_own : (k i : ℕ) → k < check_count → Known places → i ≡ place_count * k + get_or places k 0 → raise_at places count i ≡ 1
  raise_own k i l known e =
      let p = get_or places k 0 in
      let t : eqb p p ≡ true = eq-eqb p p refl in
      raise_check k p i l (known.each k l) e ∙ ap (λ (b : Bool). cond b 1 0) t

  pub raise_other : (k i : ℕ) → k < check_count → place_count * k ≤ i → i < place_count * k + place_count
      → (i ≡ place_count * k + get_or places k 0 → ⊥) → raise_at places count i ≡ 0
  raise_other k i l a b n =
      let p : ℕ = i - place_count * k in
      let e : i ≡ place_count * k + p = omega arith in
      let t : eqb (get_or places k 0) p ≡ false = ne_eqb (get_or places k 0) p (λ q. n (e ∙ ap (λ (m : ℕ). place_count * k + m) (sym q))) in
      raise_check k p i l (omega arith) e ∙ ap (λ (b : Bool). cond b 1 0) t

  -- a place of the totals
  pub raise_total : (p i : ℕ) → p < place_count → i ≡ place_count * check_count + p → raise_at places count i ≡ get_or (1 ∷ count ∷ []) p 0
  unfolding raise_at
  raise_total p i h e =
      let q : place_of i ≡ p = omega arith in
      let t : ltb (record_of i) check_count ≡ false = le-ltb (record_of i) check_count (omega arith) in
      ap (λ (b : Bool). cond b (cond (eqb (get_or places (record_of i) 0) (place_of i)) 1 0) (get_or (1 ∷ count ∷ []) (place_of i) 0)) t
      ∙ ap (λ (n : ℕ). get_or (1 ∷ count ∷ []) n 0) q

  pub raise_traces : raise_at places count (place_count * check_count) ≡ 1
  raise_traces = raise_total 0 (place_count * check_count) (omega arith) (omega arith)

  pub raise_taken : raise_at places count (place_count * check_count + 1) ≡ count
  raise_taken = raise_total 1 (place_count * check_count + 1) (omega arith) (omega arith)

  pub raise_rest : (i : ℕ) → place_count * check_count + 2 ≤ i → i < tally_places → raise_at places count i ≡ 0
  raise_rest i a b =
      let p : ℕ = i - (place_count * check_count + 2) in
      raise_total (suc (suc p)) i (omega arith) (omega arith)

  -- ---- room

  pub room_none : (bytes : List ℕ) → ◌≡◌ {A = Bool} true (room_to 0 bytes places count)
  unfolding room_to
  room_none bytes = sym (all_none _)

  module _ (bytes : List ℕ) (b : Bytes bytes) where
    -- the test of a place
    abbrev test : ℕ → Bool
    test i = holds width (number_in width bytes i + raise_at places count i)

    -- a place that is not raised has room, since it holds a number that fits
    room_kept : (i : ℕ) → raise_at places count i ≡ 0 → test i ≡ true
    room_kept i e =
        let f : number_in width bytes i < 256 ^ width = number_fits width bytes i b in
        lt-ltb (number_in width bytes i + raise_at places count i) (256 ^ width) (omega arith)

    -- one record more
    pub room_more : (k : ℕ) → k < check_count → Known places
        → room_to (place_count * (k + 1)) bytes places count
        ≡ (room_to (place_count * k) bytes places count && holds width (number_in width bytes (place_count * k + get_or places k 0) + 1))
    unfolding room_to
    room_more k l known =
        let q : ℕ = place_count * k + get_or places k 0 in
        let h : get_or places k 0 < place_count = known.each k l in
        let own : raise_at places count q ≡ 1 = raise_own k q l known refl in
        all_one (place_count * k) (place_count * (k + 1)) q test (omega arith) (omega arith)
        (λ i u v n. room_kept i (raise_other k i l u (omega arith) n))
        ∙ ap (λ (m : ℕ). all_to (place_count * k) test && holds width (number_in width bytes q + m)) own

    -- the totals
    pub room_totals : room_for bytes places count
        ≡ (room_to (place_count * check_count) bytes places count
        && holds width (number_in width bytes (place_count * check_count) + 1)
        && holds width (number_in width bytes (place_count * check_count + 1) + count))
    unfolding room_to
    room_totals =
        let t : ℕ = place_count * check_count in
        all_more (t + 2) tally_places test (omega arith) (λ i u v. room_kept i (raise_rest i u v))
        ∙ all_one (t + 1) (t + 2) (t + 1) test (omega arith) (omega arith) (λ i u v n. absurd (omega arith))
        ∙ ap (λ (r : Bool). r && test (t + 1)) (all_one t (t + 1) t test (omega arith) (omega arith) (λ i u v n. absurd (omega arith)))
        ∙ (λ n. all_to t test && holds width (number_in width bytes t + raise_traces n) && holds width (number_in width bytes (t + 1) + raise_taken n))

    -- ---- what is stored

    abbrev tallied : ℕ → List ℕ
    tallied n = tallied_to n bytes places count

    -- the number of a place that is raised, and of one that is not yet
    raised_below : (n i : ℕ) → i < n → raised_to n bytes places count i ≡ number_in width bytes i + raise_at places count i
    raised_below n i l = let t : ltb i n ≡ true = lt-ltb i n l in ap (λ (r : Bool). number_in width bytes i + cond r (raise_at places count i) 0) t

    raised_above : (n i : ℕ) → n ≤ i → raised_to n bytes places count i ≡ number_in width bytes i
    raised_above n i l =
        let t : ltb i n ≡ false = le-ltb i n l in
        ap (λ (r : Bool). number_in width bytes i + cond r (raise_at places count i) 0) t ∙ omega arith

    -- before anything is raised
    pub raised_none : length bytes ≡ tally_size → bytes ≡ tallied 0
    raised_none e =
        sym (stored_back width bytes tally_places b e)
        ∙ stored_same width (number_in width bytes) (raised_to 0 bytes places count) tally_places (λ i l. sym (raised_above 0 i (omega arith)))

    -- places that are not raised
    raised_same : (n m : ℕ) (i : ℕ) → n ≤ m → (n ≤ i → i < m → raise_at places count i ≡ 0)
        → raised_to n bytes places count i ≡ raised_to m bytes places count i
    raised_same n m i l kept = elim (dec_lt i n) [
      | yes u ↦ raised_below n i u ∙ sym (raised_below m i (omega arith))
      | no u ↦ elim (dec_lt i m) [
        | yes v ↦
            let z = kept (omega arith) v in
            let s : number_in width bytes i ≡ number_in width bytes i + raise_at places count i = omega arith in
            raised_above n i (omega arith) ∙ s ∙ sym (raised_below m i v)
        | no v ↦ raised_above n i (omega arith) ∙ sym (raised_above m i (omega arith))
      ]
    ]

    -- from the places below n to those below m, of which q alone is raised
    pub record Step (n m q by : ℕ) : Type 0 where
      pub from : n ≤ q
      pub to : q < m
      pub end : m ≤ tally_places
      pub by_is : raise_at places count q ≡ by
      pub others : (i : ℕ) → n ≤ i → i < m → (i ≡ q → ⊥) → raise_at places count i ≡ 0

    module _ (room : room_for bytes places count ≡ true) (tally : List ℕ) (n m q by : ℕ) (is : tally ≡ tallied n) (s : Step n m q by) where
      q_in : q < tally_places
      q_in = let t = s.to in let e = s.end in omega arith

      room_at : number_in width bytes q + by < 256 ^ width
      unfolding room_to
      room_at =
          let h : test q ≡ true = all_at tally_places test room q q_in in
          let l = ltb-true (number_in width bytes q + raise_at places count q) (256 ^ width) h in
          let e = s.by_is in
          omega arith

      -- what stands there still is the first number
      number_is : number_in width tally q ≡ number_in width bytes q
      number_is =
          let f = raised_to n bytes places count in
          let e : f q ≡ number_in width bytes q = raised_above n q s.from in
          let r = room_at in
          ap (λ (t : List ℕ). number_in width t q) is ∙ number_stored width f q tally_places q_in (omega arith) ∙ e

      pub raise_fits : number_in width tally q + by < 256 ^ width
      raise_fits = let e = number_is in let r = room_at in omega arith

      -- each place after the store
      placed_is : (i : ℕ) → i < tally_places
          → placed width q (number_in width tally q + by) (raised_to n bytes places count) i ≡ raised_to m bytes places count i
      placed_is i l = elim (ℕ_discrete i q) [
        | yes u ↦
            let t : eqb i q ≡ true = eq-eqb i q u in
            let e = number_is in
            let y = s.by_is in
            let z : number_in width tally q + by ≡ number_in width bytes q + raise_at places count q = omega arith in
            ap (λ (r : Bool). cond r (number_in width tally q + by) (raised_to n bytes places count i)) t
            ∙ z ∙ sym (raised_below m q s.to) ∙ ap (raised_to m bytes places count) (sym u)
        | no u ↦
            let t : eqb i q ≡ false = ne_eqb i q u in
            let l : n ≤ m = let x = s.from in let y = s.to in omega arith in
            ap (λ (r : Bool). cond r (number_in width tally q + by) (raised_to n bytes places count i)) t
            ∙ raised_same n m i l (λ a b. s.others i a b u)
      ]

      pub raise_stored : sets tally (width * q) (bytes_of width (number_in width tally q + by)) ≡ tallied m
      raise_stored =
          let f = raised_to n bytes places count in
          let v : ℕ = number_in width tally q + by in
          ap (λ (t : List ℕ). sets t (width * q) (bytes_of width v)) is
          ∙ write_stored width f q v tally_places q_in
          ∙ stored_same width (placed width q v f) (raised_to m bytes places count) tally_places placed_is

    -- the steps: a check's record, the traces, the records taken; and then the rest
    pub check_step : (k : ℕ) → k < check_count → Known places → Step (place_count * k) (place_count * (k + 1)) (place_count * k + get_or places k 0) 1
    check_step k l known =
        let h = known.each k l in
        record {
          from = omega arith;
          to = omega arith;
          end = omega arith;
          by_is = raise_own k (place_count * k + get_or places k 0) l known refl;
          others = λ i u v n. raise_other k i l u (omega arith) n;
        }

    pub traces_step : Step (place_count * check_count) (place_count * check_count + 1) (place_count * check_count) 1
    traces_step = record { from = omega arith; to = omega arith; end = omega arith; by_is = raise_traces; others = λ i u v n. absurd (omega arith) }

    pub taken_step : Step (place_count * check_count + 1) (place_count * check_count + 2) (place_count * check_count + 1) count
    taken_step = record { from = omega arith; to = omega arith; end = omega arith; by_is = raise_taken; others = λ i u v n. absurd (omega arith) }

    pub raised_all : tallied (place_count * check_count + 2) ≡ tallied tally_places
    raised_all =
        let n : ℕ = place_count * check_count + 2 in
        stored_same width (raised_to n bytes places count) (raised_to tally_places bytes places count) tally_places
        (λ i l. raised_same n tally_places i (omega arith) (λ a b. raise_rest i a b))
