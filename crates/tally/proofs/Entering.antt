-- What an entry comes to, from what its parts say: refused for each reason, or entered. Assumes nothing.
use mathlib.Core.Path.{◌≡◌, refl, sym, ap, ◌∙◌, subst}
use mathlib.Core.Bool.{Bool, true, false, cond, ◌&&◌}
use mathlib.Core.List.{List, [], ◌∷◌}
use Prim.Native.Nat.{ℕ, zero, suc, ◌+◌, ◌*◌, ◌≤◌, ◌<◌}
use native.Mathlib.Decide.{dec_lt}
use native.Mathlib.Omega.{arith}
use lib.ListN.{length, get_or}
use lib.Dec.{eqb, ltb}
use borrow.Author.Tests.{ltb-true, eqb-true, eqb-false, lt-ltb, le-ltb, ne_eqb}
use Rattle.rules.specs.Checks.{check_count, check_at}
use Rattle.decision.specs.Refusals.{fits_by}
use Rattle.judge.specs.declared.state.Judge.{Judge}
use Rattle.tally.specs.declared.Entered.{Entered}
use Rattle.tally.specs.Stored.{holds, stored, number_in, all_to}
use Rattle.tally.specs.Counts.{place_count, tally_places, record_of, place_of, judge_place, how_many, traces_at, records_taken, used_places, count_at}
use Rattle.tally.specs.Entries.{width, tally_size, refusal_number, is_entry, unused_clear, raised, has_room, in_order, entry_refusal, left_by, EntersBy}
use Rattle.tally.specs.Raising.{PlacesOf, places_known, Known, raise_at, raised_to, tallied_to, room_to, room_for, refusal_by, EntersPlaces}
use Rattle.tally.proofs.Counts.{place_within, count_at_lem}
use Rattle.tally.proofs.Raising.{raise_check, raise_total}
use Rattle.tally.proofs.Tests.{all_at, all_same}
use Rattle.tally.proofs.Widths.{stored_same}

and-false : (a b : Bool) → (a && (b && false)) ≡ false
and-false true true = refl
and-false true false = refl
and-false false b = refl

pub known_of : (places : List ℕ) → length places ≡ check_count → places_known places ≡ true → Known places
unfolding places_known
known_of places n e = record {
  many = n;
  each = λ k l. ltb-true (get_or places k 0) place_count (all_at check_count (λ k. ltb (get_or places k 0) place_count) e k l);
}

module _ (j : Judge) (places : List ℕ) (p : PlacesOf j.reports places) where
  -- the place that was found is the judge's
  place_is : (k : ℕ) → k < check_count → get_or places k 0 ≡ judge_place k j
  unfolding judge_place
  place_is k l = p.each k l

  pub known_is : places_known places ≡ all_to check_count (λ k. ltb (judge_place k j) place_count)
  unfolding places_known
  known_is =
      all_same check_count (λ k. ltb (get_or places k 0) place_count) (λ k. ltb (judge_place k j) place_count)
      (λ k l. ap (λ (n : ℕ). ltb n place_count) (place_is k l))

  -- ---- a place is raised by what is counted of this judge alone

  module _ (known : Known places) where
    -- in a check's record
    in_check : (k q : ℕ) → k < check_count → q < place_count
        → cond (eqb (get_or places k 0) q) 1 0 ≡ cond (ltb q ((check_at k).kinds + 1)) (cond (eqb (judge_place k j) q) 1 0 + 0) 0
    in_check k q l h = elim (dec_lt q ((check_at k).kinds + 1)) [
      | yes u ↦
          let t : ltb q ((check_at k).kinds + 1) ≡ true = lt-ltb q ((check_at k).kinds + 1) u in
          let z : cond (eqb (judge_place k j) q) 1 0 ≡ cond (eqb (judge_place k j) q) 1 0 + 0 = omega arith in
          ap (λ (n : ℕ). cond (eqb n q) 1 0) (place_is k l) ∙ z
          ∙ sym (ap (λ (b : Bool). cond b (cond (eqb (judge_place k j) q) 1 0 + 0) 0) t)
      | no u ↦
          let t : ltb q ((check_at k).kinds + 1) ≡ false = le-ltb q ((check_at k).kinds + 1) (omega arith) in
          let e = place_is k l in
          let m = known.each k l in
          let w : judge_place k j ≤ (check_at k).kinds = place_within k j (omega arith) in
          let n : eqb (get_or places k 0) q ≡ false = ne_eqb (get_or places k 0) q (λ x. omega arith) in
          ap (λ (b : Bool). cond b 1 0) n ∙ sym (ap (λ (b : Bool). cond b (cond (eqb (judge_place k j) q) 1 0 + 0) 0) t)
    ]

    -- in the totals
    in_totals : (q : ℕ) → get_or (1 ∷ j.count ∷ []) q 0 ≡ cond (ltb q 2) (cond (eqb q 0) 1 (j.count + 0)) 0
    in_totals zero = refl
    in_totals (suc zero) = omega arith
    in_totals (suc (suc q)) =
        let t : ltb (suc (suc q)) 2 ≡ false = le-ltb (suc (suc q)) 2 (omega arith) in
        sym (ap (λ (b : Bool). cond b (cond (eqb (suc (suc q)) 0) 1 (j.count + 0)) 0) t)

    pub raise_counted : (i : ℕ) → i < tally_places → raise_at places j.count i ≡ count_at (j ∷ []) i
    unfolding count_at used_places how_many records_taken
    raise_counted i l =
        let k : ℕ = record_of i in
        let q : ℕ = place_of i in
        let h : q < place_count = omega arith in
        elim (dec_lt k check_count) [
          | yes u ↦
              let e : i ≡ place_count * k + q = omega arith in
              raise_check places j.count k q i u h e ∙ in_check k q u h ∙ sym (ap (count_at (j ∷ [])) e ∙ count_at_lem (j ∷ []) k q u h)
          | no u ↦
              let number : Bool → ℕ = λ b. cond b (traces_at k q (j ∷ [])) (cond (eqb q 0) 1 (j.count + 0)) in
              let total : Bool → ℕ = λ b. cond (ltb q (cond b ((check_at k).kinds + 1) 2)) (number b) 0 in
              let t : ltb k check_count ≡ false = le-ltb k check_count (omega arith) in
              raise_total places j.count q i h (omega arith) ∙ in_totals q ∙ ap total (sym t)
        ]

    pub room_is : (bytes : List ℕ) → room_for bytes places j.count ≡ has_room bytes j
    unfolding room_to has_room
    room_is bytes =
        all_same tally_places (λ i. holds width (number_in width bytes i + raise_at places j.count i)) (λ i. holds width (raised bytes j i))
        (λ i l. ap (λ (n : ℕ). holds width (number_in width bytes i + n)) (raise_counted i l))

    raised_at : (bytes : List ℕ) (i : ℕ) → i < tally_places → raised_to tally_places bytes places j.count i ≡ raised bytes j i
    raised_at bytes i l =
        let t : ltb i tally_places ≡ true = lt-ltb i tally_places l in
        ap (λ (b : Bool). number_in width bytes i + cond b (raise_at places j.count i) 0) t
        ∙ ap (λ (n : ℕ). number_in width bytes i + n) (raise_counted i l)

    pub raised_is : (bytes : List ℕ) → tallied_to tally_places bytes places j.count ≡ stored width (raised bytes j) tally_places
    raised_is bytes = stored_same width (raised_to tally_places bytes places j.count) (raised bytes j) tally_places (raised_at bytes)

-- ---- by numbers, and of a judge

module _ (bytes : List ℕ) (j : Judge) (places : List ℕ) (p : PlacesOf j.reports places) {fit : Bool}
    (f : fit ≡ fits_by j.capacity j.count) where
  abbrev size : Bool
  size = eqb (length bytes) tally_size

  -- with each kind known the rooms are the same, and else they are not asked for
  refusal_by_lem : (b : Bool) → places_known places ≡ b
      → in_order (size && (fit && b)) (unused_clear bytes) (room_for bytes places j.count)
      ≡ in_order (size && (fit && b)) (unused_clear bytes) (has_room bytes j)
  refusal_by_lem true e = ap (in_order (size && (fit && true)) (unused_clear bytes)) (room_is j places p (known_of places p.many e) bytes)
  refusal_by_lem false e =
      let none : (size && (fit && false)) ≡ false = and-false size fit in
      ap (λ (r : Bool). in_order r (unused_clear bytes) (room_for bytes places j.count)) none
      ∙ sym (ap (λ (r : Bool). in_order r (unused_clear bytes) (has_room bytes j)) none)

  refusal_is : refusal_by bytes places j.count fit ≡ entry_refusal bytes j
  unfolding refusal_by entry_refusal is_entry
  refusal_is =
      refusal_by_lem (places_known places) refl
      ∙ (λ i. in_order (size && (f i && known_is j places p i)) (unused_clear bytes) (has_room bytes j))

  -- a refusal of 0 says that each kind is known
  known_none : (b : Bool) → in_order (size && (fit && b)) (unused_clear bytes) (room_for bytes places j.count) ≡ 0 → b ≡ true
  known_none true e = refl
  known_none false e =
      let none : (size && (fit && false)) ≡ false = and-false size fit in
      let five : ◌≡◌ {A = ℕ} 5 0 = sym (ap (λ (r : Bool). in_order r (unused_clear bytes) (room_for bytes places j.count)) none) ∙ e in
      absurd (eqb-false 5 0 refl five)

  left_by_lem : {r : ℕ} {bytes' : List ℕ} → EntersPlaces bytes places j.count fit r bytes' → (b : Bool) → eqb r 0 ≡ b
      → bytes' ≡ cond b (stored width (raised bytes j) tally_places) bytes
  unfolding refusal_by
  left_by_lem {r} q true e =
      let z : r ≡ 0 = eqb-true r 0 e in
      let known = known_of places p.many (known_none (places_known places) (sym q.refusal ∙ z)) in
      q.taken z ∙ raised_is j places p known bytes
  left_by_lem {r} q false e = q.refused (eqb-false r 0 e)

  -- the count is that of the judge as it was handed back
  pub enters : {a : Entered} {bytes' : List ℕ} → a.judge ≡ j
      → EntersPlaces bytes places a.judge.count fit (refusal_number a.refusal) bytes' → EntersBy bytes j a bytes'
  unfolding left_by
  enters {a} {bytes'} e q =
      let own : EntersPlaces bytes places j.count fit (refusal_number a.refusal) bytes' =
      subst (λ (i : Judge). EntersPlaces bytes places i.count fit (refusal_number a.refusal) bytes') e q in
      let r : refusal_number a.refusal ≡ entry_refusal bytes j = own.refusal ∙ refusal_is in
      record { refusal = r; judge = e; tally = left_by_lem own (eqb (entry_refusal bytes j) 0) (ap (λ (n : ℕ). eqb n 0) r) }
