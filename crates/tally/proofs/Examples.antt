-- Entries worked out by the checker: what a judge adds to a tally of zeros, and one case of each refusal with its neighbour.
use mathlib.Core.Path.{◌≡◌, refl}
use mathlib.Core.List.{List, [], ◌∷◌}
use Prim.Native.Nat.{ℕ, zero, suc, ◌+◌, ◌*◌}
use lib.ListN.{set, replicate}
use lib.Seq.{sets}
use Rattle.record.specs.Numbers.{little_endian, bytes_of}
use Rattle.rules.specs.Cases.{evidence}
use Rattle.rules.specs.Reports.{passed, faulted}
use Rattle.rules.specs.Checks.{check_count}
use Rattle.judge.specs.declared.state.Judge.{Judge}
use Rattle.tally.specs.Stored.{stored, number_in, all_to}
use Rattle.tally.specs.Counts.{place_count, judge_place, how_many, records_taken, used_places, count_at}
use Rattle.tally.specs.Entries.{width, is_entry, unused_clear, has_room, entry_refusal, left_by}
use Rattle.tally.specs.Campaigns.{zero_tally}

-- a judge of 96 that has taken so many records, with one fault: of the check at place k, of a kind
abbrev judged : ℕ → ℕ → ℕ → Judge
judged k kind count = record {
  capacity = 96;
  count = count;
  events = count;
  opening = record { tenant = 0 };
  reports = set (replicate check_count passed) k (faulted 2 kind (evidence []));
}

-- the ten numbers of record k of a tally
abbrev numbers_from : ℕ → ℕ → List ℕ → List ℕ
numbers_from at zero bytes = []
numbers_from at (suc n) bytes = number_in width bytes at ∷ numbers_from (at + 1) n bytes

abbrev record_of : ℕ → List ℕ → List ℕ
record_of k bytes = numbers_from (place_count * k) place_count bytes

-- zeros with the number n at place p of record k
abbrev with : ℕ → ℕ → ℕ → List ℕ
with k p n = sets zero_tally (width * (place_count * k + p)) (bytes_of width n)

-- the records of ids and of the totals
abbrev ids : ℕ
ids = 6

abbrev totals : ℕ
totals = check_count

-- ---- what is added

-- ids faulted with kind 3, two records: its record, its neighbour's, and the totals
abbrev left : List ℕ
left = left_by zero_tally (judged ids 3 2)

counted : record_of ids left ∷ record_of (ids + 1) left ∷ record_of totals left ∷ []
    ≡ (0 ∷ 0 ∷ 0 ∷ 1 ∷ 0 ∷ 0 ∷ 0 ∷ 0 ∷ 0 ∷ 0 ∷ [])
    ∷ (1 ∷ 0 ∷ 0 ∷ 0 ∷ 0 ∷ 0 ∷ 0 ∷ 0 ∷ 0 ∷ 0 ∷ [])
    ∷ (1 ∷ 2 ∷ 0 ∷ 0 ∷ 0 ∷ 0 ∷ 0 ∷ 0 ∷ 0 ∷ 0 ∷ [])
    ∷ []
unfolding left_by entry_refusal is_entry unused_clear has_room all_to count_at used_places how_many records_taken judge_place stored bytes_of
    number_in little_endian
counted = refl

-- ---- what is refused

-- the number that an entry into a tally draws, of a judge whose ids have a fault of a kind
abbrev draws : List ℕ → ℕ → ℕ
draws bytes kind = entry_refusal bytes (judged ids kind 2)

abbrev refusals : List ℕ
refusals =
    -- 5: ids has kinds 1 to 3; kind 4, kind 0 and kind 10, which would be the next check's passes
    draws zero_tally 3 ∷ draws zero_tally 4 ∷ draws zero_tally 0 ∷ draws zero_tally 10
    -- 5: a count above the capacity; a tally a byte longer; a kind, also where 4 would be given
    ∷ entry_refusal zero_tally (judged ids 3 97) ∷ draws (0 ∷ zero_tally) 3 ∷ draws (with ids 4 1) 4
    -- 4: place 4 of ids is unused, place 3 is not; place 2 of the totals is unused
    ∷ draws (with ids 4 1) 3 ∷ draws (with ids 3 1) 3 ∷ draws (with totals 2 4294967295) 3
    -- 9: the place that is raised, full, and one below; a full place that is not raised; the records, which are raised by two
    ∷ draws (with ids 3 4294967295) 3 ∷ draws (with ids 3 4294967294) 3 ∷ draws (with ids 2 4294967295) 3
    ∷ draws (with totals 1 4294967294) 3 ∷ draws (with totals 1 4294967293) 3
    ∷ []

refused : refusals ≡ 0 ∷ 5 ∷ 5 ∷ 5 ∷ 5 ∷ 5 ∷ 5 ∷ 4 ∷ 0 ∷ 4 ∷ 9 ∷ 0 ∷ 0 ∷ 9 ∷ 0 ∷ []
unfolding entry_refusal is_entry unused_clear has_room all_to count_at used_places how_many records_taken judge_place stored bytes_of number_in little_endian
refused = refl

-- at 5, 4 and 9 the tally is as it stood
abbrev stays : List ℕ → ℕ → Type 0
stays bytes kind = left_by bytes (judged ids kind 2) ≡ bytes

kept : stays zero_tally 10 × stays (with ids 4 1) 3 × stays (with ids 3 4294967295) 3 × stays (with totals 1 4294967294) 3
unfolding left_by entry_refusal is_entry unused_clear has_room all_to count_at used_places how_many records_taken judge_place stored bytes_of
    number_in little_endian
kept = (refl, refl, refl, refl)
