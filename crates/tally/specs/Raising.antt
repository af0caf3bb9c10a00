-- An entry by numbers: the place of each check's verdict, and by how much each place of the tally is raised.
use Rattle.std.specs.Prelude.{◌≡◌, Bool, cond, ◌&&◌, List, [], ◌∷◌, ℕ, ◌+◌, ◌<◌, length, get_or, eqb, ltb}
use Rattle.rules.specs.declared.Report.{Report}
use Rattle.rules.specs.Checks.{check_count}
use Rattle.tally.specs.Stored.{holds, stored, number_in, all_to}
use Rattle.tally.specs.Counts.{place_count, tally_places, record_of, place_of, report_place}
use Rattle.tally.specs.Entries.{width, tally_size, unused_clear, in_order}

-- the places of the reports' verdicts, one for each check
pub record PlacesOf (reports : List Report) (places : List ℕ) : Type 0 where
  pub many : length places ≡ check_count
  pub each : (k : ℕ) → k < check_count → get_or places k 0 ≡ report_place reports k

-- each is a place of a record
unfoldable pub places_known : List ℕ → Bool
places_known places = all_to check_count (λ k. ltb (get_or places k 0) place_count)

-- the same as facts
pub record Known (places : List ℕ) : Type 0 where
  pub many : length places ≡ check_count
  pub each : (k : ℕ) → k < check_count → get_or places k 0 < place_count

-- by how much an entry raises a place: by one each check's and the traces, by those taken the records
unfoldable pub raise_at : List ℕ → ℕ → ℕ → ℕ
raise_at places count i =
    cond (ltb (record_of i) check_count) (cond (eqb (get_or places (record_of i) 0) (place_of i)) 1 0) (get_or (1 ∷ count ∷ []) (place_of i) 0)

-- the numbers after the places below n were raised
abbrev pub raised_to : ℕ → List ℕ → List ℕ → ℕ → ℕ → ℕ
raised_to n bytes places count i = number_in width bytes i + cond (ltb i n) (raise_at places count i) 0

-- .. and the bytes that store them
abbrev pub tallied_to : ℕ → List ℕ → List ℕ → ℕ → List ℕ
tallied_to n bytes places count = stored width (raised_to n bytes places count) tally_places

-- the places below n hold what they are raised to, and so do all
unfoldable pub room_to : ℕ → List ℕ → List ℕ → ℕ → Bool
room_to n bytes places count = all_to n (λ i. holds width (number_in width bytes i + raise_at places count i))

abbrev pub room_for : List ℕ → List ℕ → ℕ → Bool
room_for bytes places count = room_to tally_places bytes places count

-- the refusal and what is left, by the places of the verdicts, the records taken, and whether the judge's numbers are a judge's
unfoldable pub refusal_by : List ℕ → List ℕ → ℕ → Bool → ℕ
refusal_by bytes places count fit = in_order (eqb (length bytes) tally_size && (fit && places_known places)) (unused_clear bytes) (room_for bytes places count)

pub record EntersPlaces (bytes places : List ℕ) (count : ℕ) (fit : Bool) (r : ℕ) (bytes' : List ℕ) : Type 0 where
  pub refusal : r ≡ refusal_by bytes places count fit
  pub refused : (r ≡ 0 → ⊥) → bytes' ≡ bytes
  pub taken : r ≡ 0 → bytes' ≡ tallied_to tally_places bytes places count
