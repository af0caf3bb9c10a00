-- An entry of a judge into a stored tally: what it is refused for, and what it leaves.
use Rattle.std.specs.Prelude.{◌≡◌, Bool, cond, ◌&&◌, ◌||◌, List, [], ◌∷◌, ℕ, ◌+◌, ◌*◌, length, eqb, ltb, Result, Ok, Err}
use Rattle.rules.specs.Checks.{check_count}
use Rattle.decision.specs.Refusals.{fits_by}
use Rattle.judge.specs.declared.state.Judge.{Judge}
use Rattle.tally.specs.declared.Refusal.{Refusal}
use Rattle.tally.specs.declared.Refusal.TheVariants.{Unfit, Unused, Full}
use Rattle.tally.specs.declared.Entered.{Entered}
use Rattle.tally.specs.Stored.{holds, stored, number_in, all_to}
use Rattle.tally.specs.Counts.{place_count, tally_places, judge_place, is_used, count_at}

-- "Counts have 32 bits": the bytes of a count
abbrev pub width : ℕ
width = 4

-- the bytes of a tally
abbrev pub tally_size : ℕ
tally_size = width * tally_places

-- the numbers of the refusals, 0 where there was none
abbrev pub refusal_number : Result (Unit {0}) Refusal → ℕ
refusal_number (Ok done) = 0
refusal_number (Err Unfit) = 5
refusal_number (Err Unused) = 4
refusal_number (Err Full) = 9

-- a judge that can be entered: its reports are not refused, and no check lacks the kind of its fault
unfoldable pub is_entry : Judge → Bool
is_entry j = fits_by j.capacity j.count && all_to check_count (λ k. ltb (judge_place k j) place_count)

-- the unused places are zero
unfoldable pub unused_clear : List ℕ → Bool
unused_clear bytes = all_to tally_places (λ i. is_used i || eqb (number_in width bytes i) 0)

-- what each place has to hold after a judge is entered: its number, and what is counted of that judge alone
abbrev pub raised : List ℕ → Judge → ℕ → ℕ
raised bytes j i = number_in width bytes i + count_at (j ∷ []) i

-- no count "would pass 4,294,967,295"
unfoldable pub has_room : List ℕ → Judge → Bool
has_room bytes j = all_to tally_places (λ i. holds width (raised bytes j i))

-- the refusal's number by three tests, in the order of the refusals: 5, 4 "after that", "both ahead of 9"
abbrev pub in_order : Bool → Bool → Bool → ℕ
in_order fit clear room = cond fit (cond clear (cond room 0 9) 4) 5

-- refusal 5: "A stored tally of another length, a judge whose reports are refused or one with a fault kind its check lacks"; 4: "an
-- unused place not zero"; 9: "where a count would pass 4,294,967,295"
unfoldable pub entry_refusal : List ℕ → Judge → ℕ
entry_refusal bytes j = in_order (eqb (length bytes) tally_size && is_entry j) (unused_clear bytes) (has_room bytes j)

-- the tally after an entry: as it stood where that was refused
unfoldable pub left_by : List ℕ → Judge → List ℕ
left_by bytes j = cond (eqb (entry_refusal bytes j) 0) (stored width (raised bytes j) tally_places) bytes

-- what an entry promises: the refusal's number, the judge as it was given, and every byte of the tally
pub record EntersBy (bytes : List ℕ) (j : Judge) (r : Entered) (bytes' : List ℕ) : Type 0 where
  pub refusal : refusal_number r.refusal ≡ entry_refusal bytes j
  pub judge : r.judge ≡ j
  pub tally : bytes' ≡ left_by bytes j
