-- For readers: what each line of a printed sheet says of the bytes that were on standard input.
use Rattle.std.specs.Prelude.{◌≡◌, List, [], ◌⊎◌, ℕ, ◌+◌, ◌*◌, ◌<◌, length, take}
use Rattle.rules.specs.Cases.{Case}
use Rattle.rules.specs.declared.Evidence.{Evidence}
use Rattle.rules.specs.History.{History}
use Rattle.rules.specs.Reports.{FirstFault, Free}
use Rattle.rules.specs.Checks.{check_count, check_at, HasBy, case_at}
use Rattle.demands.specs.Pieces.{sound_pieces, first_refusal, records_taken}
use Rattle.sheet_text.specs.Sheets.{pass_line, fault_line, name_at, last_line, line_at}
use Rattle.sheet.specs.Printing.{opening}

-- what the program reads of its input: all of it, or the first 97 records where it is longer
abbrev pub read_of : List ℕ → List ℕ
read_of input = take (368 * 97) input

-- the records that the program takes of its input: its pieces of 368 bytes up to the first that is refused, 96 at the most; how
-- many they are; and that refusal's number, 0 where there is none
abbrev pub taken : List ℕ → History
taken input = records_taken 96 input

abbrev pub count : List ℕ → ℕ
count input = length (sound_pieces 96 input)

abbrev pub refusal : List ℕ → ℕ
refusal input = first_refusal 96 input

-- a fault line, with its kind, its event's number and its evidence
pub record FaultLine (name line : List ℕ) : Type 0 where
  pub kind : ℕ
  pub at : ℕ
  pub evidence : Evidence
  pub is : line ≡ fault_line name kind at evidence

-- what a check's line says of the records h. `has` is that a beginning of them has the check's fault, `says` the kind and evidence of
-- a fault at a beginning's last record. Beginnings are whole events, the last as far as it has been taken. A pass is printed exactly
-- when no beginning has the fault; a fault at event n exactly when the first n events have it and no fewer do, with kind and evidence
-- of the first record of them at which it is said; and nothing else is printed
pub record LineSays (has : History → Type 0) (says : History → Case) (h : History) (name line : List ℕ) : Type 0 where
  pub pass_only : line ≡ pass_line name → Free has h
  pub pass_if : Free has h → line ≡ pass_line name
  pub fault_only : (kind n : ℕ) (e : Evidence) → line ≡ fault_line name kind n e → FirstFault has says h n kind e
  pub fault_if : (kind n : ℕ) (e : Evidence) → FirstFault has says h n kind e → line ≡ fault_line name kind n e
  pub one_of_them : (line ≡ pass_line name) ⊎ FaultLine name line

-- the line of the check at a place of the table, for the program's tenant: its name and what its rule says of the input's records
abbrev pub CheckLine : ℕ → List ℕ → List ℕ → Type 0
CheckLine k input = LineSays (HasBy (check_at k).rule opening) (case_at opening (check_at k)) (taken input) (name_at k)

-- what the last line says: the records taken, and the first refusal, at the record after them. Whatever numbers a last line has,
-- they are these; where there is no refusal it has no third
pub record LastSays (input line : List ℕ) : Type 0 where
  pub is : line ≡ last_line (count input) (refusal input) (count input + 1)
  pub only : (n f a : ℕ) → line ≡ last_line n f a → (n ≡ count input) × (f ≡ refusal input) × ((f ≡ 0 → ⊥) → a ≡ count input + 1)

-- what the printed bytes say of the input: a line for each check of the table, in printing order, then the last line, and nothing
-- after it
pub record SheetSays (input bytes : List ℕ) : Type 0 where
  pub check_line : (k : ℕ) → k < check_count → CheckLine k input (line_at k bytes)
  pub last_line : LastSays input (line_at check_count bytes)
  pub end : line_at (check_count + 1) bytes ≡ []

-- of the ids lines of two sheets: "passes both or faults both"
pub data LinesAlike (name line other : List ℕ) : Type 0 where
  both_pass : line ≡ pass_line name → other ≡ pass_line name → LinesAlike name line other
  both_fault : FaultLine name line → FaultLine name other → LinesAlike name line other
