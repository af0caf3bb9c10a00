-- The refusals' numbers; what a push is refused for, by the judge's numbers, the lengths and the record's bytes; and which checks a record
-- concerns.
use Rattle.std.specs.Prelude.{◌≡◌, Bool, cond, ◌&&◌, List, ◌⊎◌, ℕ, ◌*◌, ◌≤◌, length, eqb, leb, Result, Ok, Err}
use Rattle.form.specs.Form.{refusal_of}
use Rattle.record.specs.Records.{decode}
use Rattle.rules.specs.History.{History}
use Rattle.rules.specs.Events.{stray}
use Rattle.rules.specs.Checks.{check_at, concerned_by}
use Rattle.history.specs.Logs.{hist}
use Rattle.decision.specs.declared.Concerned.{Concerned}
use Rattle.decision.specs.declared.refusal.Refusal.{Refusal}
use Rattle.decision.specs.declared.refusal.Refusal.TheVariants.{Length, Kind, Value, Unused, Judge, Full, Opening, Output, Ticket, Event}

-- document 01's and 02's numbers of the refusals
abbrev pub refusal_number : Refusal → ℕ
refusal_number Length = 1
refusal_number Kind = 2
refusal_number Value = 3
refusal_number Unused = 4
refusal_number Judge = 5
refusal_number Full = 6
refusal_number Opening = 7
refusal_number Output = 8
refusal_number Ticket = 10
refusal_number Event = 11

-- the number of what a call came to, 0 where it was not refused
abbrev pub outcome_number : {A : Type 0} → Result A Refusal → ℕ
outcome_number (Ok x) = 0
outcome_number (Err refusal) = refusal_number refusal

-- refusal 5: "the judge's C is above 4,096, log or work lengths are not those of C, or its count exceeds C"; "reports take the
-- judge alone and test 5 by C and count"
abbrev pub fits_by : ℕ → ℕ → Bool
fits_by capacity count = leb capacity 4096 && leb count capacity

abbrev pub suits_by : ℕ → ℕ → ℕ → ℕ → Bool
suits_by capacity count logs words = fits_by capacity count && (eqb logs (368 * capacity) && eqb words (32 * capacity))

-- the form's refusal; then 11, for a record that has no event to continue; then 6: "the count is C"
abbrev pub or_next : ℕ → Bool → Bool → ℕ
or_next form lost full = cond (eqb form 0) (cond lost 11 (cond full 6 0)) form

-- what the table gives a push of these bytes in a judge of this capacity that has taken the records of h: "Refusal 11 joins the table
-- between 4 and 6"
abbrev pub refusal_after : ℕ → History → List ℕ → ℕ
refusal_after capacity h bytes = or_next (refusal_of bytes) (stray (decode bytes) h) (eqb (length h) capacity)

-- "Pushing tests 5, 1, 2, 3, 4, 6 in that order", and 11 before 6: the records taken are those of the log
abbrev pub push_refusal_by : ℕ → ℕ → List ℕ → ℕ → List ℕ → ℕ
push_refusal_by capacity count log words bytes =
    cond (suits_by capacity count (length log) words) (refusal_after capacity (hist log count) bytes) 5

-- the numbers that a push can be refused with, and 0
abbrev pub PushNumber : ℕ → Type 0
PushNumber r = (r ≤ 6) ⊎ (r ≡ 11)

-- the checks that a record of a kind concerns, each by its place in the table
abbrev pub concerned_of : ℕ → Concerned
concerned_of kind = record {
  agreement = concerned_by kind (check_at 0);
  overlap = concerned_by kind (check_at 1);
  install = concerned_by kind (check_at 2);
  twice = concerned_by kind (check_at 3);
  half = concerned_by kind (check_at 4);
  generations = concerned_by kind (check_at 5);
  ids = concerned_by kind (check_at 6);
  meta = concerned_by kind (check_at 7);
}
