-- A campaign: a list of entries into a tally of zeros, what is claimed of the tally after it, and what a finished judge counts as.
use Rattle.std.specs.Prelude.{◌≡◌, cond, List, [], ◌∷◌, ℕ, zero, suc, ◌+◌, ◌*◌, ◌≤◌, ◌<◌, replicate, eqb}
use Rattle.rules.specs.Cases.{Case}
use Rattle.rules.specs.declared.Evidence.{Evidence}
use Rattle.rules.specs.History.{History}
use Rattle.rules.specs.Reports.{FirstFault, Free}
use Rattle.rules.specs.Checks.{check_count, check_at}
use Rattle.judge.specs.declared.state.Judge.{Judge}
use Rattle.tally.specs.declared.Entered.{Entered}
use Rattle.tally.specs.Stored.{holds, stored, number_in, all_to}
use Rattle.tally.specs.Counts.{place_count, tally_places, count_at}
use Rattle.tally.specs.Entries.{width, tally_size, refusal_number, is_entry, EntersBy}

-- "a tally of zeros"
abbrev pub zero_tally : List ℕ
zero_tally = replicate tally_size 0

-- an entry: the judge that was given, and what the call answered
pub record Entry : Type 0 where
  pub judge : Judge
  pub answer : Entered

-- "any list of entries", refused ones among them: each gets the tally as the last one left it
pub data Campaign : List ℕ → List Entry → List ℕ → Type 0 where
  none : {bytes : List ℕ} → Campaign bytes [] bytes
  more : {bytes mid bytes' : List ℕ} {e : Entry} {es : List Entry} → EntersBy bytes e.judge e.answer mid → Campaign mid es bytes'
      → Campaign bytes (e ∷ es) bytes'

-- the judges of "the entries not refused"
unfoldable pub entered : List Entry → List Judge
entered [] = []
entered (e ∷ es) = cond (eqb (refusal_number e.answer.refusal) 0) (e.judge ∷ entered es) (entered es)

-- what a further entry is refused for, by the judges entered alone: never by 4, and by 9 exactly where a count of them and it would
-- not fit
abbrev pub next_refusal : List Judge → Judge → ℕ
next_refusal js j = cond (is_entry j) (cond (all_to tally_places (λ i. holds width (count_at (j ∷ js) i))) 0 9) 5

-- the sum of the first n numbers of f
unfoldable pub sum_to : ℕ → (ℕ → ℕ) → ℕ
sum_to zero f = 0
sum_to (suc n) f = sum_to n f + f n

-- of the tally after a campaign that entered these judges: every byte is that of the counts; "every number in it is the one counted
-- from the entries not refused"; "each check's passes and faults add up to the traces"; and what a further entry is refused for
pub record Tallied (js : List Judge) (bytes : List ℕ) : Type 0 where
  pub bytes_are : bytes ≡ stored width (count_at js) tally_places
  pub numbers : (i : ℕ) → i < tally_places → number_in width bytes i ≡ count_at js i
  pub adds_up : (k : ℕ) → k < check_count
      → sum_to (suc (check_at k).kinds) (λ p. number_in width bytes (place_count * k + p)) ≡ number_in width bytes (place_count * check_count)
  pub next : (j : Judge) (r : Entered) (bytes' : List ℕ) → EntersBy bytes j r bytes' → refusal_number r.refusal ≡ next_refusal js j

-- what a judge that took the records of h counts as, for a history check at place k of the table: a pass exactly when no beginning
-- has the check's fault; a fault of a kind exactly when the first fault has that kind. Beginnings are whole events, the last as far as
-- it has been taken
pub record Means (has : History → Type 0) (case_at : History → Case) (k : ℕ) (h : History) (j : Judge) : Type 0 where
  pub pass_only : count_at (j ∷ []) (place_count * k) ≡ 1 → Free has h
  pub pass_if : Free has h → count_at (j ∷ []) (place_count * k) ≡ 1
  pub fault_only : (kind : ℕ) → 1 ≤ kind → kind < place_count → count_at (j ∷ []) (place_count * k + kind) ≡ 1
      → (n : ℕ) × (e : Evidence) × FirstFault has case_at h n kind e
  pub fault_if : (n kind : ℕ) (e : Evidence) → FirstFault has case_at h n kind e → count_at (j ∷ []) (place_count * k + kind) ≡ 1
