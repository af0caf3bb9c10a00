-- What the judging of one record shows, and what its taking leaves.
use Rattle.std.specs.Prelude.{◌≡◌, List, ◌∷◌, ℕ, ◌*◌, ◌+◌, ◌<◌, ◌≤◌, length}
use Rattle.record.specs.Records.{decode}
use Rattle.rules.specs.declared.Opening.{Opening}
use Rattle.rules.specs.Events.{events}
use Rattle.rules.specs.Checks.{reports_of}
use Rattle.rows.specs.Rows.{rows_of, KindsFit}
use Rattle.history.specs.Bounds.{Bounds}
use Rattle.history.specs.Logs.{hist, Appended}
use Rattle.decision.specs.Refusals.{push_refusal_by}
use Rattle.intake.specs.Words.{Indexed, Noted}

-- what the judging of a record does to the rows, after n records of e events: those of the reports become those of the reports with one
-- more record
abbrev pub JudgedAs : Opening → ℕ → ℕ → ℕ → List ℕ → List ℕ → List ℕ → List ℕ → List ℕ → Type 0
JudgedAs o cap n e log work rows bytes rows' =
    Indexed cap (hist log n) work → e ≡ events (hist log n) → rows ≡ rows_of (reports_of o (hist log n))
    → rows' ≡ rows_of (reports_of o (decode bytes ∷ hist log n))

-- a record that is judged and not taken; refused by the table, the rows are as they stood
pub record PreviewsIn (o : Opening) (cap n e : ℕ) (log work rows bytes : List ℕ) (r : ℕ) (rows' : List ℕ) : Type 0 where
  pub refusal : r ≡ push_refusal_by cap n log (length work) bytes
  pub refused : (r ≡ 0 → ⊥) → rows' ≡ rows
  pub judged : r ≡ 0 → JudgedAs o cap n e log work rows bytes rows'
  pub size : length rows' ≡ length rows
  pub fits : KindsFit rows 0 → KindsFit rows' 0

-- what the keeping of a record asks for: room for one more
pub record Keepable (cap n : ℕ) (log work : List ℕ) : Type 0 where
  pub bounds : Bounds log work n cap
  pub holds : 368 * n + 368 ≤ length log
  pub room : n < cap

-- a record that is kept: its bytes in the log and no other byte of it changed, and its words noted
pub record KeptIn (cap n : ℕ) (log work bytes log' work' : List ℕ) : Type 0 where
  pub appended : Appended log log' n bytes
  pub noted : Noted cap (hist log n) (decode bytes) work work'

-- a record that is taken: its bytes in the log and no other byte of it changed, its words noted, and judged
pub record TakenIn (o : Opening) (cap n e : ℕ) (log work rows bytes log' work' rows' : List ℕ) : Type 0 where
  pub appended : Appended log log' n bytes
  pub noted : Noted cap (hist log n) (decode bytes) work work'
  pub judged : JudgedAs o cap n e log work rows bytes rows'

-- taken, or refused by the table, and then everything is as it stood
pub record TakesIn (o : Opening) (cap n e : ℕ) (log work rows bytes : List ℕ) (r : ℕ) (log' work' rows' : List ℕ) : Type 0 where
  pub refusal : r ≡ push_refusal_by cap n log (length work) bytes
  pub refused : (r ≡ 0 → ⊥) → (log' ≡ log) × (work' ≡ work) × (rows' ≡ rows)
  pub taken : r ≡ 0 → TakenIn o cap n e log work rows bytes log' work' rows'
  pub size : length rows' ≡ length rows
  pub fits : KindsFit rows 0 → KindsFit rows' 0
