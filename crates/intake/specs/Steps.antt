-- One more record, judged: what becomes of the row of a check, and of all of them.
use Rattle.std.specs.Prelude.{◌≡◌, Bool, true, false, List, ◌∷◌, ℕ, ◌*◌, length, get_or, set, eqb}
use Rattle.record.specs.Records.{TraceRecord, decode}
use Rattle.rules.specs.Cases.{Case}
use Rattle.rules.specs.declared.Opening.{Opening}
use Rattle.rules.specs.declared.Report.{Report}
use Rattle.rules.specs.Events.{events}
use Rattle.rules.specs.Reports.{passed}
use Rattle.rules.specs.Checks.{check_count, check_at, report_by, reports_of, concerned_by}
use Rattle.rows.specs.Rows.{rows_of, KindsFit, EntersIn}
use Rattle.history.specs.Logs.{hist}
use Rattle.decision.specs.declared.Concerned.{Concerned}
use Rattle.decision.specs.Refusals.{concerned_of}
use Rattle.intake.specs.Words.{Indexed}

-- a check at place k, asked of a record: where the record does not concern it or its report is a fault the rows are as they stood; else
-- what it says, which is one of its answers, is entered
pub record AsksIn (answers : Case → Type 0) (k : ℕ) (concerned : Bool) (position : ℕ) (rows rows' : List ℕ) : Type 0 where
  pub left : concerned ≡ false → rows' ≡ rows
  pub kept : eqb (get_or rows (7 * k) 0) 0 ≡ false → rows' ≡ rows
  pub asked : concerned ≡ true → eqb (get_or rows (7 * k) 0) 0 ≡ true → (c : Case) × answers c × EntersIn rows k c position rows'

-- a flag tells of the check at place k: where it is false the record does not concern the check
abbrev pub Tells : ℕ → Bool → TraceRecord → Type 0
Tells k concerned x = concerned ≡ false → concerned_by x.kind (check_at k) ≡ false

-- the row of the check at place k: where the rows are those of reports of which its own is right for the records
-- taken, it becomes that of the report with one more record, and the others stay
pub record SteppedIn (k : ℕ) (o : Opening) (cap : ℕ) (log work : List ℕ) (n : ℕ) (bytes : List ℕ) (concerned : Bool) (position : ℕ) (rows rows' : List ℕ)
    : Type 0 where
  pub size : length rows' ≡ length rows
  pub fits : KindsFit rows 0 → KindsFit rows' 0
  pub steps : Indexed cap (hist log n) work → position ≡ events (decode bytes ∷ hist log n) → Tells k concerned (decode bytes)
      → (rs : List Report) → length rs ≡ check_count → rows ≡ rows_of rs → get_or rs k passed ≡ report_by o (hist log n) (check_at k)
      → rows' ≡ rows_of (set rs k (report_by o (decode bytes ∷ hist log n) (check_at k)))

-- all rows, after e events
pub record JudgedIn (o : Opening) (cap : ℕ) (log work : List ℕ) (n e : ℕ) (bytes : List ℕ) (concerned : Concerned) (rows rows' : List ℕ) : Type 0 where
  pub size : length rows' ≡ length rows
  pub fits : KindsFit rows 0 → KindsFit rows' 0
  pub judged : Indexed cap (hist log n) work → e ≡ events (hist log n) → concerned ≡ concerned_of (decode bytes).kind
      → rows ≡ rows_of (reports_of o (hist log n))
      → rows' ≡ rows_of (reports_of o (decode bytes ∷ hist log n))
