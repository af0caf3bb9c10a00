-- The sheet of a trace: that of what the judge of capacity 96 and tenant 0 says of it.
use Rattle.std.specs.Prelude.{◌≡◌, List, ℕ, ◌*◌, length}
use Rattle.rules.specs.declared.Opening.{Opening}
use Rattle.judge.specs.declared.trace.Traced.{Traced}
use Rattle.decision.specs.Refusals.{outcome_number}
use Rattle.judge.specs.Traces.{TracedBy}
use Rattle.sheet_text.specs.Sheets.{sheet_text, printed, printed_length}

-- the sheet of what a whole-trace call gave: its reports, the records taken, and the refusal with its record's number
unfoldable pub sheet_of : Traced → List ℕ
sheet_of t = sheet_text t.judge.reports t.judge.count (outcome_number t.outcome) t.at

-- the program's opening: tenant 0
abbrev pub opening : Opening
opening = record { tenant = 0 }

-- "The program reads standard input, C 96, tenant 0": the buffer has the sheet of the trace at its front, and r is its length
pub record Prints (trace out out' : List ℕ) (r : ℕ) : Type 0 where
  pub traced : Traced
  pub log : List ℕ
  pub work : List ℕ
  pub log' : List ℕ
  pub work' : List ℕ
  pub log_size : length log ≡ 368 * 96
  pub work_size : length work ≡ 32 * 96
  pub judged : TracedBy opening log work trace traced log' work'
  pub size : r ≡ printed_length (sheet_of traced) out
  pub is : out' ≡ printed (sheet_of traced) out
