-- What the calls promise that open a judge, push a record, give a report, or judge a whole trace.
use Rattle.std.specs.Prelude.{◌≡◌, true, false, cond, List, ◌∷◌, ◌++◌, ℕ, ◌+◌, ◌≤◌, ◌<◌, length, drop, replicate, eqb, None, Some}
use Rattle.rules.specs.declared.Opening.{Opening}
use Rattle.rows.specs.Rows.{rows_size, report_words, rows_of}
use Rattle.decision.specs.Refusals.{outcome_number, fits_by}
use Rattle.intake.specs.Words.{Indexed}
use Rattle.judge.specs.declared.state.Judge.{Judge}
use Rattle.judge.specs.declared.trace.Traced.{Traced}
use Rattle.judge.specs.States.{push_refusal}
use Rattle.judge.specs.Openings.{Fits, fresh_of}
use Rattle.judge.specs.Answers.{report_no}
use Rattle.judge.specs.Pushes.{Pushed, state_of}
use Rattle.judge.specs.Traces.{TracedBy}
use Rattle.state_words.specs.StateWords.{state_size, state_words, state_in}

-- the words of a report and of a whole trace's answer, which has two before the rows: `report-size` and `trace-size` hold them to
-- what is written
abbrev pub report_size : ℕ
report_size = 7

abbrev pub trace_size : ℕ
trace_size = 2 + rows_size

-- opening: 8 where the state list is not as long as a state, and nothing is written; else the judge's words, and the work area
-- zeroed, or, of refusal 7, the words of a judge of capacity 0 and the work area as it stood
pub record OpensWords (o : Opening) (log work state : List ℕ) (r : ℕ) (work' state' : List ℕ) : Type 0 where
  pub short : (length state ≡ state_size → ⊥) → (r ≡ 8) × (work' ≡ work) × (state' ≡ state)
  pub refused : length state ≡ state_size → ((c : ℕ) → Fits (length log) (length work) c → ⊥)
      → (r ≡ 7) × (work' ≡ work) × (state' ≡ state_words (fresh_of 0 o))
  pub opened : length state ≡ state_size → (c : ℕ) → Fits (length log) (length work) c
      → (r ≡ 0) × (work' ≡ replicate (length work) 0) × (state' ≡ state_words (fresh_of c o))

-- a push into a judge: the refusal's number by the table, and the words of the judge that it leaves
pub record PushedWords (j : Judge) (log work rec : List ℕ) (r : ℕ) (state' log' work' : List ℕ) : Type 0 where
  pub refusal : r ≡ push_refusal (state_of j log work) rec
  pub judge : Judge
  pub leaves : Pushed Indexed (state_of j log work) rec (state_of judge log' work')
  pub words : state' ≡ state_words judge

-- a push: 5 where the state is none; else what a push into its judge gives. Refused, whatever the words, everything is as it stood
pub record PushesWords (state log work rec : List ℕ) (r : ℕ) (state' log' work' : List ℕ) : Type 0 where
  pub unfit : state_in state ≡ None → r ≡ 5
  pub fit : (j : Judge) → state_in state ≡ Some j → PushedWords j log work rec r state' log' work'
  pub untouched : (r ≡ 0 → ⊥) → (state' ≡ state) × (log' ≡ log) × (work' ≡ work)

-- a report: 5 where the state is none, or its capacity and count are no judge's; then 8 where the list has fewer words than a
-- report; else the report's words at the front of the list. Refused, the list is as it was
pub record ReportsWords (state : List ℕ) (k : ℕ) (out : List ℕ) (r : ℕ) (out' : List ℕ) : Type 0 where
  pub unfit : state_in state ≡ None → r ≡ 5
  pub refused : (j : Judge) → state_in state ≡ Some j → fits_by j.capacity j.count ≡ false → r ≡ 5
  pub short : (j : Judge) → state_in state ≡ Some j → fits_by j.capacity j.count ≡ true → length out < report_size → r ≡ 8
  pub untouched : (r ≡ 0 → ⊥) → out' ≡ out
  pub given : (j : Judge) → state_in state ≡ Some j → fits_by j.capacity j.count ≡ true → report_size ≤ length out
      → (r ≡ 0) × (out' ≡ report_words (report_no j.reports k) ++ drop report_size out)

-- a whole trace's words: the records taken, the refused record's number (0 for none), then the rows of the reports
unfoldable pub trace_words : Traced → List ℕ
trace_words t = t.judge.count ∷ cond (eqb (outcome_number t.outcome) 0) 0 t.at ∷ rows_of t.judge.reports

-- a whole trace: 8 where the list has fewer words than its answer, and nothing is written; else what the judge's call gives, as
-- words at the front of the list
pub record TracesWords (o : Opening) (log work trace out : List ℕ) (r : ℕ) (log' work' out' : List ℕ) : Type 0 where
  pub short : length out < trace_size → (r ≡ 8) × (log' ≡ log) × (work' ≡ work) × (out' ≡ out)
  pub traced : trace_size ≤ length out
      → (t : Traced) × TracedBy o log work trace t log' work' × (r ≡ outcome_number t.outcome) × (out' ≡ trace_words t ++ drop trace_size out)
