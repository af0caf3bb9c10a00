-- What a call for a report gives.
use Rattle.std.specs.Prelude.{◌≡◌, cond, ◌&&◌, List, ℕ, ◌-◌, get_or, leb}
use Rattle.rules.specs.declared.Report.{Report}
use Rattle.rules.specs.Reports.{passed}
use Rattle.rules.specs.Checks.{check_count}
use Rattle.judge.specs.declared.state.Judge.{Judge}
use Rattle.judge.specs.declared.answer.Reported.{Reported}
use Rattle.decision.specs.Refusals.{outcome_number}
use Rattle.decision.specs.Refusals.{fits_by}

-- a report by its number, from 1 on, in printing order; a number that is no check's has a pass
abbrev pub report_no : List Report → ℕ → Report
report_no rs k = cond (leb 1 k && leb k check_count) (get_or rs (k - 1) passed) passed

-- the refusal, the judge as it was given, and the report: a pass where the call is refused
pub record ReportedBy (j : Judge) (k : ℕ) (r : Reported) : Type 0 where
  pub refusal : outcome_number r.outcome ≡ cond (fits_by j.capacity j.count) 0 5
  pub judge : r.judge ≡ j
  pub report : r.report ≡ cond (fits_by j.capacity j.count) (report_no j.reports k) passed
