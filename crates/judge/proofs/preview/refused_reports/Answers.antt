-- `refused_reports`: passes under 5, else those given.
use mathlib.Core.Path.{sym, ap}
use mathlib.Core.Bool.{Bool, cond}
use lib.ListN.{replicate}
use Rattle.rules.specs.Reports.{passed}
use Rattle.rules.specs.Checks.{check_count}
use Rattle.judge.proofs.Previews.{other_number}
use Rattle.judge.proofs.preview.refused_reports.Goals as goal

pub returns-in_default : goal.returns-in_default
returns-in_default c =
    let a = c.args in
    sym (ap (λ (b : Bool). cond b (replicate check_count passed) a.reports) (other_number a.refusal c.in_default.not-Judge))
