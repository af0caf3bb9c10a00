-- `fed`: from rows of zeros the trace comes to rows, which are the judge's reports then.
use mathlib.Core.Path.{sym, subst}
use mathlib.Core.List.{List}
use native.Mathlib.Omega.{arith}
use lib.ListN.{replicate}
use Rattle.rules.specs.declared.Report.{Report}
use Rattle.decision.specs.Refusals.{outcome_number}
use Rattle.judge.specs.declared.state.Judge.{Judge}
use Rattle.judge.specs.States.{State}
use Rattle.judge.specs.Pushes.{state_of}
use Rattle.judge.specs.Traces.{Feeds, judge_by}
use Rattle.judge.proofs.Traces.{zeros_fit}
use Rattle.judge.proofs.state.Judge.fed.Goals as goal

pub read_rows-reports-requires : goal.read_rows-reports-requires
read_rows-reports-requires c =
    let e = c.feed-f.ensures in
    let n = e.size in
    (omega arith, e.fits zeros_fit)

pub returns : goal.returns
returns c =
    let f = c.feed-f in
    let a = c.args in
    let j = a.self in
    let trace = a.trace.now in
    let start = state_of (judge_by j.opening j.capacity 0 0 (replicate 56 0)) a.log.now a.work.now in
    let judge : List Report → Judge =
    λ rs. record { capacity = j.capacity; count = f.result.count; events = f.result.events; opening = j.opening; reports = rs } in
    let left : List Report → State = λ rs. state_of (judge rs) f.new.log f.new.work in
    let reports = c.read_rows-reports in
    subst (λ (rs : List Report). Feeds start trace 0 (outcome_number f.result.outcome) f.result.at (left rs)) (sym reports.ensures) f.ensures.feeds
