-- `judge_trace`: an opening's refusal ends it; else the trace is fed to the judge that was opened.
use Rattle.judge.proofs.Traces.{traced_on, traced_off}
use Rattle.judge.proofs.state.Judge.judge_trace.Goals as goal

pub returns-in-Ok : goal.returns-in-Ok
returns-in-Ok c =
    let a = c.args in
    let o = c.open-o in
    traced_on a.opening a.log.now a.work.now a.trace.now o.result o.ensures c.fed.result c.in-Ok.is c.fed.ensures

pub returns-in-Err : goal.returns-in-Err
returns-in-Err c =
    let a = c.args in
    let o = c.open-o in
    traced_off a.opening a.log.now a.work.now a.trace.now o.result o.ensures c.in-Err.refusal c.in-Err.is
