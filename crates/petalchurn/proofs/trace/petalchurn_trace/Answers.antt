-- `petalchurn_trace`: a list too short; else the judge's answer as words.
use Rattle.petalchurn.proofs.CallLaws.{trace_short, trace_done}
use Rattle.petalchurn.proofs.trace.petalchurn_trace.Goals as goal

pub returns-then-out-lt-TRACE_WORDS : goal.returns-then-out-lt-TRACE_WORDS
returns-then-out-lt-TRACE_WORDS c =
    let a = c.args in
    rw c.number.ensures (trace_short (record { tenant = a.tenant }) a.log.now a.work.now a.trace.now a.out.now c.if-out-lt-TRACE_WORDS.true)

pub returns : goal.returns
returns c =
    let a = c.args in
    trace_done (record { tenant = a.tenant }) a.log.now a.work.now a.trace.now a.out.now c.judge_trace-traced.result c.if-out-lt-TRACE_WORDS.false
    c.judge_trace-traced.ensures c.write_trace.ensures.0 c.write_trace.ensures.1
