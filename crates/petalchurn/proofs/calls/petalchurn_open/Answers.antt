-- `petalchurn_open`: a list of another length; else the judge's opening as words.
use Rattle.petalchurn.proofs.CallLaws.{open_short, open_done}
use Rattle.petalchurn.proofs.calls.petalchurn_open.Goals as goal

pub returns-then-state-ne-STATE_WORDS : goal.returns-then-state-ne-STATE_WORDS
returns-then-state-ne-STATE_WORDS c =
    let a = c.args in
    rw c.number.ensures (open_short (record { tenant = a.tenant }) a.log.now a.work.now a.state.now c.if-state-ne-STATE_WORDS.true)

pub returns : goal.returns
returns c =
    let a = c.args in
    open_done (record { tenant = a.tenant }) a.log.now a.work.now a.state.now c.open-opened.result c.if-state-ne-STATE_WORDS.false c.open-opened.ensures
    c.write_state.ensures c.number_of.ensures
