-- The judge of the capacity asked suits its buffers, or no capacity does.
use lib.ListN.{length}
use Rattle.judge.proofs.Openings.{asked_refused, asked_opened}
use Rattle.judge.proofs.state.Judge.open.Goals as goal

pub returns-then-asked-capacity : goal.returns-then-asked-capacity
returns-then-asked-capacity c =
    let a = c.args in
    asked_refused a.opening (length a.log.now) a.work.now c.fresh.ensures c.suits-asked.ensures c.if-asked-capacity.true
    c.fresh-then-asked-capacity.ensures

pub returns : goal.returns
returns c =
    let a = c.args in
    asked_opened a.opening (length a.log.now) a.work.now c.fresh.ensures c.suits-asked.ensures c.if-asked-capacity.false
    c.clear.ensures
