-- `commit`: 10 where the judge suits and the counts differ; else the push of the ticket's record.
use Rattle.judge.proofs.Commits.{committed_stale, committed_pushed}
use Rattle.judge.proofs.state.Judge.commit.Goals as goal

pub returns-then-suiting-ticket : goal.returns-then-suiting-ticket
returns-then-suiting-ticket c =
    let a = c.args in
    committed_stale a.self c.suits-suiting.result.judge a.log.now a.work.now a.ticket c.suits-suiting.ensures.0 c.suits-suiting.ensures.1
    c.if-suiting-ticket.true

pub returns : goal.returns
returns c =
    let a = c.args in
    committed_pushed a.self c.suits-suiting.result.judge a.log.now a.work.now a.ticket c.suits-suiting.ensures.0 c.suits-suiting.ensures.1
    c.if-suiting-ticket.false c.push.ensures
