-- `look_up`: refused by the numbers and lengths; of no capacity the answer of no records; else too short, or given.
use Rattle.decision.proofs.Suiting.{suiting, bounded}
use Rattle.judge.proofs.Lookups.{lends_by, looked_as, looked_refused, looked_none, looked_short, looked_given}
use borrow.Author.Tests.{not-true, not-false}
use Rattle.judge.proofs.state.Judge.look_up.Goals as goal

pub returns-then-not-suiting : goal.returns-then-not-suiting
returns-then-not-suiting c =
    let a = c.args in
    let u = c.suits-suiting in
    let e = lends_by a.self a.log.now a.work.now u.ensures.0 u.ensures.1 (not-true u.result.holds c.if-not-suiting.true) in
    looked_as u.ensures.1 (looked_refused a.question u.result.judge a.log.now a.work.now a.out.now e c.of_none.ensures)

pub returns-then-cap-eq0 : goal.returns-then-cap-eq0
returns-then-cap-eq0 c =
    let a = c.args in
    let u = c.suits-suiting in
    let e = lends_by a.self a.log.now a.work.now u.ensures.0 u.ensures.1 (not-false u.result.holds c.if-not-suiting.false) in
    looked_as u.ensures.1
    (looked_none a.question u.result.judge a.log.now a.work.now a.out.now e c.if-cap-eq0.true c.of_none-then-cap-eq0.ensures)

pub invariant_of-past : goal.invariant_of-past
invariant_of-past c =
    let a = c.args in
    let u = c.suits-suiting in
    let e = lends_by a.self a.log.now a.work.now u.ensures.0 u.ensures.1 (not-false u.result.holds c.if-not-suiting.false) in
    let b = bounded (suiting e) c.if-cap-eq0.false in
    record { log_holds = b.log_holds; work_holds = b.work_holds; within = b.within; positive = b.positive; small = b.small }

pub returns-in_default : goal.returns-in_default
returns-in_default c =
    let a = c.args in
    let u = c.suits-suiting in
    let e = lends_by a.self a.log.now a.work.now u.ensures.0 u.ensures.1 (not-false u.result.holds c.if-not-suiting.false) in
    looked_as u.ensures.1
    (looked_short a.question u.result.judge a.log.now a.work.now a.out.now e c.answer.ensures c.in_default.is)

pub returns : goal.returns
returns c =
    let a = c.args in
    let u = c.suits-suiting in
    let e = lends_by a.self a.log.now a.work.now u.ensures.0 u.ensures.1 (not-false u.result.holds c.if-not-suiting.false) in
    looked_as u.ensures.1
    (looked_given a.question u.result.judge a.log.now a.work.now a.out.now e c.answer.ensures c.in-Some.is)
