-- The walk leaves out no record at which the node comes to owe.
use mathlib.Core.Path.{sym, ◌∙◌}
use native.Mathlib.Omega.{arith}
use Rattle.record.specs.Records.{decode}
use Rattle.splits.specs.Splits.{parent_by}
use Rattle.one_owner_per_key.proofs.Walks.{two_below}
use Rattle.history.proofs.Pasts.{taken_on}
use Rattle.debts.proofs.Walks.{by_coming, left_first, left_next, left_low, left_found, left_none}
use Rattle.debts.proofs.owed.latest_coming.Goals as goal

pub loop-old-init : goal.loop-old-init
loop-old-init c =
    let a = c.args in
    let p = a.past.now in
    let s = decode a.split.now in
    left_first (by_coming p.cap a.node.0 (parent_by s) s.b s.voters) (omega arith) (two_below p.cap a.node.0 (parent_by s) p.positive)
    (rw (← c.into_iter-old-iterator.ensures.into_iter_gives, c.parent_of.ensures) at c.hold_chain-old-items.ensures)

pub returns-then-old-floor-clause-latest : goal.returns-then-old-floor-clause-latest
returns-then-old-floor-clause-latest c = λ k. left_low c.loop-old.invariant c.in-Some.ensures.steps k c.if-old-floor.true

pub returns-then-is_coming-clause-latest : goal.returns-then-is_coming-clause-latest
returns-then-is_coming-clause-latest c =
    let w = c.loop-old.invariant in
    let e = c.in-Some.ensures.steps in
    λ k. left_found w e k c.if-old-floor.false (taken_on w.on e).within (c.is_coming.ensures k) c.if-is_coming.true

pub loop-old-preserved : goal.loop-old-preserved
loop-old-preserved c =
    let a = c.args in
    let s = decode a.split.now in
    left_next (by_coming a.past.now.cap a.node.0 (parent_by s) s.b s.voters) c.loop-old.invariant c.in-Some.ensures.steps
    (λ k _. sym (c.is_coming.ensures k) ∙ c.if-is_coming.false)

pub returns-clause-latest : goal.returns-clause-latest
returns-clause-latest c = λ k. left_none c.args.floor c.loop-old.invariant k c.in-None.ensures.steps.0
