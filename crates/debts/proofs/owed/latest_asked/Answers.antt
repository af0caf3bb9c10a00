-- The walk leaves out no record that is looked for.
use mathlib.Core.Path.{sym, ◌∙◌}
use native.Mathlib.Omega.{arith}
use Rattle.one_owner_per_key.proofs.Walks.{two_below}
use Rattle.debts.proofs.Walks.{by_asked, left_first, left_next, left_low, left_found, left_none}
use Rattle.debts.proofs.owed.latest_asked.Goals.{else-old-top-via-then-old-top+else-is_asked_of, else-old-top-via-else-old-top}
use Rattle.debts.proofs.owed.latest_asked.Goals as goal

pub loop-old-init : goal.loop-old-init
loop-old-init c =
    let a = c.args in
    let p = a.past.now in
    left_first (by_asked p.cap a.asked a.node.0 a.range) c.requires (two_below p.cap a.node.0 a.range p.positive)
    (rw (← c.into_iter-old-iterator.ensures.into_iter_gives) at c.hold_chain-old-items.ensures)

pub returns-then-old-floor-clause-latest : goal.returns-then-old-floor-clause-latest
returns-then-old-floor-clause-latest c = λ k. left_low c.loop-old.invariant c.in-Some.ensures.steps k c.if-old-floor.true

pub returns-then-is_asked_of-clause-latest : goal.returns-then-is_asked_of-clause-latest
returns-then-is_asked_of-clause-latest c =
    λ k. left_found c.loop-old.invariant c.in-Some.ensures.steps k c.if-old-floor.false c.if-old-top.true (c.is_asked_of.ensures k) c.if-is_asked_of.true

pub loop-old-preserved : goal.loop-old-preserved
loop-old-preserved c =
    let a = c.args in
    left_next (by_asked a.past.now.cap a.asked a.node.0 a.range) c.loop-old.invariant c.in-Some.ensures.steps
    (λ k l. elim c.else-old-top.branch [
      | else-old-top-via-then-old-top+else-is_asked_of w ↦ sym (w.is_asked_of.ensures k) ∙ w.if-is_asked_of.false
      | else-old-top-via-else-old-top w ↦ absurd (omega (arith, l, w.if-old-top.false))
    ])

pub returns-clause-latest : goal.returns-clause-latest
returns-clause-latest c = λ k. left_none c.args.floor c.loop-old.invariant k c.in-None.ensures.steps.0
