-- The walk to the greatest: each value that passes is weighed against the best so far, and past a marked one that passes the rest
-- is below it.
use mathlib.Core.Path.{sym, ◌∙◌}
use Rattle.std.proofs.Common.{rules}
use borrow.Author.Tests.{tests}
use lib.Dec.{ltb}
use Rattle.history.specs.Weighing.{greater_of}
use Rattle.history.proofs.Pasts.{on_first, on_next, taken_on, along_turn}
use Rattle.descriptors.specs.Answers.{up_to}
use Rattle.descriptors.proofs.Rising.{greatest_stop}
use Rattle.descriptors.proofs.Walks.{greatest_weighs, weighs_first, weighs_taken, weighs_passed, weighs_next, weighs_done, up_to_range}
use Rattle.descriptors.proofs.value.greatest.Goals as goal

pub loop-old-init : goal.loop-old-init
loop-old-init c =
    let a = c.args in
    let z = rw (← c.into_iter-old-iterator.ensures.into_iter_gives) at c.standing-old-items.ensures in
    (on_first z, (tt, λ k. weighs_first (greatest_weighs (up_to a.range a.index a.generation)) (up_to_range a.range a.index a.generation) a.past.now k z))

pub returns-then-is_rising-clause-greatest : goal.returns-then-is_rising-clause-greatest
unfolding greater_of
returns-then-is_rising-clause-greatest c =
    let a = c.args in
    let p = a.past.now in
    let W = greatest_weighs (up_to a.range a.index a.generation) in
    let R = up_to_range a.range a.index a.generation in
    let e = c.in-Some.ensures.steps in
    let t = taken_on c.loop-old.invariant.0 e in
    let passes = sym c.is_up_to.ensures ∙ c.if-is_up_to.true in
    let better = c.better-best.ensures.better (λ kept next. ltb next kept) (λ x y b k. search (rules, tests)) in
    λ k.
    let stands = c.loop-old.invariant.1.1 k in
    greatest_stop k t (along_turn e stands).here a.range a.index a.generation c.loop-old.best c.better-best.result passes
    (sym c.is_rising.ensures ∙ c.if-is_rising.true) better
    (weighs_taken W R p k c.loop-old.invariant.0 e stands passes better)

pub loop-old-preserved-else-is_rising : goal.loop-old-preserved-else-is_rising
unfolding greater_of
loop-old-preserved-else-is_rising c =
    let a = c.args in
    let p = a.past.now in
    let W = greatest_weighs (up_to a.range a.index a.generation) in
    let R = up_to_range a.range a.index a.generation in
    let o = c.loop-old.invariant.0 in
    let e = c.in-Some.ensures.steps in
    let passes = sym c.is_up_to.ensures ∙ c.if-is_up_to.true in
    let better = c.better-best.ensures.better (λ kept next. ltb next kept) (λ x y b k. search (rules, tests)) in (
      on_next o e,
      (
        c.better-best.ensures.found p c.loop-old.invariant.1.0 (taken_on o e),
        λ k.
            let stands = c.loop-old.invariant.1.1 k in weighs_next W R p k o e stands (weighs_taken W R p k o e stands passes better),
      ),
    )

pub loop-old-preserved : goal.loop-old-preserved
loop-old-preserved c =
    let a = c.args in
    let p = a.past.now in
    let W = greatest_weighs (up_to a.range a.index a.generation) in
    let R = up_to_range a.range a.index a.generation in
    let o = c.loop-old.invariant.0 in
    let e = c.in-Some.ensures.steps in
    let passes_not = sym c.is_up_to.ensures ∙ c.if-is_up_to.false in (
      on_next o e,
      (
        c.loop-old.invariant.1.0,
        λ k.
            let stands = c.loop-old.invariant.1.1 k in weighs_next W R p k o e stands (weighs_passed W R p k o e stands passes_not),
      ),
    )

pub returns-clause-greatest : goal.returns-clause-greatest
returns-clause-greatest c =
    let a = c.args in
    λ k. weighs_done (greatest_weighs (up_to a.range a.index a.generation)) (up_to_range a.range a.index a.generation) a.past.now k
    c.in-None.ensures.steps.0 (c.loop-old.invariant.1.1 k)
