-- The walk to the lowest: each value that passes is weighed against the best so far, and past a marked one up to the index nothing
-- is above it.
use mathlib.Core.Path.{sym, ◌∙◌}
use Rattle.std.proofs.Common.{rules}
use borrow.Author.Tests.{tests}
use lib.Dec.{ltb}
use Rattle.history.specs.Weighing.{lower_of}
use Rattle.history.proofs.Pasts.{on_first, on_next, taken_on, along_turn}
use Rattle.descriptors.specs.Answers.{above}
use Rattle.descriptors.proofs.Rising.{lowest_stop}
use Rattle.descriptors.proofs.Walks.{lowest_weighs, weighs_first, weighs_taken, weighs_passed, weighs_next, weighs_done, above_range}
use Rattle.descriptors.proofs.value.lowest.Goals as goal

pub loop-old-init : goal.loop-old-init
loop-old-init c =
    let a = c.args in
    let z = rw (← c.into_iter-old-iterator.ensures.into_iter_gives) at c.standing-old-items.ensures in
    (on_first z, (tt, λ k. weighs_first (lowest_weighs (above a.range a.index a.generation)) (above_range a.range a.index a.generation) a.past.now k z))

pub returns-then-is_rest_below-clause-lowest : goal.returns-then-is_rest_below-clause-lowest
returns-then-is_rest_below-clause-lowest c =
    let a = c.args in
    let W = lowest_weighs (above a.range a.index a.generation) in
    let R = above_range a.range a.index a.generation in
    let o = c.loop-old.invariant.0 in
    let e = c.in-Some.ensures.steps in
    let passes_not = sym c.is_above.ensures ∙ c.if-is_above.false in
    λ k.
    let stands = c.loop-old.invariant.1.1 k in
    lowest_stop k (taken_on o e) (along_turn e stands).here a.range a.index (sym c.is_rest_below.ensures ∙ c.if-is_rest_below.true) a.generation c.loop-old.best
    (weighs_passed W R a.past.now k o e stands passes_not)

pub loop-old-preserved-then-is_above : goal.loop-old-preserved-then-is_above
unfolding lower_of
loop-old-preserved-then-is_above c =
    let a = c.args in
    let p = a.past.now in
    let W = lowest_weighs (above a.range a.index a.generation) in
    let R = above_range a.range a.index a.generation in
    let o = c.loop-old.invariant.0 in
    let e = c.in-Some.ensures.steps in
    let passes = sym c.is_above.ensures ∙ c.if-is_above.true in
    let better = c.better-best.ensures.better (λ kept next. ltb kept next) (λ x y b k. search (rules, tests)) in (
      on_next o e,
      (
        c.better-best.ensures.found p c.loop-old.invariant.1.0 (taken_on o e),
        λ k.
            let stands = c.loop-old.invariant.1.1 k in weighs_next W R p k o e stands (weighs_taken W R p k o e stands passes better),
      ),
    )

pub loop-old-preserved : goal.loop-old-preserved
loop-old-preserved c =
    let a = c.args in
    let p = a.past.now in
    let W = lowest_weighs (above a.range a.index a.generation) in
    let R = above_range a.range a.index a.generation in
    let o = c.loop-old.invariant.0 in
    let e = c.in-Some.ensures.steps in
    let passes_not = sym c.is_above.ensures ∙ c.if-is_above.false in (
      on_next o e,
      (
        c.loop-old.invariant.1.0,
        λ k.
            let stands = c.loop-old.invariant.1.1 k in weighs_next W R p k o e stands (weighs_passed W R p k o e stands passes_not),
      ),
    )

pub returns-clause-lowest : goal.returns-clause-lowest
returns-clause-lowest c =
    let a = c.args in
    λ k. weighs_done (lowest_weighs (above a.range a.index a.generation)) (above_range a.range a.index a.generation) a.past.now k
    c.in-None.ensures.steps.0 (c.loop-old.invariant.1.1 k)
