-- The value at the place is the newest that is there, and past a marked one up to the index there is none.
use mathlib.Core.Path.{refl, sym, ◌∙◌}
use Rattle.history.proofs.Pasts.{on_first, on_next, taken_on, along_first, along_turn, along_next}
use Rattle.history.proofs.Mixing.{one_below}
use Rattle.descriptors.proofs.Rising.{place_stop}
use Rattle.descriptors.proofs.Walks.{place_skip, place_hit, place_miss, place_end}
use Rattle.descriptors.proofs.value.standing_at.Goals as goal

pub loop-old-init : goal.loop-old-init
loop-old-init c =
    let a = c.args in
    let p = a.past.now in
    let z = rw (← c.into_iter-old-iterator.ensures.into_iter_gives) at c.standing-old-items.ensures in
    (on_first z, λ k. along_first _ (place_skip p.cap a.range a.index p.log.now) k.standing refl (one_below a.range p.positive) refl z)

pub returns-then-is_at-clause-standing : goal.returns-then-is_at-clause-standing
returns-then-is_at-clause-standing c =
    let a = c.args in
    let o = c.loop-old.invariant.0 in
    let e = c.in-Some.ensures.steps in
    λ k. place_hit a.past.now.cap a.range a.index (taken_on o e) (along_turn e (c.loop-old.invariant.1 k)) (sym c.is_at.ensures ∙ c.if-is_at.true)

pub returns-then-is_rest_below-clause-standing : goal.returns-then-is_rest_below-clause-standing
returns-then-is_rest_below-clause-standing c =
    let a = c.args in
    let e = c.in-Some.ensures.steps in
    let t = taken_on c.loop-old.invariant.0 e in
    λ k.
    let w = along_turn e (c.loop-old.invariant.1 k) in
    sym (place_miss a.past.now.cap a.range a.index t w (sym c.is_at.ensures ∙ c.if-is_at.false)
    ∙ place_stop k t w.here a.range a.index (sym c.is_rest_below.ensures ∙ c.if-is_rest_below.true))

pub loop-old-preserved : goal.loop-old-preserved
loop-old-preserved c =
    let a = c.args in
    let p = a.past.now in
    let o = c.loop-old.invariant.0 in
    let e = c.in-Some.ensures.steps in (
      on_next o e,
      λ k.
          let w = c.loop-old.invariant.1 k in
          along_next _ (place_skip p.cap a.range a.index p.log.now) k.standing o e w
          (place_miss p.cap a.range a.index (taken_on o e) (along_turn e w) (sym c.is_at.ensures ∙ c.if-is_at.false)),
    )

pub returns-clause-standing : goal.returns-clause-standing
returns-clause-standing c =
    let a = c.args in
    λ k. sym ((c.loop-old.invariant.1 k).same ∙ place_end a.past.now.cap a.range a.index a.past.now.log.now c.in-None.ensures.steps.0)
