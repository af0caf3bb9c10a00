-- One split more: a right range that is not below the lowest so far cannot lower it.
use mathlib.Core.Path.{sym, ◌∙◌}
use native.Mathlib.Omega.{arith}
use Prim.Native.Nat.{◌-◌}
use Rattle.one_owner_per_key.proofs.AsOf.{end_is}
use Rattle.splits.proofs.States.{refused_is}
use Rattle.splits.proofs.Finding.{on_first, first_is, on_next, next_is, split_on, walk_over}
use Rattle.right_half.specs.Answers.{lacks_split}
use Rattle.right_half.proofs.Searches.{lowered_above, lowered_new, lowered_not, search_first, search_next, search_end}
use Rattle.right_half.proofs.missing.lowest_missing.Goals.{else-is_below-via-then-is_below+else-is_lacking, else-is_below-via-else-is_below}
use Rattle.right_half.proofs.missing.lowest_missing.Goals as goal

pub loop-split-init : goal.loop-split-init
loop-split-init c =
    let p = c.args.past.now in
    let z = rw (← c.into_iter-split-iterator.ensures.into_iter_gives) at c.of-split-items.ensures in
    (on_first p (omega arith) z, λ ix. search_first p.log.now p.count c.args.node.0 (first_is p ix (omega arith) z))

pub loop-split-preserved-then-is_lacking : goal.loop-split-preserved-then-is_lacking
loop-split-preserved-then-is_lacking c =
    let a = c.args in
    let p = a.past.now in
    let o = c.loop-split.invariant.0 in
    let e = c.in-Some.ensures.steps in (
      on_next p o e,
      λ ix.
          let last = c.latest_of-last.ensures.latest ix.0 in
          let ended = c.end_by-ended.ensures.1 ∙ end_is p.log.now p.count a.node.0 ix.0 p.within (omega arith) last in
          let refused = refused_is p.log.now a.node.0 p.within (omega arith) last ix.1.refused c.refused_by-refused.ensures.1 in
          search_next p a.node.0 ix (split_on p o e) e.number (c.loop-split.invariant.1 ix)
          (lowered_new c.in-Some.split.right c.loop-split.best (sym c.is_below.ensures ∙ c.if-is_below.true)
          (sym (c.is_lacking.ensures ix ended refused) ∙ c.if-is_lacking.true))
          (next_is p o e ix),
    )

pub loop-split-preserved : goal.loop-split-preserved
loop-split-preserved c =
    let a = c.args in
    let p = a.past.now in
    let o = c.loop-split.invariant.0 in
    let e = c.in-Some.ensures.steps in
    let s = c.in-Some.split in (
      on_next p o e,
      λ ix.
          let last = c.latest_of-last.ensures.latest ix.0 in
          let ended = c.end_by-ended.ensures.1 ∙ end_is p.log.now p.count a.node.0 ix.0 p.within (omega arith) last in
          let refused = refused_is p.log.now a.node.0 p.within (omega arith) last ix.1.refused c.refused_by-refused.ensures.1 in
          search_next p a.node.0 ix (split_on p o e) e.number (c.loop-split.invariant.1 ix)
          (elim c.else-is_below.branch [
            | else-is_below-via-then-is_below+else-is_lacking w ↦
                lowered_not s.right c.loop-split.best (sym (w.is_lacking.ensures ix ended refused) ∙ w.if-is_lacking.false)
            | else-is_below-via-else-is_below w ↦
                lowered_above (lacks_split p.log.now p.count a.node.0 (s.number - 1) s.right) s.right c.loop-split.best
                (sym c.is_below.ensures ∙ w.if-is_below.false)
          ])
          (next_is p o e ix),
    )

pub returns : goal.returns
returns c =
    let p = c.args.past.now in
    λ ix. search_end p.log.now p.count c.args.node.0 (walk_over p c.loop-split.invariant.0 c.next.new.self c.in-None.ensures.steps ix)
    (c.loop-split.invariant.1 ix)
