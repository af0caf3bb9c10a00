-- One record more: a node that is not below the lowest so far cannot lower it.
use mathlib.Core.Path.{sym, ap, ◌∙◌}
use Rattle.std.specs.Prelude.{Some}
use Prim.Native.Nat.{ℕ}
use Rattle.record.specs.Named.{Node}
use Rattle.record.specs.Records.{decode}
use Rattle.rules.specs.RightHalf.{lacks}
use Rattle.history.specs.Places.{recorded_heads, recorded_links}
use Rattle.history.specs.Pasts.{taken}
use Rattle.history.proofs.Pasts.{on_first, on_next}
use Rattle.one_owner_per_key.proofs.Walks.{bucket_below}
use Rattle.splits.specs.Columns.{recorded_bucket, by_recording}
use Rattle.splits.specs.Splits.{parent_by}
use Rattle.splits.specs.Walk.{split_of}
use Rattle.right_half.specs.Answers.{lowered_by}
use Rattle.one_owner_per_key.specs.Answers.{is_below}
use Rattle.rules.proofs.Candidates.{lacking_right}
use Rattle.right_half.proofs.Searches.{lowered_above, lowered_new, lowered_not}
use Rattle.right_half.proofs.Lowering.{lower_first, lower_next, lower_end, lacking_met}
use Rattle.right_half.proofs.lacking.lowest_lacking.Goals.{else-is_below-via-then-is_below+else-lacks_at, else-is_below-via-else-is_below}
use Rattle.right_half.proofs.lacking.lowest_lacking.Goals as goal

pub loop-old-init : goal.loop-old-init
loop-old-init c =
    let p = c.args.past.now in
    let s = c.args.split.now in
    let parent = parent_by (decode s.record.now) in
    let z = rw (c.parent_of.ensures) at (rw (← c.into_iter-old-iterator.ensures.into_iter_gives) at c.recorded_chain-old-items.ensures) in (
      on_first z,
      λ ix r. lower_first (by_recording p.cap) (recorded_bucket p.cap parent) (lacks (split_of s) (decode s.record.now) (taken p)) p recorded_heads
          recorded_links
          ix.1.recordings (bucket_below p.cap parent p.positive) z,
    )

pub loop-old-preserved-then-lacks_at : goal.loop-old-preserved-then-lacks_at
loop-old-preserved-then-lacks_at c =
    let p = c.args.past.now in
    let s = c.args.split.now in
    let P = lacks (split_of s) (decode s.record.now) (taken p) in
    let o = c.loop-old.invariant.0 in
    let e = c.in-Some.ensures.steps in
    let m = c.in-Some-node.node in (
      on_next o e,
      λ ix r. lower_next (by_recording p.cap) (recorded_bucket p.cap (parent_by (decode s.record.now))) P p recorded_heads recorded_links ix.1.recordings o e
          (c.loop-old.invariant.1 ix r)
          (ap Some c.from-number.ensures
          ∙ lowered_new m.0 c.loop-old.best (ap (λ (n : ℕ). is_below n c.loop-old.best) (sym c.from-number.ensures) ∙ sym c.is_below.ensures
          ∙ c.if-is_below.true)
          (sym (c.lacks_at.ensures ix r) ∙ c.if-lacks_at.true)
          ∙ ap (λ (z : Node). lowered_by P z c.loop-old.best) (sym (sym c.node.ensures ∙ c.in-Some-node.is))),
    )

pub loop-old-preserved-else-is_below : goal.loop-old-preserved-else-is_below
loop-old-preserved-else-is_below c =
    let p = c.args.past.now in
    let s = c.args.split.now in
    let P = lacks (split_of s) (decode s.record.now) (taken p) in
    let o = c.loop-old.invariant.0 in
    let e = c.in-Some.ensures.steps in
    let m = c.in-Some-node.node in (
      on_next o e,
      λ ix r. lower_next (by_recording p.cap) (recorded_bucket p.cap (parent_by (decode s.record.now))) P p recorded_heads recorded_links ix.1.recordings o e
          (c.loop-old.invariant.1 ix r)
          ((elim c.else-is_below.branch [
            | else-is_below-via-then-is_below+else-lacks_at w ↦
                lowered_not m.0 c.loop-old.best (sym (w.lacks_at.ensures ix r) ∙ w.if-lacks_at.false)
            | else-is_below-via-else-is_below w ↦
                lowered_above (P m.0) m.0 c.loop-old.best
                (ap (λ (n : ℕ). is_below n c.loop-old.best) (sym c.from-number.ensures) ∙ sym c.is_below.ensures ∙ w.if-is_below.false)
          ])
          ∙ ap (λ (z : Node). lowered_by P z c.loop-old.best) (sym (sym c.node.ensures ∙ c.in-Some-node.is))),
    )

pub loop-old-preserved : goal.loop-old-preserved
loop-old-preserved c =
    let p = c.args.past.now in
    let s = c.args.split.now in
    let P = lacks (split_of s) (decode s.record.now) (taken p) in
    let o = c.loop-old.invariant.0 in
    let e = c.in-Some.ensures.steps in (
      on_next o e,
      λ ix r. lower_next (by_recording p.cap) (recorded_bucket p.cap (parent_by (decode s.record.now))) P p recorded_heads recorded_links ix.1.recordings o e
          (c.loop-old.invariant.1 ix r) (ap (λ (z : Node). lowered_by P z c.loop-old.best) (sym (sym c.node.ensures ∙ c.in_default.is))),
    )

pub returns : goal.returns
returns c =
    let p = c.args.past.now in
    let s = c.args.split.now in
    let x = decode s.record.now in
    λ ix r. lower_end (by_recording p.cap) (recorded_bucket p.cap (parent_by x)) (lacks (split_of s) x (taken p)) p c.in-None.ensures.steps.0
    (c.loop-old.invariant.1 ix r) (λ m e. lacking_met p.cap p.log.now p.count (split_of s) x m e) (lacking_right (split_of s) x (taken p))
