-- One range more: one that is not below the lowest so far cannot lower it. At the end all that were newly held are taken over.
use mathlib.Core.Path.{refl, sym, ap, ◌∙◌}
use mathlib.Core.Bool.{and-false}
use Rattle.record.specs.Records.{decode}
use Rattle.record.proofs.Booleans.{both}
use Rattle.rules.specs.Descriptors.{span_of}
use Rattle.std.proofs.lemmas.Iterator.Consumers.{YieldsList-at, YieldsList-end}
use Rattle.history.specs.Pasts.{taken}
use Rattle.one_owner_per_key.specs.Answers.{passes}
use Rattle.one_owner_per_key.proofs.Meets.{least, met, least_lowered, least_apart, least_above, lowest_since}
use Rattle.one_owner_per_key.proofs.Since.{range_read, newly_yields}
use Rattle.one_owner_per_key.proofs.meeting.lowest_meeting.Goals.{else-is_below-via-then-is_below+then-passes+else-is_met}
use Rattle.one_owner_per_key.proofs.meeting.lowest_meeting.Goals.{else-is_below-via-then-is_below+else-passes, else-is_below-via-else-is_below}
use Rattle.one_owner_per_key.proofs.meeting.lowest_meeting.Goals as goal

pub loop-old-preserved-then-is_met : goal.loop-old-preserved-then-is_met
loop-old-preserved-then-is_met c =
    let a = c.args in
    let l = c.loop-old in
    let P = met (passes a.others (decode a.rec.now).spans) (span_of a.k (decode a.rec.now)) a.node.0 (taken a.past.now) in
    λ k.
    least_lowered P range_read l.yielded c.in-Some.old c.a-range.ensures (l.invariant k) (sym c.is_below.ensures ∙ c.if-is_below.true)
    (both (sym c.passes.ensures ∙ c.if-passes.true) (sym (c.is_met.ensures k (c.of-newly.ensures.ended k)) ∙ c.if-is_met.true))

pub loop-old-preserved : goal.loop-old-preserved
loop-old-preserved c =
    let a = c.args in
    let l = c.loop-old in
    let x = c.in-Some.old in
    let P = met (passes a.others (decode a.rec.now).spans) (span_of a.k (decode a.rec.now)) a.node.0 (taken a.past.now) in
    λ k.
    elim c.else-is_below.branch [
      | else-is_below-via-then-is_below+then-passes+else-is_met w ↦
          let unmet = sym (w.is_met.ensures k (c.of-newly.ensures.ended k)) ∙ w.if-is_met.false in
          least_apart P range_read l.yielded x c.a-range.ensures (l.invariant k) (rw (unmet, and-false))
      | else-is_below-via-then-is_below+else-passes w ↦
          let spared = sym w.passes.ensures ∙ w.if-passes.false in
          least_apart P range_read l.yielded x c.a-range.ensures (l.invariant k) (rw spared)
      | else-is_below-via-else-is_below w ↦
          least_above P range_read l.yielded x c.a-range.ensures (l.invariant k) (sym c.is_below.ensures ∙ w.if-is_below.false)
    ]

pub returns : goal.returns
returns c =
    let a = c.args in
    let p = a.past.now in
    let s = span_of a.k (decode a.rec.now) in
    let may = passes a.others (decode a.rec.now).spans in
    let P = met may s a.node.0 (taken p) in
    let n = c.of-newly in
    λ k.
    let walk = YieldsList-at c.into_iter-old-iterator.ensures.into_iter_gives (newly_yields p a.node.0 n.result.ended k n.ensures refl) in
    c.loop-old.invariant k
    ∙ ap (least P) (YieldsList-end walk c.loop-old.yielded _ c.loop-old.yielded_by _ _ c.in-None.is c.next.ensures.steps).0
    ∙ lowest_since may s a.node.0 p.log.now p.count (n.ensures.ended k)
