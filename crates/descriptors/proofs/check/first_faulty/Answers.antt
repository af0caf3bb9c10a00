-- A walk along the range's statements, newest first: each that becomes faulty replaces the one found before, so the earliest stays.
use mathlib.Core.Path.{refl, sym, ◌∙◌}
use Rattle.std.specs.Prelude.{None, Some}
use Rattle.record.specs.Records.{decode}
use Rattle.rules.specs.Descriptors.{entry_at, standing}
use Rattle.history.specs.Pasts.{taken}
use Rattle.history.proofs.Mixing.{one_below}
use Rattle.history.proofs.Pasts.{on_first, on_next, taken_on, along_first, along_turn, along_next}
use Rattle.descriptors.specs.Agreement.{new_faulty}
use Rattle.descriptors.proofs.Faulty.{earliest_skip, earliest_start, earliest_takes, earliest_keeps, earliest_done, faulty_is, faulty_range}
use Rattle.descriptors.proofs.check.first_faulty.Goals as goal

pub loop-old-init : goal.loop-old-init
loop-old-init c =
    let p = c.args.past.now in
    let x = decode c.args.new.now.record.now in
    let v = entry_at c.args.new.now.index x (taken p) in
    let vs = standing (taken p) in
    let z = rw (← c.into_iter-old-iterator.ensures.into_iter_gives, c.bucket_by-bucket.ensures.0, c.a.ensures) at c.chain-old-items.ensures in (
      on_first z,
      λ k en el. along_first _ (earliest_skip p.cap x.a p.log.now (new_faulty v vs) (faulty_range v vs) None) k.stated refl (one_below x.a p.positive)
          (earliest_start p.cap x.a p.log.now (new_faulty v vs) p.count) z,
    )

pub loop-old-preserved-then-becomes_faulty : goal.loop-old-preserved-then-becomes_faulty
loop-old-preserved-then-becomes_faulty c =
    let p = c.args.past.now in
    let n = c.args.new.now in
    let x = decode n.record.now in
    let v = entry_at n.index x (taken p) in
    let vs = standing (taken p) in
    let old = c.in-Some.old in
    let o = c.loop-old.invariant.0 in
    let e = c.in-Some.ensures.steps in (
      on_next o e,
      λ k en el.
          let w = c.loop-old.invariant.1 k en el in
          let faulty = sym (c.becomes_faulty.ensures k ∙ faulty_is x (taken p) n.index en el old) ∙ c.if-becomes_faulty.true in
          along_next _ (earliest_skip p.cap x.a p.log.now (new_faulty v vs) (faulty_range v vs) (Some old)) k.stated o e w
          (earliest_takes p.cap (new_faulty v vs) (taken_on o e) c.loop-old.earliest (along_turn e w) faulty),
    )

pub loop-old-preserved : goal.loop-old-preserved
loop-old-preserved c =
    let p = c.args.past.now in
    let n = c.args.new.now in
    let x = decode n.record.now in
    let v = entry_at n.index x (taken p) in
    let vs = standing (taken p) in
    let o = c.loop-old.invariant.0 in
    let e = c.in-Some.ensures.steps in (
      on_next o e,
      λ k en el.
          let w = c.loop-old.invariant.1 k en el in
          let sound = sym (c.becomes_faulty.ensures k ∙ faulty_is x (taken p) n.index en el c.in-Some.old) ∙ c.if-becomes_faulty.false in
          along_next _ (earliest_skip p.cap x.a p.log.now (new_faulty v vs) (faulty_range v vs) c.loop-old.earliest) k.stated o e w
          (earliest_keeps p.cap (new_faulty v vs) (taken_on o e) c.loop-old.earliest (along_turn e w) sound),
    )

pub returns : goal.returns
returns c =
    let p = c.args.past.now in
    let x = decode c.args.new.now.record.now in
    let v = entry_at c.args.new.now.index x (taken p) in
    λ k en el. earliest_done p.cap x.a p.log.now (new_faulty v (standing (taken p))) c.loop-old.earliest c.in-None.ensures.steps.0
    (c.loop-old.invariant.1 k en el).same
