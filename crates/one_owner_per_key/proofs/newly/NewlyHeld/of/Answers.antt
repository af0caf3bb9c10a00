-- The two cells at the node's latest record.
use mathlib.Core.Path.{refl, ◌∙◌}
use native.Mathlib.Omega.{arith}
use Rattle.one_owner_per_key.proofs.AsOf.{end_is, newest_is}
use Rattle.one_owner_per_key.proofs.newly.NewlyHeld.of.Goals as goal

pub returns : goal.returns
returns c =
    let p = c.args.past.now in
    let n = c.args.node.0 in
    let last = c.latest_of-last.ensures.latest in
    record {
      past = refl;
      latest = λ k. c.latest_newly.ensures.1 ∙ newest_is p.log.now p.count n k p.within (omega arith) (last k);
      ended = λ k. c.end_by.ensures.1 ∙ end_is p.log.now p.count n k p.within (omega arith) (last k);
    }
