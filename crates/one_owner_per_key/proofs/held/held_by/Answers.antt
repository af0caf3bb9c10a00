-- The node's latest record says its latest end.
use mathlib.Core.Path.{◌∙◌}
use Rattle.one_owner_per_key.proofs.AsOf.{end_is}
use Rattle.one_owner_per_key.proofs.held.held_by.Goals as goal

pub returns-clause-held : goal.returns-clause-held
returns-clause-held c =
    let a = c.args in
    let p = a.past.now in
    λ k.
    c.held_after.ensures.held k
    (c.end_by-ended.ensures.1 ∙ end_is p.log.now p.count a.node.0 k p.within c.requires (c.latest_of.ensures.latest k))
