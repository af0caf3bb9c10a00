-- Read at the latest record of the node, which alone changes it.
use mathlib.Core.Path.{◌∙◌}
use Rattle.one_owner_per_key.proofs.Checks.{some_number}
use Rattle.splits.proofs.States.{mark_is}
use Rattle.splits.proofs.state.is_restated.Goals as goal

pub returns : goal.returns
returns c =
    let a = c.args in
    let p = a.past.now in
    let r = c.restatement_by in
    λ ix. c.is_some.ensures ∙ some_number p r.result r.ensures.found
    ∙ mark_is p.log.now a.node.0 p.within c.requires (c.latest_of-last.ensures.latest ix.0) ix.1.restated r.ensures.is
