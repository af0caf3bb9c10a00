-- The walk along the node's chain leaves out no record of the node.
use mathlib.Core.Path.{refl, ◌∙◌}
use borrow.Author.Tests.{tests}
use Rattle.std.proofs.Common.{rules}
use Rattle.rules.specs.History.{is_by}
use Rattle.history.proofs.Options.{numbered}
use Rattle.one_owner_per_key.proofs.Founds.{find_by}
use Rattle.one_owner_per_key.proofs.Walks.{bucket_below, entered_by_node}
use Rattle.one_owner_per_key.proofs.held.latest_of.Goals as goal

pub returns-clause-latest : goal.returns-clause-latest
returns-clause-latest c =
    let p = c.args.past.now in
    let n = c.args.node.0 in
    λ k. numbered (λ x e. search rules) c.find.result c.map_or.ensures
    ∙ find_by (is_by n) c.args.top (λ x b q e. search (rules, tests)) (entered_by_node p.cap n) c.requires k.nodes
    c.find.result _ refl (bucket_below p.cap n p.positive) c.node_chain.ensures c.find.ensures.ran
