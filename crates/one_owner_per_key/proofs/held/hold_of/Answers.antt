-- The walk along the chain of node and range leaves out no record that says what is held.
use mathlib.Core.Path.{refl}
use borrow.Author.Tests.{tests}
use Rattle.std.proofs.Common.{rules}
use Rattle.history.proofs.Pasts.{on_first}
use Rattle.history.proofs.Finds.{find_taken}
use Rattle.one_owner_per_key.specs.Numbers.{says_hold}
use Rattle.one_owner_per_key.proofs.Founds.{up_to_by, find_by}
use Rattle.one_owner_per_key.proofs.Walks.{two_below, by_hold_lem}
use Rattle.one_owner_per_key.proofs.held.hold_of.Goals as goal

pub returns-clause-found : goal.returns-clause-found
returns-clause-found c =
    let a = c.args in
    find_taken {test = up_to_by a.top (says_hold a.node.0 a.range)} (λ x b q e. search (rules, tests)) _ _ (on_first c.hold_chain.ensures) c.find.ensures.ran

pub returns-clause-latest : goal.returns-clause-latest
returns-clause-latest c =
    let a = c.args in
    let p = a.past.now in
    λ k. find_by (says_hold a.node.0 a.range) a.top (λ x b q e. search (rules, tests)) (by_hold_lem p.cap a.node.0 a.range) c.requires k.held
    c.find.result _ refl (two_below p.cap a.node.0 a.range p.positive) c.hold_chain.ensures c.find.ensures.ran
