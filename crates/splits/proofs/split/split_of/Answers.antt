-- The walk along the chain of parent and index leaves out no record that registers that split.
use mathlib.Core.Path.{sym, ap, ◌∙◌}
use borrow.Author.Tests.{tests}
use Rattle.std.proofs.Common.{rules}
use Rattle.history.specs.Pasts.{number_of}
use Rattle.history.proofs.Pasts.{on_first}
use Rattle.history.proofs.Finds.{find_taken}
use Rattle.splits.proofs.Finding.{is_of, split_found, number_found}
use Rattle.one_owner_per_key.proofs.Founds.{up_to_by}
use Rattle.splits.proofs.split.split_of.Goals as goal

pub returns-in_err-found-clause-latest : goal.returns-in_err-found-clause-latest
returns-in_err-found-clause-latest c =
    let a = c.args in
    λ ix. rw c.from_residual.ensures
    (sym (ap number_of c.in_err-found.was)
    ∙ split_found a.parent a.index a.top (λ x b q e. search (rules, tests)) a.past.now c.requires ix c.find.result _ c.split_chain.ensures c.find.ensures.ran)

pub split_at-requires : goal.split_at-requires
split_at-requires c =
    let a = c.args in
    let t =
    find_taken {test = up_to_by a.top (is_of a.parent a.index)} (λ x b q e. search (rules, tests)) _ _ (on_first c.split_chain.ensures) c.find.ensures.ran in
    rw c.in_ok-found.was at t

pub returns-clause-latest : goal.returns-clause-latest
returns-clause-latest c =
    let a = c.args in
    let t =
    find_taken {test = up_to_by a.top (is_of a.parent a.index)} (λ x b q e. search (rules, tests)) _ _ (on_first c.split_chain.ensures) c.find.ensures.ran in
    λ ix.
    number_found a.past.now a.parent a.index a.top (rw c.in_ok-found.was at t)
    (sym (ap number_of c.in_ok-found.was)
    ∙ split_found a.parent a.index a.top (λ x b q e. search (rules, tests)) a.past.now c.requires ix c.find.result _ c.split_chain.ensures c.find.ensures.ran)
    c.split_at.result c.split_at.ensures.here (c.split_at.ensures.is ix)
