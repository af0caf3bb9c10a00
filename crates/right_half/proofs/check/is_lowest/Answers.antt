-- A range above the lowest is not the lowest; then by its voters and by what is held.
use mathlib.Core.Path.{sym, ap, ◌∙◌}
use lib.Dec.{eqb}
use Rattle.record.specs.declared.named.ServerId.{ServerId}
use Rattle.record.specs.Records.{decode}
use Rattle.rules.specs.History.{any_of}
use Rattle.one_owner_per_key.proofs.Checks.{held_found}
use Rattle.right_half.proofs.Checks.{lowest_held}
use Rattle.right_half.proofs.check.is_lowest.Goals as goal

pub returns : goal.returns
returns c =
    let a = c.args in
    let p = a.past.now in
    let h = c.held_by in
    λ ix. lowest_held c.is_none.result
    (sym (c.is_voter.ensures ∙ ap (λ (s : ServerId). any_of (λ v. eqb v s.0) (decode a.split.now.record.now).voters) (c.server_of.ensures ix))
    ∙ c.if-not-is_voter.false)
    (held_found p a.node.0 a.split.now.right p.count h.result h.ensures.found (h.ensures.held ix.0) ∙ c.is_none.ensures)
    (sym c.is_above.ensures ∙ c.if-is_above.false)
