-- Without a node nothing; kind 1 by what the node holds.
use mathlib.Core.Path.{sym, ap, ◌∙◌}
use Rattle.std.specs.Prelude.{Some, is_some}
use Rattle.record.specs.Records.{decode}
use Rattle.history.specs.Logs.{hist}
use borrow.Author.Tests.{eq-eqb, ne_eqb}
use Rattle.one_owner_per_key.proofs.Checks.{held_found}
use Rattle.rules.proofs.Owners.{twice_unmarked, twice_other, twice_held, twice_free}
use Rattle.one_owner_per_key.proofs.check.twice.Goals as goal

pub returns-in_err-node : goal.returns-in_err-node
returns-in_err-node c =
    let a = c.args in
    let x = decode a.rec.now in
    let h = hist a.past.now.log.now a.past.now.count in
    λ ix. c.from_residual.ensures ∙ twice_unmarked x h (sym c.node.ensures ∙ c.in_err-node.was)

pub returns-then-kind-ne1 : goal.returns-then-kind-ne1
returns-then-kind-ne1 c =
    let a = c.args in
    let x = decode a.rec.now in
    let h = hist a.past.now.log.now a.past.now.count in
    λ ix. twice_other x h (sym c.node.ensures ∙ c.in_ok-node.was)
    (ne_eqb x.kind 1 (λ e. c.if-kind-ne1.true (c.kind.ensures ∙ e)))

pub returns-in_err-held_by : goal.returns-in_err-held_by
returns-in_err-held_by c =
    let a = c.args in
    λ ix. c.from_residual-in_err-held_by.ensures ∙ twice_free (decode a.rec.now) (hist a.past.now.log.now a.past.now.count) (sym c.node.ensures ∙ c.in_ok-node.was)
    (eq-eqb _ 1 (sym c.kind.ensures ∙ c.if-kind-ne1.false)) c.a-range.ensures
    (held_found a.past.now _ _ _ _ c.held_by.ensures.found (c.held_by.ensures.held ix) ∙ ap is_some c.in_err-held_by.was)

pub returns : goal.returns
returns c =
    let a = c.args in
    λ ix. (rw c.from.ensures at (ap Some c.new.ensures)) ∙ twice_held (decode a.rec.now) (hist a.past.now.log.now a.past.now.count) (sym c.node.ensures ∙ c.in_ok-node.was)
    (eq-eqb _ 1 (sym c.kind.ensures ∙ c.if-kind-ne1.false)) c.a-range.ensures c.b.ensures
    (held_found a.past.now _ _ _ _ c.held_by.ensures.found (c.held_by.ensures.held ix) ∙ ap is_some c.in_ok-held_by.was)
