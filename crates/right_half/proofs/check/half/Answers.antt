-- By the record's kind.
use mathlib.Core.Path.{sym, ◌∙◌}
use borrow.Author.Tests.{eq-eqb, ne_eqb}
use Rattle.std.proofs.Common.{rules}
use Rattle.record.specs.Records.{decode}
use Rattle.history.specs.Pasts.{taken}
use Rattle.rules.proofs.Half.{half_unmarked, half_restated, half_registering, half_other}
use Rattle.right_half.proofs.check.half.Goals as goal

pub returns-in_err-node : goal.returns-in_err-node
returns-in_err-node c =
    λ ix. c.from_residual.ensures ∙ half_unmarked (decode c.args.rec.now) (taken c.args.past.now) (sym c.node.ensures ∙ c.in_err-node.was)

pub returns-in-5 : goal.returns-in-5
returns-in-5 c =
    let x = decode c.args.rec.now in
    λ ix. half_restated x (taken c.args.past.now) c.in_ok-node.node (sym c.node.ensures ∙ c.in_ok-node.was) (eq-eqb x.kind 5 (sym c.kind.ensures ∙ c.in-5.is))
    (c.restated_case.ensures ix)

pub returns-in-1 : goal.returns-in-1
returns-in-1 c =
    let x = decode c.args.rec.now in
    let m = sym c.node.ensures ∙ c.in_ok-node.was in
    λ ix. half_registering x (taken c.args.past.now) c.in_ok-node.node m (ne_eqb x.kind 5 (λ z. search rules)) (ne_eqb x.kind 3 (λ z. search rules))
    (c.registered_case.ensures ix m)

pub returns-in_default : goal.returns-in_default
returns-in_default c =
    let x = decode c.args.rec.now in
    λ ix. half_other x (taken c.args.past.now) c.in_ok-node.node (sym c.node.ensures ∙ c.in_ok-node.was) (ne_eqb x.kind 5 (λ z. search rules))
    (ne_eqb x.kind 3 (λ z. search rules)) (rw (ne_eqb x.kind 1 (λ z. search rules), ne_eqb x.kind 2 (λ z. search rules)))

pub returns-in_default-2 : goal.returns-in_default-2
returns-in_default-2 c =
    let x = decode c.args.rec.now in
    λ ix. half_other x (taken c.args.past.now) c.in_ok-node.node (sym c.node.ensures ∙ c.in_ok-node.was) (ne_eqb x.kind 5 (λ z. search rules))
    (ne_eqb x.kind 3 (λ z. search rules)) (rw (ne_eqb x.kind 1 (λ z. search rules), ne_eqb x.kind 2 (λ z. search rules)))
