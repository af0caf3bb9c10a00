-- Without a node nothing; kind 8 by its spans in their order.
use mathlib.Core.Path.{refl, sym, ◌∙◌}
use native.Mathlib.Omega.{arith}
use borrow.Author.Tests.{tests, eq-eqb, ne_eqb}
use Rattle.std.proofs.Common.{rules}
use Rattle.std.proofs.lemmas.Iterator.{YieldsList-from_range}
use Rattle.record.specs.Records.{decode}
use Rattle.rules.specs.Descriptors.{span_of}
use Rattle.rules.specs.OneOwnerPerKey.{install_fault}
use Rattle.rules.proofs.Owners.{install_unmarked, install_other, install_spans}
use Rattle.history.specs.Logs.{hist}
use Rattle.one_owner_per_key.proofs.Spans.{first_spans, first_from_find_map}
use Rattle.one_owner_per_key.proofs.check.install.Goals as goal

pub returns-in_err-node : goal.returns-in_err-node
returns-in_err-node c =
    let a = c.args in
    λ ix. c.from_residual.ensures
    ∙ install_unmarked (decode a.rec.now) (hist a.past.now.log.now a.past.now.count) a.tenant (sym c.node.ensures ∙ c.in_err-node.was)

pub returns-then-kind-ne8 : goal.returns-then-kind-ne8
returns-then-kind-ne8 c =
    let a = c.args in
    let x = decode a.rec.now in
    λ ix. install_other x (hist a.past.now.log.now a.past.now.count) (sym c.node.ensures ∙ c.in_ok-node.was) a.tenant
    (ne_eqb x.kind 8 (λ e. c.if-kind-ne8.true (c.kind.ensures ∙ e)))

pub returns : goal.returns
returns c =
    let a = c.args in
    let x = decode a.rec.now in
    let h = hist a.past.now.log.now a.past.now.count in
    let n = c.span_count.result in
    let f = install_fault a.tenant x h c.in_ok-node.node.0 in
    λ ix. first_from_find_map _ _ _ (λ k. f (span_of k x)) (λ k r q e. search (rules, tests)) (YieldsList-from_range 0 n n refl (omega arith))
    c.find_map.result c.find_map.ensures.ran c.find_map.ensures.runs
    ∙ first_spans x f n 0 (omega (arith, c.span_count.ensures.0))
    ∙ sym (install_spans x h (sym c.node.ensures ∙ c.in_ok-node.was) a.tenant (eq-eqb x.kind 8 (sym c.kind.ensures ∙ c.if-kind-ne8.false)))
