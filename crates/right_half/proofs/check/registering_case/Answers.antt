-- The lowest node that lacks the right range of the split that the record registers, if there is one.
use mathlib.Core.Path.{◌≡◌, sym, ap, ◌∙◌}
use Rattle.std.specs.Prelude.{Some}
use Rattle.std.proofs.Common.{rules}
use Rattle.record.specs.Records.{decode}
use Rattle.history.specs.Pasts.{taken}
use Rattle.splits.specs.Splits.{right_named}
use Rattle.right_half.proofs.Registering.{naming, next_registers, found_fault, none_clear}
use Rattle.right_half.proofs.check.registering_case.Goals as goal

pub returns : goal.returns
returns c =
    let p = c.args.past.now in
    let x = decode c.args.rec.now in
    let o = c.numbered in
    let n : decode c.map_or-naming.result.now ≡ naming x o.result = search rules in
    λ ix e l.
    let r = next_registers p x e l o.result o.ensures.found o.ensures.is (c.right_of.ensures ∙ ap (right_named x) n) in
    found_fault x (taken p) r c.in_ok-node.node (sym c.in_ok-node.was ∙ c.lowest_lacking.ensures ix r)
    (ap Some c.new.ensures ∙ rw (c.parent_of-parent.ensures, c.b-index.ensures))

pub returns-in_err-node : goal.returns-in_err-node
returns-in_err-node c =
    let p = c.args.past.now in
    let x = decode c.args.rec.now in
    let o = c.numbered in
    let n : decode c.map_or-naming.result.now ≡ naming x o.result = search rules in
    λ ix e l.
    let r = next_registers p x e l o.result o.ensures.found o.ensures.is (c.right_of.ensures ∙ ap (right_named x) n) in
    c.from_residual.ensures ∙ none_clear x (taken p) r (sym c.in_err-node.was ∙ c.lowest_lacking.ensures ix r)
