-- By whether there is one.
use mathlib.Core.Path.{sym, ◌∙◌}
use Rattle.history.specs.Pasts.{taken}
use Rattle.rules.proofs.Missing.{missing_none, missing_some}
use Rattle.right_half.proofs.check.lowest_case.Goals as goal

pub returns : goal.returns
returns c =
    let a = c.args in
    λ ix e. missing_some a.kind a.node.0 (taken a.past.now) (sym c.in_ok-right.was ∙ e) (c.missing_case.ensures ix)

pub returns-in_err-right : goal.returns-in_err-right
returns-in_err-right c =
    let a = c.args in
    λ ix e. c.from_residual.ensures ∙ missing_none a.kind a.node.0 (taken a.past.now) (sym c.in_err-right.was ∙ e)
