-- What it registers, by its node's latest record.
use mathlib.Core.Path.{◌∙◌}
use native.Mathlib.Omega.{arith}
use Rattle.record.specs.Records.{decode}
use Rattle.splits.proofs.Finding.{found_none_is, found_some_is}
use Rattle.right_half.proofs.Registering.{unregistered_clear}
use Rattle.right_half.proofs.check.registered_case.Goals as goal

pub returns-in_err-named : goal.returns-in_err-named
returns-in_err-named c =
    let a = c.args in
    let p = a.past.now in
    λ ix m. c.from_residual.ensures
    ∙ unregistered_clear p (decode a.rec.now) (found_none_is _ (c.in_err-named.ensures.names ix a.node m (c.latest_of-last.ensures.latest ix.0)))

pub returns : goal.returns
returns c =
    let a = c.args in
    λ ix m.
    let n = found_some_is _ _ (c.in_ok-named.ensures.names ix a.node m (c.latest_of-last.ensures.latest ix.0)) in
    c.registering_case.ensures ix n.0 (omega (arith, n.1))
