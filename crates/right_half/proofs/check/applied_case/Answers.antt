-- A Took of a registered split, or not.
use mathlib.Core.Path.{refl, sym, ◌∙◌}
use native.Mathlib.Omega.{arith}
use Rattle.record.specs.Records.{decode}
use Rattle.history.specs.Pasts.{taken}
use Rattle.rules.proofs.Marks.{by_itself}
use Rattle.right_half.proofs.Checks.{half_unregistered, half_taken}
use Rattle.rules.proofs.Half.{half_untaken}
use Rattle.right_half.proofs.check.applied_case.Goals as goal

pub returns-then-not-has_taken : goal.returns-then-not-has_taken
returns-then-not-has_taken c =
    let a = c.args in
    λ ix m k. half_untaken (decode a.rec.now) (taken a.past.now) a.node m k (sym c.has_taken.ensures ∙ c.if-not-has_taken.true)

pub returns-in_err-split : goal.returns-in_err-split
returns-in_err-split c =
    let a = c.args in
    λ ix m k.
    let e = c.in_err-split.ensures.latest ix ∙ rw (c.a.ensures, c.b.ensures) in
    c.from_residual.ensures
    ∙ half_unregistered (decode a.rec.now) (taken a.past.now) a.node m k (sym c.has_taken.ensures ∙ c.if-not-has_taken.false) e refl

pub returns : goal.returns
returns c =
    let a = c.args in
    λ ix m k.
    let t = sym c.has_taken.ensures ∙ c.if-not-has_taken.false in
    let e = c.in_ok-split.ensures.latest ix ∙ rw (c.a.ensures, c.b.ensures) in
    half_taken (decode a.rec.now) (taken a.past.now) a.node m k t e (λ z. omega (arith, c.in_ok-split.ensures.found.some, z))
    (c.taken_case.ensures ix e (by_itself a.node (decode a.rec.now) m) t)
