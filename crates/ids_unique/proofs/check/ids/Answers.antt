-- No grant, the first at its index, or one again.
use mathlib.Core.Path.{refl}
use native.Mathlib.Omega.{arith}
use Rattle.ids_unique.proofs.Cases.{no_grant_case, first_grant_case, again_case}
use Rattle.ids_unique.proofs.check.ids.Goals as goal

pub returns-then-kind-ne11 : goal.returns-then-kind-ne11
returns-then-kind-ne11 c = λ k j. no_grant_case _ _ c.kind.ensures c.if-kind-ne11.true

pub returns-in-None : goal.returns-in-None
returns-in-None c =
    λ k j. first_grant_case _ _ _ c.b.ensures (c.in-None.ensures.first k) c.kind.ensures c.if-kind-ne11.false refl
    (c.first_case.ensures j)

pub returns-in-Some : goal.returns-in-Some
returns-in-Some c =
    let t = c.in-Some.ensures.found in
    λ k j. again_case _ _ _ c.b.ensures (c.in-Some.ensures.first k) c.kind.ensures c.if-kind-ne11.false
    (omega (arith, t.some))
    t.bytes
    c.again_case.ensures
