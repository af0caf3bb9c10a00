-- The test is whether the two grants are the same.
use Rattle.std.specs.Prelude.{Some}
use mathlib.Core.Path.{ap}
use Rattle.ids_unique.proofs.Cases.{again_same, again_other}
use Rattle.ids_unique.proofs.check.again_case.Goals as goal

pub returns-then-same_grant : goal.returns-then-same_grant
returns-then-same_grant c = again_same _ _ c.same_grant.ensures c.if-same_grant.true

pub returns : goal.returns
returns c = again_other _ _ c.same_grant.ensures c.if-same_grant.false c.b.ensures (ap Some c.new.ensures)
