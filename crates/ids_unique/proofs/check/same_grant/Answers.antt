-- The eight fields are those of the decoded records.
use Rattle.rules.specs.IdsUnique.{grant_eqb}
use Rattle.ids_unique.proofs.check.same_grant.Goals as goal

pub returns : goal.returns
unfolding grant_eqb
returns c =
    rw (
      c.a.ensures,
      c.a-2.ensures,
      c.c.ensures,
      c.c-2.ensures,
      c.d.ensures,
      c.d-2.ensures,
      c.e.ensures,
      c.e-2.ensures,
    )
