-- The two fields are those of the grant.
use Rattle.ids_unique.proofs.note.is_full.Goals as goal

pub returns : goal.returns
returns c = rw (c.d.ensures, c.e.ensures)
