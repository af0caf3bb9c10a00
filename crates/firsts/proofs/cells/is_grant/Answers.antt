-- The two fields are the decoded record's.
use Rattle.firsts.proofs.cells.is_grant.Goals as goal

pub returns : goal.returns
returns c = rw (c.kind.ensures, c.b.ensures)
