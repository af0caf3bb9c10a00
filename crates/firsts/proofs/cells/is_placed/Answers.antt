-- The three fields are those of the decoded record.
use Rattle.firsts.proofs.cells.is_placed.Goals as goal

pub returns : goal.returns
returns c = rw (c.kind.ensures, c.a.ensures, c.b.ensures)
