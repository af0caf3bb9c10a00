-- The kind, the ranges and the indexes.
use Rattle.splits.proofs.split.uses_up.Goals as goal

pub returns : goal.returns
returns c = rw (c.kind.ensures, c.a.ensures, c.a-2.ensures, c.b.ensures, c.b-2.ensures)
