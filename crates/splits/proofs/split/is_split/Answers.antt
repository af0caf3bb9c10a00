-- The parent and the index.
use Rattle.splits.proofs.split.is_split.Goals as goal

pub returns : goal.returns
returns c = rw (c.parent_of.ensures, c.b.ensures)
