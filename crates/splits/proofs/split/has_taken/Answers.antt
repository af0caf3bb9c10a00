-- The kind and the sub-code.
use Rattle.record.proofs.Names.{took_code}
use Rattle.splits.proofs.split.has_taken.Goals as goal

pub returns : goal.returns
returns c = rw (c.kind.ensures, c.code.ensures, took_code)
