-- The record's bytes are put in the middle, and no other byte is changed.
use native.Mathlib.Omega.{arith}
use Rattle.history.proofs.Copies.{appended}
use Rattle.history.proofs.log.append.Goals as goal

pub returns : goal.returns
returns c = appended _ _ _ _ _ c.requires (search) (omega arith) c.copy_items.ensures
