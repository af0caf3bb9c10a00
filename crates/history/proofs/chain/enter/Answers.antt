-- Two stores at different places: the link after the old head was read, then the head.
use native.Mathlib.Omega.{arith}
use lib.ListN.{length-set}
use Rattle.history.proofs.Copies.{entered_stores}
use Rattle.history.proofs.chain.enter.Goals as goal

pub bounds-work-heads-2 : goal.bounds-work-heads-2
bounds-work-heads-2 c = simp length-set (omega arith)

pub returns : goal.returns
returns c = entered_stores _ _ _ _ _ c.requires.0 c.requires.1.0
