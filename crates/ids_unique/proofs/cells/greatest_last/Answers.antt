-- The word as of the record before, which the column gives.
use native.Mathlib.Omega.{arith}
use Rattle.ids_unique.proofs.Blocks.{last_is, last_none}
use Rattle.ids_unique.proofs.cells.greatest_last.Goals as goal

pub returns-then-n-eq0 : goal.returns-then-n-eq0
returns-then-n-eq0 c = λ log count l m k. last_none log l m k c.if-n-eq0.true

pub returns-else-n-eq0 : goal.returns-else-n-eq0
returns-else-n-eq0 c = λ log count l m k. last_is log l m k (omega arith)
