-- The word as of the record before, which the column gives.
use mathlib.Core.Path.{◌∙◌}
use native.Mathlib.Omega.{arith}
use Rattle.ids_unique.proofs.Blocks.{link_is, link_none}
use Rattle.ids_unique.proofs.cells.block_below.Goals as goal

pub returns-then-n-eq0-clause-latest : goal.returns-then-n-eq0-clause-latest
returns-then-n-eq0-clause-latest c = λ log count l m k. link_none log l m k c.if-n-eq0.true

pub returns-else-n-eq0-clause-latest : goal.returns-else-n-eq0-clause-latest
returns-else-n-eq0-clause-latest c = λ log count l m k. c.link.ensures.1 ∙ link_is log l m k (omega arith)
