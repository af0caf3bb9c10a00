-- The clamp is the branch.
use native.Mathlib.Omega.{arith}
use borrow.Author.Tests.{lt-ltb, le-ltb}
use Rattle.history.proofs.chain.no_later.Goals as goal

pub returns-then-top-number : goal.returns-then-top-number
returns-then-top-number c = (omega arith, rw (lt-ltb _ _ c.if-top-number.true))

pub returns-else-top-number : goal.returns-else-top-number
returns-else-top-number c = (omega arith, rw (le-ltb _ _ c.if-top-number.false))
