-- What the test of refusal 5 says of a state, as facts about numbers. Assumes nothing.
use mathlib.Core.Path.{◌≡◌}
use mathlib.Core.Bool.{true}
use lib.ListN.{length}
use Rattle.decision.proofs.Suiting.{Suiting, suiting}
use Rattle.judge.specs.States.{State, suits}

pub state_suiting : (s : State) → suits s ≡ true → Suiting s.judge.capacity s.judge.count (length s.log) (length s.work)
unfolding suits
state_suiting s e = suiting e
