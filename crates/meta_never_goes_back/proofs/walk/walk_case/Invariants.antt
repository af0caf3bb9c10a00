-- Piece by piece: the inner loop finds the name that stands at the cursor and where the piece ends.
use Rattle.history.specs.Pasts.{taken, Indexed}
use mathlib.Core.List.{◌∷◌}
use Rattle.record.specs.Keys.{key_in}
use Rattle.record.specs.Records.{decode}
use Rattle.rules.specs.MetaNeverGoesBack.{names}
use Rattle.rules.proofs.KeyLists.{above}
use Rattle.rules.proofs.MetaWalks.{Walked, ends}
use Rattle.meta_never_goes_back.specs.Columns.{MetaIndexed}
use Rattle.meta_never_goes_back.proofs.Seen.{Turn}
use Rattle.meta_never_goes_back.proofs.walk.walk_case.Given as goal

abbrev pub invariant-walk : goal.invariant-walk
invariant-walk l = Indexed MetaIndexed l.past → Walked (decode l.rec) (names (taken l.past)) (key_in l.cur)

abbrev pub decreases-walk : goal.decreases-walk
decreases-walk l = above (key_in l.cur) (key_in l.end ∷ ends (taken l.past))

abbrev pub invariant-loop-next : goal.invariant-loop-next
invariant-loop-next l = Turn l.past l.end l.cur l.standing l.next l.rest
