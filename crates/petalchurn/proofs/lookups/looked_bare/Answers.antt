-- `looked_bare`: an empty list is lent, and comes back empty.
use Rattle.petalchurn.proofs.AnswerLaws.{looked_empty}
use Rattle.petalchurn.proofs.lookups.looked_bare.Goals as goal

pub returns : goal.returns
returns c = looked_empty c.looked.ensures c.looked.auto.out
