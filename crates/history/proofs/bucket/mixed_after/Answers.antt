-- The mixture of the sum with what `folded` gives.
use Rattle.history.proofs.Mixing.{mixed_after_is}
use Rattle.history.proofs.bucket.mixed_after.Goals as goal

pub returns : goal.returns
returns c = mixed_after_is _ _ c.folded.ensures c.mixed.ensures
