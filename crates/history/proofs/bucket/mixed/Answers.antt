-- The mixture of what `folded` gives.
use Rattle.history.proofs.Mixing.{mixed_is}
use Rattle.history.proofs.bucket.mixed.Goals as goal

pub returns : goal.returns
returns c = mixed_is _ _ c.folded.ensures
