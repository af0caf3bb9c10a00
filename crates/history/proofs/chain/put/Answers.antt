-- One store.
use Rattle.history.proofs.Copies.{put_store}
use Rattle.history.proofs.chain.put.Goals as goal

pub returns : goal.returns
returns c = put_store _ _ _ c.requires
