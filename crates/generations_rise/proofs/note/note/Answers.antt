-- What the write counts as, and then the columns.
use Rattle.history.proofs.Logs.{hist_length}
use Rattle.generations_rise.proofs.Notes.{taken}
use Rattle.generations_rise.proofs.note.note.Goals as goal

pub returns : goal.returns
returns c =
    let a = c.args in
    taken _ _ c.counts_as-written.ensures.kind c.counts_as-written.ensures.told (c.note_as.ensures _ (hist_length a.log.now a.count))
