-- What is written is computed before, by the history that the columns say.
use Rattle.record.specs.Records.{decode}
use Rattle.splits.proofs.Notes.{noted}
use Rattle.splits.proofs.note.note.Goals as goal

pub returns : goal.returns
returns c =
    let a = c.args in
    noted a.log.now (decode a.rec.now) _ _ c.requires.1 c.cells_of-cells.ensures.within c.cells_of-cells.ensures.cells c.put_cells.ensures c.enter_if.ensures
    c.enter_if-2.ensures
