-- Each store is in its own column; the cells are those of the record.
use mathlib.Core.Path.{sym, ◌∙◌}
use Rattle.record.specs.Records.{decode}
use Rattle.history.specs.Logs.{hist}
use Rattle.history.proofs.Logs.{hist_length}
use Rattle.one_owner_per_key.proofs.Notes.{noted_unmarked, noted_marked}
use Rattle.one_owner_per_key.proofs.note.note.Goals as goal

pub returns-in_default : goal.returns-in_default
returns-in_default c =
    let a = c.args in
    noted_unmarked a.cap (hist a.log.now a.count) (decode a.rec.now) (sym c.node.ensures ∙ c.in_default.is)
    a.work.now

pub returns : goal.returns
returns c =
    let a = c.args in
    noted_marked a.cap (hist a.log.now a.count) (decode a.rec.now) c.in-Some.node (sym c.node.ensures ∙ c.in-Some.is)
    (hist_length a.log.now a.count) c.requires.1
    c.enter_hold.ensures
    c.node_bucket.ensures
    c.enter.ensures
    c.put.ensures c.put-2.ensures
    c.cells_of-cells.ensures
