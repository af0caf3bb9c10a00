-- The words of the record, and its place in the chain where it has a first grant.
use Rattle.history.proofs.Logs.{hist_length}
use Rattle.ids_unique.proofs.Notes.{marked, noted_first, noted_other}
use Rattle.ids_unique.proofs.note.note.Goals as goal

pub returns-then-first : goal.returns-then-first
returns-then-first c =
    let n = hist_length c.args.log.now c.args.count in
    noted_first n c.requires.1 c.is_full.ensures c.is_first-first.ensures.kind c.is_first-first.ensures.first
    (marked n c.requires.1 c.e.ensures c.link_after-link.ensures c.last_after-last.ensures c.put.ensures c.put-2.ensures)
    c.if-first.true
    c.enter_grant.ensures

pub returns-else-first : goal.returns-else-first
returns-else-first c =
    let n = hist_length c.args.log.now c.args.count in
    noted_other n c.requires.1 c.is_full.ensures c.is_first-first.ensures.kind c.is_first-first.ensures.first
    (marked n c.requires.1 c.e.ensures c.link_after-link.ensures c.last_after-last.ensures c.put.ensures c.put-2.ensures)
    c.if-first.false
