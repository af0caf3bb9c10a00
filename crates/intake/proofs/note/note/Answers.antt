-- `note`: each note leaves the columns of the others.
use mathlib.Core.Path.{◌∙◌}
use Rattle.history.proofs.Logs.{hist_length}
use Rattle.intake.proofs.Notes.{bounds_kept, noted_all}
use Rattle.intake.proofs.note.note.Goals as goal

pub note-requires-2 : goal.note-requires-2
note-requires-2 c =
    let p = c.requires in
    (bounds_kept c.note.ensures.len p.0, p.1)

pub note-requires-3 : goal.note-requires-3
note-requires-3 c =
    let p = c.requires in
    (bounds_kept (c.note-2.ensures.len ∙ c.note.ensures.len) p.0, p.1)

pub note-requires-4 : goal.note-requires-4
note-requires-4 c =
    let p = c.requires in
    (bounds_kept (c.note-3.ensures.len ∙ c.note-2.ensures.len ∙ c.note.ensures.len) p.0, p.1)

pub note-requires-5 : goal.note-requires-5
note-requires-5 c =
    let p = c.requires in
    (bounds_kept (c.note-4.ensures.len ∙ c.note-3.ensures.len ∙ c.note-2.ensures.len ∙ c.note.ensures.len) p.0, p.1)

pub note-requires-6 : goal.note-requires-6
note-requires-6 c =
    let p = c.requires in
    (bounds_kept (c.note-5.ensures.len ∙ c.note-4.ensures.len ∙ c.note-3.ensures.len ∙ c.note-2.ensures.len ∙ c.note.ensures.len) p.0, p.1)

pub returns : goal.returns
returns c =
    let a = c.args in
    let d = c.note-6.ensures in
    noted_all (hist_length a.log.now a.n) c.requires.1 c.note.ensures c.note-2.ensures c.note-3.ensures c.note-4.ensures
    c.note-5.ensures d.len d.others d.indexed
