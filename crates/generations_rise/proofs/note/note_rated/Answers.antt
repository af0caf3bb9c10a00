-- Two entries and a word, each in columns of their own.
use mathlib.Core.Path.{ap, ◌∙◌}
use Rattle.generations_rise.specs.Columns.{bucket_by_key}
use Rattle.generations_rise.proofs.Notes.{noted_rated}
use Rattle.generations_rise.proofs.note.note_rated.Goals as goal

pub returns : goal.returns
returns c =
    λ h n. noted_rated h _ c.requires.1.0 n c.enter_write.ensures
    (c.bucket_by_key.ensures.0 ∙ ap (bucket_by_key _) c.start_of.ensures)
    c.bucket_by_key.ensures.1
    c.enter.ensures
    c.put.ensures
