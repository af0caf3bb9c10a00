-- No write that counts: nothing changes.
use Rattle.generations_rise.proofs.Notes.{noted_none}
use Rattle.generations_rise.proofs.note.note_as.Goals as goal

pub returns-in-Not : goal.returns-in-Not
returns-in-Not c = λ h n. rw c.in-Not.is (noted_none h _)
