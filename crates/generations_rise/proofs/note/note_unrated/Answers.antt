-- One entry, into the chain of the firsts.
use Rattle.generations_rise.proofs.Notes.{noted_unrated}
use Rattle.generations_rise.proofs.note.note_unrated.Goals as goal

pub returns : goal.returns
returns c = λ h n. noted_unrated h _ c.requires.1.0 n c.enter_write.ensures
