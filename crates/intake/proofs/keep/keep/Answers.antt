-- `keep`: noted, and then appended to the same log.
use Rattle.intake.proofs.keep.keep.Goals as goal

pub note-requires : goal.note-requires
note-requires c = (c.requires.bounds, c.requires.room)

pub append-requires : goal.append-requires
append-requires c = c.requires.holds

pub returns : goal.returns
returns c =
    record { appended = c.append.ensures; noted = c.note.ensures }
