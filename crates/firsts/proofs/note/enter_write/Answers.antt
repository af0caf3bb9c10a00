-- One entry, into the bucket of the range and index.
use Rattle.firsts.proofs.Entering.{write_entered}
use Rattle.firsts.proofs.note.enter_write.Goals as goal

pub returns : goal.returns
returns c =
    let b = c in
    let s = b in
    write_entered s.requires.1.0 b.bucket_by_two.ensures.1 c.enter.ensures
    (rw (← b.a.ensures, ← b.b.ensures) b.bucket_by_two.ensures.0)
