-- One entry, into the bucket of the index.
use Rattle.firsts.proofs.Entering.{grant_entered}
use Rattle.firsts.proofs.note.enter_grant.Goals as goal

pub returns : goal.returns
returns c =
    let b = c in
    let s = b in
    grant_entered s.requires.1.0 b.bucket_by.ensures.1 c.enter.ensures
    (rw (← b.b.ensures) b.bucket_by.ensures.0)
