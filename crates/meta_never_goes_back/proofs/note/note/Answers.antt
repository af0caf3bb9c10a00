-- One word is put, the number of the latest name with the record, and its mark.
use mathlib.Core.Path.{refl}
use Rattle.history.proofs.Logs.{hist_length}
use Rattle.meta_never_goes_back.proofs.Naming.{noted}
use Rattle.meta_never_goes_back.proofs.note.note.Goals as goal

pub returns : goal.returns
returns c =
    let a = c.args in
    let p = c.requires in
    noted (hist_length a.log.now a.count) p.1 p.0.small refl c.name_with-latest.ensures.name c.is_highest-highest.ensures c.word.ensures c.put.ensures
