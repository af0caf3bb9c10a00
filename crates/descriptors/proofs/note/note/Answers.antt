-- What the record is told to be is what it is, where the columns are right, and so are the columns with it.
use Rattle.history.proofs.Logs.{hist_length}
use Rattle.history.specs.Logs.{hist}
use Rattle.descriptors.proofs.Noting.{words, noted}
use Rattle.descriptors.proofs.note.note.Goals as goal

pub returns-clause-others : goal.returns-clause-others
returns-clause-others c = λ j h. words c.requires.1 c.requires.0.positive c.requires.0.small c.enter_all.ensures c.put.ensures j h

pub returns-clause-indexed : goal.returns-clause-indexed
returns-clause-indexed c = λ d.
    let n = hist_length c.args.log.now c.args.count in
    let after = rw (c.counts_next-after.ensures.0, c.rises.ensures) at c.word.ensures in
    noted c.requires.1 c.requires.0.positive c.requires.0.small c.enter_all.ensures c.put.ensures
    after (hist c.args.log.now c.args.count) n (c.counts.ensures.counts (hist c.args.log.now c.args.count) n d) (c.told_of-told.ensures d) d
