-- `write_state`: four stores, and the rows after them.
use Rattle.std.proofs.Common.{◌∙◌}
use Rattle.state_words.proofs.States.{state_written}
use Rattle.state_words.proofs.write_state.Goals as goal

pub returns : goal.returns
returns c =
    let w = c.write_rows.ensures in
    w.is ∙ state_written c.args.state.now c.args.judge c.requires w.many
