-- `name`: the table has the names in turn.
use Rattle.sheet_text.proofs.Names.{lent_at, names_at}
use Rattle.sheet_text.proofs.name.name.Goals as goal

pub returns : goal.returns
returns c = rw lent_at (names_at c.args.check c.requires)
