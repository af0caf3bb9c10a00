-- `kinds_of`: the list of kinds is the table's, check by check.
use mathlib.Core.Path.{refl}
use Rattle.rules.proofs.Checks.{kinds_listed}
use Rattle.rules.proofs.kinds_of.Goals as goal

pub returns : goal.returns
returns c = kinds_listed _ refl c.args.check c.requires
