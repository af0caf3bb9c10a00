-- `of_none`: `IsEmpty` holds of no records; every other answer is 0.
use Rattle.judge.proofs.Lookups.{none_empty, none_others}
use Rattle.judge.proofs.lookup.of_none.Goals as goal

pub returns-in-IsEmpty : goal.returns-in-IsEmpty
returns-in-IsEmpty c = none_empty c.args.question c.in-IsEmpty.is

pub returns-in_default : goal.returns-in_default
returns-in_default c = none_others c.args.question c.in_default.not-IsEmpty
