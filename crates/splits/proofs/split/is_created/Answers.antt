-- The kind, the sub-code and the flag.
use Rattle.record.specs.Records.{decode}
use Rattle.splits.proofs.Splits.{created_test}
use Rattle.splits.proofs.split.is_created.Goals as goal

pub returns : goal.returns
returns c =
    created_test (decode c.args.rec.now) c.kind.ensures c.code.ensures c.flag.ensures
