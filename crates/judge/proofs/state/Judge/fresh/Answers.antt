-- `fresh`: every report is a pass.
use lib.ListN.{replicate}
use Rattle.judge.proofs.state.Judge.fresh.Goals as goal

pub returns : goal.returns
returns c =
    let a = c.args in
    λ i. record { capacity = a.capacity; count = 0; events = 0; opening = a.opening; reports = replicate 8 (c.pass.ensures i) }
