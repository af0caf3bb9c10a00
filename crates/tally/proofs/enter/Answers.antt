-- `enter`: the places of the verdicts, the test of the judge, and the entry by numbers.
use Rattle.tally.proofs.Entering.{enters}
use Rattle.tally.proofs.enter.Goals as goal

pub returns : goal.returns
returns c =
    let a = c.args in
    let f = c.fits-fit.ensures in
    enters a.tally.now a.judge _ c.find_places-places.ensures f.0 f.1 c.enter_places-refusal.ensures
