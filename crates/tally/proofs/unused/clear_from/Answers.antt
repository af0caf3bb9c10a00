-- `clear_from`: place by place, the test up to there.
use Rattle.std.proofs.Common.{eqb, rules, tests}
use Rattle.tally.specs.Stored.{number_in, clear_from}
use Rattle.tally.specs.Entries.{width}
use Rattle.tally.proofs.Clears.{clear_none, clear_next}
use Rattle.record.proofs.Ranges.{range_fold}
use Rattle.tally.proofs.unused.clear_from.Goals as goal

pub returns : goal.returns
returns c =
    let a = c.args in
    range_fold (λ i. eqb (number_in width a.tally.now i) 0) a.from a.to _ c.fold.ensures.ran (cc) (λ p i b q called. search (rules, tests))
    (clear_from width a.tally.now a.from) c.requires.0 (clear_none width a.tally.now a.from) (λ i l m. clear_next width a.tally.now a.from i l)
