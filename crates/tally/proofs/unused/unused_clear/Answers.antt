-- `unused_clear`: record by record, the places after the used ones.
use Rattle.std.proofs.Common.{◌+◌, ◌*◌, arith, rules, tests}
use Rattle.tally.specs.Stored.{all_to, clear_from}
use Rattle.tally.specs.Counts.{place_count, used_places}
use Rattle.tally.specs.Entries.{width, unused_clear}
use Rattle.tally.proofs.Tests.{all_none}
use Rattle.tally.proofs.Used.{used_most}
use Rattle.tally.proofs.Clears.{used_or_zero, record_next}
use Rattle.record.proofs.Ranges.{range_fold, serves_fold}
use Rattle.tally.proofs.unused.unused_clear.Goals as goal

pub fold-requires-clause-callable : goal.fold-requires-clause-callable
fold-requires-clause-callable c = serves_fold (λ p k q called. search rules) (λ p k l m. search (rules, used_most))

pub returns : goal.returns
unfolding unused_clear
returns c =
    let bytes = c.args.tally.now in
    range_fold (λ k. clear_from width bytes (place_count * k + used_places k) (place_count * k + place_count)) 0 9 _ c.fold.ensures.ran (cc)
    (λ p k b q called. search (rules, tests)) (λ n. all_to (place_count * n) (used_or_zero bytes)) (omega arith)
    (all_none (used_or_zero bytes)) (λ k l m. record_next bytes k)
