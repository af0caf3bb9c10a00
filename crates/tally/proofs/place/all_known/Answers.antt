-- `all_known`: what is asked of each place in turn is the test of all.
use Rattle.std.proofs.Common.{◌≡◌, length, ℕ, Bool, true, ◌&&◌, ap, ◌∙◌, ltb, slice_index, rules, tests}
use Rattle.std.proofs.lemmas.Iterator.{YieldsList-from_slice}
use Rattle.std.proofs.lemmas.Iterator.Consumers.{fold_from_yields_List}
use Rattle.record.proofs.Ranges.{fold_all}
use Rattle.rules.specs.Checks.{check_count}
use Rattle.tally.specs.Counts.{place_count}
use Rattle.tally.specs.Stored.{all_to}
use Rattle.tally.specs.Raising.{places_known}
use Rattle.tally.proofs.Tests.{all_list}
use Rattle.tally.proofs.place.all_known.Goals as goal

pub returns : goal.returns
unfolding places_known
returns c =
    let places = c.args.places.now in
    let many : length places ≡ check_count = search rules in
    let known : ℕ → Bool = λ at. ltb at place_count in
    fold_from_yields_List _ (λ p at. p && known at) true _ c.fold.ensures.ran (YieldsList-from_slice places (cc)) (λ p at b q called. search (rules, tests))
    ∙ fold_all known true places
    ∙ all_list known places
    ∙ ap (λ n. all_to n (λ k. known (slice_index places k))) many
