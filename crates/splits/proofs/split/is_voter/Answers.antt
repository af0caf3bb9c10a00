-- Voter by voter.
use mathlib.Core.Path.{refl, ap, ◌∙◌}
use mathlib.Core.Bool.{Bool}
use Prim.Native.Nat.{ℕ}
use lib.ListN.{get_or}
use native.Mathlib.Omega.{arith}
use lib.Dec.{eqb}
use borrow.Author.Tests.{tests}
use Rattle.std.proofs.Common.{rules}
use Rattle.std.proofs.lemmas.Iterator.{YieldsList-from_range}
use Rattle.std.proofs.lemmas.Iterator.Search.{any_from_yields_List}
use Rattle.record.specs.Records.{decode}
use Rattle.std.specs.List.{list_any, range_with_len}
use Rattle.rules.proofs.Voters.{any_place}
use Rattle.splits.proofs.split.is_voter.Goals as goal

pub returns : goal.returns
returns c =
    let n = c.voter_count.result in
    let test : ℕ → Bool = λ k. eqb (get_or (decode c.args.rec.now).voters k 0) c.args.server.0 in
    any_from_yields_List test _ _ _ c.any.ensures.ran
    (YieldsList-from_range 0 n n refl (omega arith)) (λ k b q e. search (rules, tests))
    ∙ ap (λ (m : ℕ). list_any test (range_with_len 0 m)) c.voter_count.ensures.0
    ∙ any_place (λ v. eqb v c.args.server.0) (decode c.args.rec.now).voters
