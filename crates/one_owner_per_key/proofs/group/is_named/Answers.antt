-- Span by span.
use mathlib.Core.Path.{refl, ◌∙◌}
use mathlib.Core.Bool.{Bool}
use native.Mathlib.Omega.{arith}
use Prim.Native.Nat.{ℕ}
use lib.Dec.{eqb}
use borrow.Author.Tests.{tests}
use Rattle.std.proofs.Common.{rules}
use Rattle.std.proofs.lemmas.Iterator.{YieldsList-from_range}
use Rattle.std.proofs.lemmas.Iterator.Search.{any_from_yields_List}
use Rattle.record.specs.Records.{Span, decode}
use Rattle.rules.specs.History.{holds}
use Rattle.rules.specs.Descriptors.{span_of}
use Rattle.rules.specs.OneOwnerPerKey.{group_of, is_named}
use Rattle.one_owner_per_key.proofs.Spans.{any_spans}
use Rattle.one_owner_per_key.proofs.group.is_named.Goals as goal

abbrev named : ℕ → ℕ → Span → Bool
named tenant range s = holds (λ (g : ℕ). eqb g range) (group_of tenant s.start)

pub returns : goal.returns
unfolding is_named
returns c =
    let x = decode c.args.rec.now in
    let n = c.span_count.result in
    any_from_yields_List (λ k. named c.args.tenant c.args.range (span_of k x)) _ _ _ c.any.ensures.ran (YieldsList-from_range 0 n n refl (omega arith)) (λ k b q e. search (rules, tests))
    ∙ any_spans x (named c.args.tenant c.args.range) n 0 (omega (arith, c.span_count.ensures.0))
