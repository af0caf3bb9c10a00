-- A span that is there has its end at its offset; one that is not has the empty key.
use mathlib.Core.Path.{◌≡◌, sym, ap, ◌∙◌}
use mathlib.Core.Logic.{inl, inr}
use Prim.Native.Nat.{◌+◌, ◌*◌}
use native.Mathlib.Omega.{arith}
use lib.Dec.{leb}
use lib.ListN.{length}
use borrow.Author.Tests.{leb-true, leb-false}
use Rattle.record.specs.Keys.{key_in}
use Rattle.record.specs.Records.{decode}
use Rattle.record.proofs.Booleans.{decide}
use Rattle.record.proofs.Records.{span_end}
use Rattle.rules.proofs.Spans.{end_lacking}
use Rattle.history.proofs.span.end_of.Goals as goal

pub returns : goal.returns
returns c =
    let s = c.args.rec.now in
    let k = c.args.k in
    let n = length (decode s).spans in
    elim (decide (leb n k)) [
      | inl t ↦ ap key_in (c.key_at.ensures ∙ rw t) ∙ end_lacking s k (leb-true n k t)
      | inr f ↦
          let low : 112 + 64 * k + 32 ≡ 144 + 64 * k = omega arith in
          let high : 144 + 64 * k + 32 ≡ 176 + 64 * k = omega arith in
          ap key_in (c.key_at.ensures ∙ rw (f, low, high)) ∙ sym (span_end _ k s (omega (arith, leb-false n k f)))
    ]
