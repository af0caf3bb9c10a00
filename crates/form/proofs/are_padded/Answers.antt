-- Each place is read where it lies.
use Rattle.std.proofs.lemmas.Iterator.{YieldsList-from_range}
use Rattle.std.proofs.lemmas.Iterator.Consumers.{fold_from_yields_List}
use mathlib.Core.Path.{refl, ◌∙◌}
use mathlib.Core.Bool.{Bool, true, ◌&&◌}
use Prim.Native.Nat.{ℕ, ◌+◌, ◌*◌}
use native.Mathlib.Omega.{arith}
use borrow.Author.Rules.{rules}
use Rattle.record.specs.Limits.{spans_at}
use Rattle.record.specs.Numbers.{part}
use Rattle.form.specs.Form.{padded}
use Rattle.form.proofs.Zeros.{places_fold}
use Rattle.form.proofs.are_padded.Goals as goal

pub returns : goal.returns
returns c =
    let s = c.args.rec.now in
    let test : ℕ → Bool = λ i. padded (part (spans_at + 32 * i) (spans_at + 32 * i + 32) s) in
    fold_from_yields_List _ (λ fit i. fit && test i) true _ c.fold.ensures.ran (YieldsList-from_range 0 c.args.n c.args.n refl (omega arith))
    (λ a x b q k. search rules)
    ∙ places_fold padded s test (λ i. refl) c.args.n
