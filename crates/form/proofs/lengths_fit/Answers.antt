-- Each key's length byte is read where its place begins.
use Rattle.std.proofs.lemmas.Iterator.{YieldsList-from_range}
use Rattle.std.proofs.lemmas.Iterator.Consumers.{fold_from_yields_List}
use mathlib.Core.Path.{ap, refl, ◌∙◌}
use mathlib.Core.Bool.{Bool, true, ◌&&◌}
use Prim.Native.Nat.{ℕ, ◌+◌, ◌*◌}
use lib.Dec.{leb}
use lib.ListN.{get_or}
use native.Mathlib.Omega.{arith}
use borrow.Author.Rules.{rules}
use Rattle.record.specs.Limits.{spans_at, key_limit}
use Rattle.form.specs.Form.{length_fits}
use Rattle.form.proofs.Zeros.{places_fold, length_byte}
use Rattle.form.proofs.lengths_fit.Goals as goal

pub returns : goal.returns
returns c =
    let s = c.args.rec.now in
    let test : ℕ → Bool = λ i. leb (get_or s (spans_at + 32 * i) 0) key_limit in
    fold_from_yields_List _ (λ fit i. fit && test i) true _ c.fold.ensures.ran (YieldsList-from_range 0 c.args.n c.args.n refl (omega arith))
    (λ a x b q k. search rules)
    ∙ places_fold length_fits s test (λ i. ap (λ (x : ℕ). leb x key_limit) (length_byte s (spans_at + 32 * i))) c.args.n
