-- The tests go in the order of the refusals; a kind of the table has no more voters and spans than there is room for.
use Rattle.std.specs.Prelude.{None}
use mathlib.Core.Path.{◌≡◌, refl, sym, subst, ◌∙◌}
use mathlib.Core.List.{List}
use Prim.Native.Nat.{ℕ}
use lib.ListN.{length, get_or}
use borrow.Author.Rules.{rules}
use Rattle.record.specs.Numbers.{byte_at}
use Rattle.form.specs.KindTable.{shape_of, Shaped}
use Rattle.form.specs.Form.{shaped_refusal, refusal_of}
use Rattle.form.proofs.Shapes.{roomy_kind}
use Rattle.form.proofs.Sound.{wrong_size, by_shape, counted}
use Rattle.form.proofs.record_of.Goals as goal

pub returns-in_default-clause-number : goal.returns-in_default-clause-number
returns-in_default-clause-number c = sym (wrong_size _ (search rules))

-- past the first test there are as many bytes as a record has: what its shape draws, the bytes draw
drawn : (rec : List ℕ) {bytes : List ℕ} → rec ≡ bytes → length rec ≡ 368 → (k : Shaped) → shape_of (byte_at 0 rec) ≡ k → {r : ℕ} → r ≡ shaped_refusal k rec
    → r ≡ refusal_of bytes
drawn rec e l k s {r} h = subst (λ bytes. r ≡ refusal_of bytes) e (h ∙ sym (by_shape rec l k s))

pub returns-in_default-shape_of-clause-number : goal.returns-in_default-shape_of-clause-number
returns-in_default-shape_of-clause-number c =
    drawn c.in-Some.rec.now (search rules) (search rules) None (sym c.shape_of.ensures ∙ c.in_default-shape_of.is) refl

-- the kind byte has the shape at hand: what `shape_of` gave is `Some` of it
pub values_fit-requires : goal.values_fit-requires
values_fit-requires c = (roomy_kind (get_or c.in-Some.rec.now 0 0) _ (sym c.shape_of.ensures ∙ c.in-Some-shape_of.is)).spans

pub returns-then-not-values_fit-clause-number : goal.returns-then-not-values_fit-clause-number
returns-then-not-values_fit-clause-number c =
    drawn c.in-Some.rec.now (search rules) (search rules) _ (sym c.shape_of.ensures ∙ c.in-Some-shape_of.is) (rw (← c.values_fit.ensures, c.if-not-values_fit.true))

pub unused_clear-requires : goal.unused_clear-requires
unused_clear-requires c =
    let s = c.in-Some.rec.now in
    let h = counted s _ (sym c.shape_of.ensures ∙ c.in-Some-shape_of.is) (sym c.values_fit.ensures ∙ c.if-not-values_fit.false) in
    (h.voters, h.spans)

pub returns-then-not-unused_clear-clause-number : goal.returns-then-not-unused_clear-clause-number
returns-then-not-unused_clear-clause-number c =
    drawn c.in-Some.rec.now (search rules) (search rules) _ (sym c.shape_of.ensures ∙ c.in-Some-shape_of.is)
    (rw (← c.values_fit.ensures, c.if-not-values_fit.false, ← c.unused_clear.ensures, c.if-not-unused_clear.true))

pub returns-clause-number : goal.returns-clause-number
returns-clause-number c =
    drawn c.in-Some.rec.now (search rules) (search rules) _ (sym c.shape_of.ensures ∙ c.in-Some-shape_of.is)
    (rw (← c.values_fit.ensures, c.if-not-values_fit.false, ← c.unused_clear.ensures, c.if-not-unused_clear.false))
