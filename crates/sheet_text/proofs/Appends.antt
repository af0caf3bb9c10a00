-- Laws of text appended: two texts one after the other are one text, and what a buffer is with one at its front.
use Rattle.std.proofs.Common.{◌≡◌, refl, sym, ap, ◌∙◌, List, [], ◌++◌, ℕ, ◌+◌, ◌≤◌, length, drop, arith, length-append}
use lib.Seq.{sets, sets-eq}
use Rattle.record.proofs.Lists.{sets_append}
use Rattle.sheet_text.specs.declared.text.Text.{Text}
use Rattle.sheet_text.specs.Appends.{Appended}

pub appended_none : {text : Text} → Appended 0 text text []
appended_none {text} = record { same = refl; size = refl; short = omega arith; end = omega arith; is = refl }

pub appended_most : {p q : ℕ} {text text' : Text} {a : List ℕ} → p ≤ q → Appended p text text' a → Appended q text text' a
appended_most l w = record { same = w.same; size = w.size; short = omega (arith, w.short); end = w.end; is = w.is }

-- THE LAW: a text and then another are the one text of both
infixl 60 ◌⨾◌
pub ◌⨾◌ : {p q : ℕ} {text mid text' : Text} {a b : List ℕ} → Appended p text mid a → Appended q mid text' b → Appended (p + q) text text' (a ++ b)
◌⨾◌ {p} {q} {text} {mid} {text'} {a} {b} v w = record {
  same = w.same ∙ v.same;
  size = w.size ∙ v.size;
  short = omega (arith, v.short, w.short, length-append a b);
  end = omega (arith, v.end, w.end, length-append a b);
  is =
      w.is
      ∙ ap (λ (l : List ℕ). sets l mid.end b) v.is
      ∙ ap (λ (n : ℕ). sets (sets text.out.now text.end a) n b) v.end
      ∙ sym (sets_append text.out.now text.end a b);
}

-- at the front, the text and then the rest of the buffer
pub appended_front : {p : ℕ} {text text' : Text} {bytes : List ℕ} → text.end ≡ 0 → p ≤ length text.out.now → Appended p text text' bytes
    → (text'.end ≡ length bytes) × (text'.out.now ≡ bytes ++ drop (length bytes) text.out.now)
appended_front {p} {text} {text'} {bytes} z h w =
    let out = text.out.now in
    let e : 0 + length bytes ≡ length bytes = omega arith in (
      omega (arith, w.end),
      w.is ∙ ap (λ (n : ℕ). sets out n bytes) z ∙ sets-eq bytes out 0 (omega (arith, w.short)) ∙ ap (λ (n : ℕ). bytes ++ drop n out) e,
    )
