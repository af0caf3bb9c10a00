-- The line of one check more, and the cases of what the last line says of a refusal.
use mathlib.Core.Path.{◌≡◌, sym, ap, ◌∙◌}
use mathlib.Core.Bool.{Bool, cond}
use mathlib.Core.List.{List, [], ◌++◌}
use Prim.Native.Nat.{ℕ, ◌+◌, ◌*◌}
use native.Mathlib.Numerals.{add-one}
use native.Mathlib.Omega.{arith}
use lib.ListN.{get_or}
use borrow.Author.Tests.{eq-eqb, ne_eqb}
use Rattle.rules.specs.declared.Report.{Report}
use Rattle.rules.specs.Reports.{passed}
use Rattle.sheet_text.specs.Sheets.{text, spaced, line, name_at, line_size, lines_to, refused_text, last_line}
use Rattle.sheet_text.specs.declared.text.Text.{Text}
use Rattle.sheet_text.specs.Appends.{Appended}
use Rattle.sheet_text.proofs.Appends.{appended_none, appended_most, ◌⨾◌}

-- the lines of no check, of one check more, and of all
pub lines_none : {text : Text} (reports : List Report) → Appended 0 text text (lines_to 0 reports)
unfolding lines_to
lines_none reports = appended_none

pub lines_more : {text mid text' : Text} (reports : List Report) (k : ℕ) → Appended (line_size * k) text mid (lines_to k reports)
    → Appended line_size mid text' (line (name_at k) (get_or reports k passed)) → Appended (line_size * (k + 1)) text text' (lines_to (k + 1) reports)
unfolding lines_to
lines_more reports k v w = rw (add-one k) (appended_most (omega arith) (v ⨾ w))

module _ (refusal position : ℕ) where
  pub refused_none : refusal ≡ 0 → refused_text refusal position ≡ []
  unfolding refused_text
  refused_none e = ap (λ (b : Bool). cond b [] (text " refused" ++ spaced refusal ++ text " at" ++ spaced position)) (eq-eqb refusal 0 e)

  pub refused_some : (refusal ≡ 0 → ⊥) → refused_text refusal position ≡ text " refused" ++ spaced refusal ++ text " at" ++ spaced position
  unfolding refused_text
  refused_some n = ap (λ (b : Bool). cond b [] (text " refused" ++ spaced refusal ++ text " at" ++ spaced position)) (ne_eqb refusal 0 n)

-- without a refusal the last line has no position
pub last_none : (n refusal a b : ℕ) → refusal ≡ 0 → last_line n refusal a ≡ last_line n refusal b
unfolding last_line
last_none n refusal a b e =
    ap (λ (l : List ℕ). text "records" ++ spaced n ++ l ++ text "\n") (refused_none refusal a e ∙ sym (refused_none refusal b e))
