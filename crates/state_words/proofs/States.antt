-- Words read as a judge are that judge's words, and the test of words as facts. Assumes nothing.
use mathlib.Core.Path.{◌≡◌, refl, ap, ◌∙◌}
use mathlib.Core.Bool.{Bool, true, false, cond, ◌&&◌}
use mathlib.Core.List.{List, ◌∷◌}
use Rattle.std.specs.Prelude.{None, Some}
use Prim.Native.Nat.{ℕ, ◌*◌}
use native.Mathlib.Omega.{arith}
use lib.ListN.{length, get_or, drop, set}
use lib.Seq.{sets}
use lib.Dec.{eqb}
use borrow.Author.Tests.{eqb-true, ne_eqb}
use Rattle.rules.specs.Checks.{check_count}
use Rattle.record.proofs.Booleans.{never, and_left, and_right}
use Rattle.rows.specs.Rows.{rows_size, rows_of, kinds_fit}
use Rattle.rows.proofs.Rows.{length_rows}
use Rattle.record.proofs.Lists.{sets_all}
use Rattle.rows.proofs.ReadBack.{kinds_fit_lem}
use Rattle.judge.specs.declared.state.Judge.{Judge}
use Rattle.state_words.specs.StateWords.{header_size, state_size, state_words, judge_in, is_state, state_in, IsState}
use Rattle.state_words.proofs.Headers.{judge_by_lem, words_by, header_read, rows_length}

-- ---- from words to a judge and back to the words

-- words that are as many as a state's are those of the judge that they stand for
pub words_read : (words : List ℕ) → length words ≡ state_size → words ≡ state_words (judge_in words)
words_read words h =
    header_read words (omega arith)
    ∙ words_by (get_or words 0 0) (get_or words 1 0) (get_or words 2 0) (get_or words 3 0) (drop header_size words) (rows_length words h)
    ∙ ap state_words (judge_by_lem words)

-- four stores and the rows after them write a judge's words
pub state_written : (words : List ℕ) (j : Judge) → length words ≡ state_size → length j.reports ≡ check_count
    → sets (set (set (set (set words 0 j.capacity) 1 j.count) 2 j.events) 3 j.opening.tenant) header_size (rows_of j.reports)
    ≡ state_words j
unfolding state_words
state_written words j h e =
    let n : length (rows_of j.reports) ≡ rows_size = length_rows j.reports ∙ ap (λ (k : ℕ). 7 * k) e in
    sets_all words (j.capacity ∷ j.count ∷ j.events ∷ j.opening.tenant ∷ rows_of j.reports) (omega arith)

-- ---- the test, as facts

pub state_facts : (words : List ℕ) → is_state words ≡ true → IsState words
unfolding is_state
state_facts words e = record {
  size = eqb-true (length words) state_size (and_left (eqb (length words) state_size) (kinds_fit words header_size) e);
  kinds = kinds_fit_lem words header_size (and_right (eqb (length words) state_size) (kinds_fit words header_size) e);
}

module _ (words : List ℕ) where
  fit_by : {j : Judge} (b : Bool) → b ≡ true → cond b (Some (judge_in words)) None ≡ Some j → judge_in words ≡ j
  fit_by true t e = cc
  fit_by false t e = never t refl

  -- what a passed test says of the state's judge
  pub fit_of : {j : Judge} → is_state words ≡ true → state_in words ≡ Some j → judge_in words ≡ j
  fit_of t e = fit_by (is_state words) t e

  some_by : {j : Judge} (b : Bool) → cond b (Some (judge_in words)) None ≡ Some j → b ≡ true
  some_by true e = refl
  some_by false e = absurd (let z : ◌≡◌ {A = ℕ} 0 1 = cc in omega arith)

  pub some_state : {j : Judge} → state_in words ≡ Some j → is_state words ≡ true
  some_state e = some_by (is_state words) e

  none_by : (b : Bool) → cond b (Some (judge_in words)) None ≡ None → b ≡ false
  none_by true e = absurd (let z : ◌≡◌ {A = ℕ} 0 1 = cc in omega arith)
  none_by false e = refl

  pub none_state : state_in words ≡ None → is_state words ≡ false
  none_state e = none_by (is_state words) e

-- words of another length are none
pub state_size_lem : (words : List ℕ) → (length words ≡ state_size → ⊥) → is_state words ≡ false
unfolding is_state
state_size_lem words e = ap (λ (b : Bool). b && kinds_fit words header_size) (ne_eqb (length words) state_size e)

-- a state is the words of its judge
pub state_words_lem : (words : List ℕ) (j : Judge) → state_in words ≡ Some j → words ≡ state_words j
state_words_lem words j e =
    let t = some_state words e in
    words_read words (state_facts words t).size ∙ ap state_words (fit_of words t e)
