-- What the look-ups promise: a refusal's number and a value, 0 where the call is refused.
use Rattle.std.specs.Prelude.{◌≡◌, true, false, cond, List, ◌++◌, ◌⊎◌, ℕ, length, drop, eqb, None, Some}
use Rattle.rules.specs.History.{History}
use Rattle.history.specs.Logs.{hist}
use Rattle.ids_unique.specs.Answers.{too_short}
use Rattle.judge.specs.declared.lookup.Question.{Question}
use Rattle.judge.specs.declared.state.Judge.{Judge}
use Rattle.intake.specs.Words.{Indexed}
use Rattle.judge.specs.Lookups.{value_of, words_of, writes, lends}
use Rattle.petalchurn.specs.declared.answer.Answer.{Answer}
use Rattle.state_words.specs.StateWords.{state_in}

-- an answer with a refusal's number: the value is 0 unless that is 0
abbrev pub answer_of : ℕ → ℕ → Answer
answer_of refusal value = record { refusal = refusal; value = cond (eqb refusal 0) value 0 }

-- the answer of a history: its words at the front of the list, the rest left; where they do not fit 8, 0, and the list as it was
pub record AnswersWords (q : Question) (h : History) (out out' : List ℕ) (r : Answer) : Type 0 where
  pub refusal : r.refusal ≡ cond (too_short (words_of q h) out) 8 0
  pub value : r.value ≡ cond (too_short (words_of q h) out) 0 (value_of q h)
  pub list : out' ≡ cond (too_short (words_of q h) out) out (words_of q h ++ drop (length (words_of q h)) out)

-- a look-up: 5 where the state is none, or does not suit the lengths. Else no 5, and by 8 alone is it refused, and never where the
-- question writes no list, whatever the work area holds. Refused, it leaves the list as it was; and where the columns are those of
-- the log's records, the answer is theirs
pub record LooksWords (q : Question) (state log work out out' : List ℕ) (r : Answer) : Type 0 where
  pub unfit : state_in state ≡ None → r ≡ answer_of 5 0
  pub refused : (j : Judge) → state_in state ≡ Some j → lends j log work ≡ false → r ≡ answer_of 5 0
  pub lent : (j : Judge) → state_in state ≡ Some j → lends j log work ≡ true → (r.refusal ≡ 0) ⊎ (r ≡ answer_of 8 0)
  pub bare : (j : Judge) → state_in state ≡ Some j → lends j log work ≡ true → writes q ≡ false → (r.refusal ≡ 0) × (out' ≡ out)
  pub untouched : (r.refusal ≡ 0 → ⊥) → out' ≡ out
  pub answered : (j : Judge) → state_in state ≡ Some j → lends j log work ≡ true → Indexed j.capacity (hist log j.count) work
      → AnswersWords q (hist log j.count) out out' r
