-- What a look-up gives: "look-ups test 5, then 8".
use Rattle.std.specs.Prelude.{◌≡◌, Bool, true, false, cond, List, [], ◌++◌, ◌⊎◌, ℕ, length, drop, Some, None}
use Rattle.rules.specs.Answers.{Found}
use Rattle.rules.specs.History.{History}
use Rattle.rules.specs.Descriptors.{before, at, first_at_generation, statements, is_empty}
use Rattle.rules.specs.IdsUnique.{blocks, holders_of}
use Rattle.history.specs.Logs.{hist}
use Rattle.descriptors.specs.Answers.{found_by}
use Rattle.ids_unique.specs.Answers.{Listed, block_words, holder_words, too_short, ListedIn}
use Rattle.judge.specs.declared.lookup.Looked.{Looked}
use Rattle.judge.specs.declared.lookup.Question.{Question}
use Rattle.judge.specs.declared.lookup.Question.TheVariants.{Before, At, FirstAtGeneration, Statements, IsEmpty, HoldersOf, Blocks}
use Rattle.judge.specs.declared.state.Judge.{Judge}
use Rattle.decision.specs.Refusals.{outcome_number}
use Rattle.decision.specs.Refusals.{suits_by}
use Rattle.intake.specs.Words.{Indexed}

-- the number of the record that was found, 0 for none
abbrev pub found_number : Found → ℕ
found_number (Some n) = n
found_number None = 0

-- 1 for what holds, else 0
abbrev pub truth : Bool → ℕ
truth b = cond b 1 0

-- the answer to a question. "These look-ups give the number of the putting record, or none; `statements` and `is_empty` as in the
-- Rust"; `holders_of` and `blocks` "return how many there are"
abbrev pub value_of : Question → History → ℕ
value_of (Before range index) h = found_number (found_by (before range index h))
value_of (At range index) h = found_number (found_by (at range index h))
value_of (FirstAtGeneration range generation) h = found_number (found_by (first_at_generation range generation h))
value_of Statements h = statements h
value_of IsEmpty h = truth (is_empty h)
value_of (HoldersOf id) h = length (holders_of id h)
value_of Blocks h = length (blocks h)

-- the words that it writes: "`holders_of` writes the nodes of the blocks that contain the id, `blocks` three words a block"
abbrev pub words_of : Question → History → List ℕ
words_of (Before range index) h = []
words_of (At range index) h = []
words_of (FirstAtGeneration range generation) h = []
words_of Statements h = []
words_of IsEmpty h = []
words_of (HoldersOf id) h = holder_words (holders_of id h)
words_of Blocks h = block_words (blocks h)

-- the questions that write a list
abbrev pub writes : Question → Bool
writes (Before range index) = false
writes (At range index) = false
writes (FirstAtGeneration range generation) = false
writes Statements = false
writes IsEmpty = false
writes (HoldersOf id) = true
writes Blocks = true

-- what is answered for the records that the columns are of; and whatever they are, a list that is too short stays as it was, and
-- to a question that writes none no list is too short, and it stays as it was
pub record ListedBy (q : Question) (cap : ℕ) (log work : List ℕ) (n : ℕ) (out out' : List ℕ) (r : Listed) : Type 0 where
  pub short : r ≡ None → out' ≡ out
  pub bare : writes q ≡ false → (r ≡ None → ⊥) × (out' ≡ out)
  pub listed : Indexed cap (hist log n) work → ListedIn (words_of q (hist log n)) out out' (value_of q (hist log n)) r

-- a judge with its buffers' lengths draws no refusal 5
abbrev pub lends : Judge → List ℕ → List ℕ → Bool
lends j log work = suits_by j.capacity j.count (length log) (length work)

-- the answer of a history: its words at the front of the list, the rest left; where they do not fit 8, 0, and the list as it was
pub record Answered (q : Question) (h : History) (out out' : List ℕ) (r : Looked) : Type 0 where
  pub refusal : outcome_number r.outcome ≡ cond (too_short (words_of q h) out) 8 0
  pub value : r.value ≡ cond (too_short (words_of q h) out) 0 (value_of q h)
  pub list : out' ≡ cond (too_short (words_of q h) out) out (words_of q h ++ drop (length (words_of q h)) out)

-- refused by 8: no answer, and the list as it was
pub record Short (out out' : List ℕ) (r : Looked) : Type 0 where
  pub refusal : outcome_number r.outcome ≡ 8
  pub value : r.value ≡ 0
  pub list : out' ≡ out

-- what a look-up promises: the judge as it was given; 5, with the answer of no records and the list as it was; else no 5, and at 8
-- the list as it was, and for a question that writes no list no 8 either and the list as it was, whatever the work area holds; and
-- where the columns are those of the log's records, their answer
pub record LookedBy (q : Question) (j : Judge) (log work out out' : List ℕ) (r : Looked) : Type 0 where
  pub judge : r.judge ≡ j
  pub refused : lends j log work ≡ false → (outcome_number r.outcome ≡ 5) × (r.value ≡ value_of q []) × (out' ≡ out)
  pub lent : lends j log work ≡ true → (outcome_number r.outcome ≡ 0) ⊎ Short out out' r
  pub bare : lends j log work ≡ true → writes q ≡ false → (outcome_number r.outcome ≡ 0) × (out' ≡ out)
  pub answered : lends j log work ≡ true → Indexed j.capacity (hist log j.count) work → Answered q (hist log j.count) out out' r
