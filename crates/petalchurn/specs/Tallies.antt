-- What the call promises that enters a judge into a tally, and a campaign of such calls.
use Rattle.std.specs.Prelude.{◌≡◌, true, cond, List, [], ◌∷◌, ℕ, ◌<◌, length, eqb, Option, None as missing, Some}
use Rattle.rules.specs.declared.Opening.{Opening}
use Rattle.rules.specs.History.{History}
use Rattle.rules.specs.Checks.{check_count, check_at, HasBy, case_at}
use Rattle.judge.specs.declared.state.Judge.{Judge}
use Rattle.tally.specs.Entries.{tally_size, entry_refusal, left_by}
use Rattle.tally.specs.Campaigns.{Means}
use Rattle.state_words.specs.StateWords.{judge_in, state_in}

-- the number that an entry of a state's words returns, 5 where they are no judge's; and every byte of the tally after it
abbrev pub words_refusal : Option Judge → List ℕ → ℕ
words_refusal missing bytes = 5
words_refusal (Some j) bytes = entry_refusal bytes j

abbrev pub words_left : Option Judge → List ℕ → List ℕ
words_left missing bytes = bytes
words_left (Some j) bytes = left_by bytes j

pub record TalliesWords (state bytes : List ℕ) (r : ℕ) (bytes' : List ℕ) : Type 0 where
  pub refusal : r ≡ words_refusal (state_in state) bytes
  pub tally : bytes' ≡ words_left (state_in state) bytes

-- a call: the words that it was given as a judge, and what it returned
pub record HostEntry : Type 0 where
  pub state : List ℕ
  pub returned : ℕ

-- any list of such calls, refused ones among them: each gets the tally as the last one left it
pub data HostCampaign : List ℕ → List HostEntry → List ℕ → Type 0 where
  none : {bytes : List ℕ} → HostCampaign bytes [] bytes
  more : {bytes mid bytes' : List ℕ} {e : HostEntry} {es : List HostEntry} → TalliesWords e.state bytes e.returned mid
      → HostCampaign mid es bytes' → HostCampaign bytes (e ∷ es) bytes'

-- the judges of those that were not refused
unfoldable pub judges_entered : List HostEntry → List Judge
judges_entered [] = []
judges_entered (e ∷ es) = cond (eqb e.returned 0) (judge_in e.state ∷ judges_entered es) (judges_entered es)

-- of the words that calls after an opening left, which took the records of h: an entry of them into any bytes of a tally's length is
-- never refused by 5; and of each history check they count as a pass exactly when no beginning of h has its fault, and as a fault of
-- a kind exactly when the first fault has that kind
pub record LibraryEntry (o : Opening) (h : History) (state : List ℕ) : Type 0 where
  pub never_unfit : (bytes : List ℕ) (r : ℕ) (bytes' : List ℕ) → length bytes ≡ tally_size → TalliesWords state bytes r bytes'
      → r ≡ 5 → ⊥
  pub means : (k : ℕ) → k < check_count → (check_at k).history ≡ true
      → Means (HasBy (check_at k).rule o) (case_at o (check_at k)) k h (judge_in state)
