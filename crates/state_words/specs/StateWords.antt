-- A judge as the words that a host keeps between calls, a header and the rows of its reports, and the way back.
use Rattle.std.specs.Prelude.{◌≡◌, Bool, cond, ◌&&◌, List, ◌∷◌, ℕ, ◌+◌, length, get_or, eqb, Option, None, Some}
use Rattle.rows.specs.Rows.{rows_size, rows_of, reports_in, KindsFit, kinds_fit}
use Rattle.judge.specs.declared.state.Judge.{Judge}

-- the words before the rows
abbrev pub header_size : ℕ
header_size = 4

-- the words of a judge
abbrev pub state_size : ℕ
state_size = header_size + rows_size

-- capacity, count, events, tenant, then the reports in printing order
unfoldable pub state_words : Judge → List ℕ
state_words j = j.capacity ∷ j.count ∷ j.events ∷ j.opening.tenant ∷ rows_of j.reports

-- the judge that words stand for
unfoldable pub judge_in : List ℕ → Judge
judge_in words = record {
  capacity = get_or words 0 0;
  count = get_or words 1 0;
  events = get_or words 2 0;
  opening = record { tenant = get_or words 3 0 };
  reports = reports_in words header_size;
}

-- words are a state where there are so many of them and each kind is a byte
unfoldable pub is_state : List ℕ → Bool
is_state words = eqb (length words) state_size && kinds_fit words header_size

-- the judge of a state; other words have none
abbrev pub state_in : List ℕ → Option Judge
state_in words = cond (is_state words) (Some (judge_in words)) None

-- the same as facts
pub record IsState (words : List ℕ) : Type 0 where
  pub size : length words ≡ state_size
  pub kinds : KindsFit words header_size
