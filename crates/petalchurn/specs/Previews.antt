-- What the calls promise that preview a record and commit it by its ticket.
use Rattle.std.specs.Prelude.{◌≡◌, Bool, true, false, cond, ◌&&◌, List, ◌++◌, ℕ, length, drop, replicate, leb, Option, None, Some}
use Rattle.rules.specs.declared.Report.{Report}
use Rattle.rules.specs.Reports.{passed}
use Rattle.rules.specs.Checks.{check_count}
use Rattle.rows.specs.Rows.{rows_size, rows_of}
use Rattle.intake.specs.Words.{Indexed}
use Rattle.judge.specs.declared.state.Judge.{Judge}
use Rattle.judge.specs.declared.ticket.Ticket.{Ticket}
use Rattle.judge.specs.Tickets.{ticket_of, no_ticket}
use Rattle.judge.specs.States.{commit_refusal}
use Rattle.judge.specs.Lookups.{lends}
use Rattle.judge.specs.Pushes.{Committed, state_of}
use Rattle.judge.specs.Previews.{ticket_for, Previews}
use Rattle.state_words.specs.StateWords.{state_words, state_in}
use Rattle.ticket_bytes.specs.TicketBytes.{ticket_size, ticket_bytes, has_count, count_in, record_in}

-- a ticket as bytes, and the way back: a list that is too short for a count is no ticket
abbrev pub bytes_of_ticket : Ticket → List ℕ
bytes_of_ticket k = ticket_bytes k.count k.rec

abbrev pub ticket_in : List ℕ → Option Ticket
ticket_in bytes = cond (has_count bytes) (Some (ticket_of (count_in bytes) (record_in bytes))) None

-- ---- a preview

-- reports as words at the front of a list, whose rest is left
pub record RowsIn (list : List ℕ) (shown : List Report) (list' : List ℕ) : Type 0 where
  pub many : length shown ≡ check_count
  pub words : list' ≡ rows_of shown ++ drop rows_size list

-- what is shown of the judge of a state, without the ticket
pub record ShowsWords (state log work rec reports : List ℕ) (r : ℕ) (reports' : List ℕ) : Type 0 where
  pub shown : List Report
  pub rows : RowsIn reports shown reports'
  pub shows : (j : Judge) → state_in state ≡ Some j → Previews (state_of j log work) rec r shown (ticket_for (state_of j log work) rec)

-- both lists have room for what is shown
abbrev pub roomy : List ℕ → List ℕ → Bool
roomy reports ticket = leb rows_size (length reports) && leb ticket_size (length ticket)

-- a preview's answer, at the front of the two lists
pub record AnswerIn (reports ticket : List ℕ) (shown : List Report) (k : Ticket) (reports' ticket' : List ℕ) : Type 0 where
  pub rows : RowsIn reports shown reports'
  pub bytes : ticket' ≡ bytes_of_ticket k ++ drop ticket_size ticket

-- a preview of a judge
pub record PreviewedWords (j : Judge) (log work rec reports ticket : List ℕ) (r : ℕ) (reports' ticket' : List ℕ) : Type 0 where
  pub shown : List Report
  pub held : Ticket
  pub shows : Previews (state_of j log work) rec r shown held
  pub answer : AnswerIn reports ticket shown held reports' ticket'

-- a preview: 8 where a list is too short for its answer, and nothing is written; 5 where the state is none, with passes and a ticket of
-- zeros; else what a preview of its judge shows
pub record PreviewsWords (state log work rec reports ticket : List ℕ) (r : ℕ) (reports' ticket' : List ℕ) : Type 0 where
  pub short : roomy reports ticket ≡ false → (r ≡ 8) × (reports' ≡ reports) × (ticket' ≡ ticket)
  pub unfit : roomy reports ticket ≡ true → state_in state ≡ None
      → (r ≡ 5) × AnswerIn reports ticket (replicate check_count passed) no_ticket reports' ticket'
  pub fit : roomy reports ticket ≡ true → (j : Judge) → state_in state ≡ Some j → PreviewedWords j log work rec reports ticket r reports' ticket'

-- ---- a commit

-- a commit into a judge: the refusal's number by the table, and the words of the judge that it leaves
pub record CommittedWords (j : Judge) (log work : List ℕ) (k : Ticket) (r : ℕ) (state' log' work' : List ℕ) : Type 0 where
  pub refusal : r ≡ commit_refusal (state_of j log work) k
  pub judge : Judge
  pub leaves : Committed Indexed (state_of j log work) k (state_of judge log' work')
  pub words : state' ≡ state_words judge

-- a commit: 5 where the state is none; a list that is no ticket draws 10, after 5; else what a commit into the judge gives. Refused,
-- whatever the words, everything is as it stood
pub record CommitsWords (state log work ticket : List ℕ) (r : ℕ) (state' log' work' : List ℕ) : Type 0 where
  pub unfit : state_in state ≡ None → r ≡ 5
  pub short : (j : Judge) → state_in state ≡ Some j → ticket_in ticket ≡ None → r ≡ cond (lends j log work) 10 5
  pub fit : (j : Judge) → state_in state ≡ Some j → (k : Ticket) → ticket_in ticket ≡ Some k → CommittedWords j log work k r state' log' work'
  pub untouched : (r ≡ 0 → ⊥) → (state' ≡ state) × (log' ≡ log) × (work' ≡ work)
