-- What a push and a commit leave: the state after some records, and one record more or nothing moved.
use Rattle.std.specs.Prelude.{◌≡◌, true, false, List, ◌∷◌, ℕ, ◌+◌, length, eqb}
use Rattle.record.specs.Records.{decode}
use Rattle.rules.specs.History.{History}
use Rattle.rules.specs.Events.{events}
use Rattle.rules.specs.Checks.{reports_of}
use Rattle.history.specs.Logs.{hist, Appended}
use Rattle.events.specs.Numbers.{event_in}
use Rattle.intake.specs.Words.{Indexed}
use Rattle.judge.specs.declared.push.Pushed as Answer
use Rattle.judge.specs.declared.state.Judge.{Judge}
use Rattle.judge.specs.declared.ticket.Ticket.{Ticket}
use Rattle.decision.specs.Refusals.{outcome_number}
use Rattle.judge.specs.States.{State, suits, push_refusal, commit_refusal}

-- what the columns of the work area hold after a history, for a capacity
abbrev pub Indexing : Type 1
Indexing = ℕ → History → List ℕ → Type 0

module _ (Indexed : Indexing) where
  -- the state after the records of h were taken, in a judge of its capacity and opening
  pub record After (h : History) (s : State) : Type 0 where
    pub fits : suits s ≡ true
    pub count : s.judge.count ≡ length h
    pub events_are : s.judge.events ≡ events h
    pub taken : hist s.log (length h) ≡ h
    pub reports : s.judge.reports ≡ reports_of s.judge.opening h
    pub words : Indexed s.judge.capacity h s.work

  -- what a push that takes its record leaves: the record in the log and no other byte of it changed, one more in the count and, unless
  -- the record continues, in the events, and the state after one more record where it was the state after those taken
  pub record Taken (s : State) (bytes : List ℕ) (t : State) : Type 0 where
    pub capacity : t.judge.capacity ≡ s.judge.capacity
    pub opening : t.judge.opening ≡ s.judge.opening
    pub count : t.judge.count ≡ s.judge.count + 1
    pub events_are : t.judge.events ≡ event_in s.judge.events (decode bytes)
    pub log : Appended s.log t.log s.judge.count bytes
    pub work : length t.work ≡ length s.work
    pub after : (h : History) → After h s → After (decode bytes ∷ h) t

  -- what a call leaves that takes a record unless it draws the refusal r: "A refusal returns its number and the judge given; all
  -- buffers unchanged"
  pub record Takes (r : ℕ) (s : State) (bytes : List ℕ) (t : State) : Type 0 where
    pub refused : eqb r 0 ≡ false → t ≡ s
    pub taken : eqb r 0 ≡ true → Taken s bytes t

  -- what a push leaves, and a commit
  abbrev pub Pushed : State → List ℕ → State → Type 0
  Pushed s bytes t = Takes (push_refusal s bytes) s bytes t

  abbrev pub Committed : State → Ticket → State → Type 0
  Committed s k t = Takes (commit_refusal s k) s k.rec t

abbrev pub state_of : Judge → List ℕ → List ℕ → State
state_of judge log work = record { judge = judge; log = log; work = work }

-- what a call of push promises: the refusal's number by the table, and what it leaves
pub record PushedBy (j : Judge) (log work bytes : List ℕ) (r : Answer.Pushed) (log' work' : List ℕ) : Type 0 where
  pub refusal : outcome_number r.outcome ≡ push_refusal (state_of j log work) bytes
  pub leaves : Pushed Indexed (state_of j log work) bytes (state_of r.judge log' work')
