-- What a preview shows, and what the calls of preview and commit promise.
use Rattle.std.specs.Prelude.{◌≡◌, true, false, cond, List, ◌∷◌, ℕ, replicate, eqb}
use Rattle.record.specs.Records.{decode}
use Rattle.rules.specs.declared.Report.{Report}
use Rattle.rules.specs.History.{History}
use Rattle.rules.specs.Reports.{passed}
use Rattle.rules.specs.Checks.{check_count, reports_of}
use Rattle.intake.specs.Words.{Indexed}
use Rattle.judge.specs.declared.preview.Previewed.{Previewed}
use Rattle.judge.specs.declared.push.Pushed as Answer
use Rattle.judge.specs.declared.state.Judge.{Judge}
use Rattle.judge.specs.declared.ticket.Ticket.{Ticket}
use Rattle.judge.specs.Tickets.{ticket_of, no_ticket}
use Rattle.decision.specs.Refusals.{outcome_number}
use Rattle.judge.specs.States.{State, push_refusal, commit_refusal, takes}
use Rattle.judge.specs.Pushes.{After, Committed, state_of}

-- under a refusal: "the present reports (eight passes under 5)"
abbrev pub refused_reports : List Report → ℕ → List Report
refused_reports present refusal = cond (eqb refusal 5) (replicate check_count passed) present

-- "a ticket holding the record and the judge's count"; under a refusal "a ticket of zeros"
abbrev pub ticket_for : State → List ℕ → Ticket
ticket_for s bytes = cond (takes s bytes) (ticket_of s.judge.count bytes) no_ticket

-- "a preview returns the eight reports the judge would have, with a ticket holding the record and the judge's count ..; it refuses
-- exactly as a push of that record would, and then gives the present reports (eight passes under 5) and a ticket of zeros"
pub record Previews (s : State) (bytes : List ℕ) (refusal : ℕ) (reports : List Report) (ticket : Ticket) : Type 0 where
  pub refuses : refusal ≡ push_refusal s bytes
  pub would : takes s bytes ≡ true → (h : History) → After Indexed h s → reports ≡ reports_of s.judge.opening (decode bytes ∷ h)
  pub present : takes s bytes ≡ false → reports ≡ refused_reports s.judge.reports (push_refusal s bytes)
  pub holds : ticket ≡ ticket_for s bytes

-- the call: that, and the judge as it was given. Log and work area are lent for reading only
pub record PreviewedBy (j : Judge) (log work bytes : List ℕ) (r : Previewed) : Type 0 where
  pub judge : r.judge ≡ j
  pub shows : Previews (state_of j log work) bytes (outcome_number r.outcome) r.reports r.ticket

-- what a call of commit promises: the refusal's number by the table, and what it leaves
pub record CommittedBy (j : Judge) (log work : List ℕ) (k : Ticket) (r : Answer.Pushed) (log' work' : List ℕ) : Type 0 where
  pub refusal : outcome_number r.outcome ≡ commit_refusal (state_of j log work) k
  pub leaves : Committed Indexed (state_of j log work) k (state_of r.judge log' work')
