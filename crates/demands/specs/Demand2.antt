-- The second demand's words: what the judge says after a list of calls, by the records taken.
use Rattle.std.specs.Prelude.{◌≡◌, cond, List, ℕ, suc, ◌<◌, length, eqb}
use Rattle.rules.specs.History.{History}
use Rattle.judge.specs.declared.answer.Reported.{Reported}
use Rattle.judge.specs.declared.lookup.Looked.{Looked}
use Rattle.judge.specs.declared.lookup.Question.{Question}
use Rattle.judge.specs.declared.preview.Previewed.{Previewed}
use Rattle.rules.specs.declared.Opening.{Opening}
use Rattle.rules.specs.Checks.{check_count, reports_of}
use Rattle.judge.specs.States.{State}
use Rattle.judge.specs.Answers.{ReportedBy}
use Rattle.judge.specs.Lookups.{Answered, LookedBy}
use Rattle.demands.specs.Runs.{report_at}
use Rattle.judge.specs.Previews.{PreviewedBy}
use Rattle.rules.specs.declared.Report.{Report}
use Rattle.decision.specs.Refusals.{outcome_number, refusal_after}
use Rattle.judge.specs.declared.ticket.Ticket.{Ticket}
use Rattle.judge.specs.Tickets.{ticket_of, no_ticket}
use Rattle.demands.specs.Calls.{push, after_call}

-- what a preview shows after the records of h, in a judge of this capacity: the table's refusal, the reports of the records that a push
-- would leave, and the ticket of this record or of zeros
pub record Shown (o : Opening) (cap : ℕ) (h : History) (bytes : List ℕ) (refusal : ℕ) (reports : List Report) (ticket : Ticket) : Type 0 where
  pub refuses : refusal ≡ refusal_after cap h bytes
  pub would : reports ≡ reports_of o (after_call cap h (push bytes))
  pub holds : ticket ≡ cond (eqb (refusal_after cap h bytes) 0) (ticket_of (length h) bytes) no_ticket

-- the reports are those of the rules for the records taken; the call for one of them is not refused and gives it; and so is
-- the answer to every question, none refused by 5, and by 8 only where the list is too short for it; and a preview shows what a push
-- would do, by the rules
pub record Demand2 (o : Opening) (h : History) (t : State) : Type 0 where
  pub reports : t.judge.reports ≡ reports_of o h
  pub reported : (k : ℕ) (r : Reported) → k < check_count → ReportedBy t.judge (suc k) r → (outcome_number r.outcome ≡ 0) × (r.report ≡ report_at k t)
  pub answers : (q : Question) (out out' : List ℕ) (r : Looked) → LookedBy q t.judge t.log t.work out out' r → Answered q h out out' r
  pub previewed : (bytes : List ℕ) (r : Previewed) → PreviewedBy t.judge t.log t.work bytes r
      → Shown o t.judge.capacity h bytes (outcome_number r.outcome) r.reports r.ticket
