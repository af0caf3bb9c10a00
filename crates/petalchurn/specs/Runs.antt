-- A host's run, an opening and then calls of the library, and what is claimed of it; and what is claimed of a whole trace.
use Rattle.std.specs.Prelude.{◌≡◌, true, cond, List, [], ◌∷◌, ◌++◌, ℕ, suc, ◌+◌, ◌≤◌, ◌<◌, length, get_or, drop, eqb, Option, None as missing, Some}
use Rattle.rules.specs.declared.Opening.{Opening}
use Rattle.rules.specs.History.{History}
use Rattle.rules.specs.Reports.{passed}
use Rattle.rules.specs.Checks.{check_count, reports_of}
use Rattle.rows.specs.Rows.{rows_size, report_words, rows_of}
use Rattle.intake.specs.Words.{Indexed}
use Rattle.decision.specs.Refusals.{refusal_after}
use Rattle.judge.specs.declared.lookup.Question.{Question}
use Rattle.judge.specs.declared.state.Judge.{Judge}
use Rattle.judge.specs.declared.ticket.Ticket.{Ticket}
use Rattle.judge.specs.Tickets.{ticket_of, no_ticket}
use Rattle.judge.specs.States.{State}
use Rattle.demands.specs.Calls as Judge-calls
use Rattle.demands.specs.Calls.{Call, call_refusal, after_call}
use Rattle.judge.specs.Pushes.{state_of}
use Rattle.demands.specs.Runs.{Demand3}
use Rattle.demands.specs.Demand2.{Demand2}
use Rattle.demands.specs.Pieces.{sound_pieces, first_refusal, records_taken}
use Rattle.state_words.specs.StateWords.{judge_in, state_in}
use Rattle.ticket_bytes.specs.TicketBytes.{ticket_size}
use Rattle.petalchurn.specs.declared.answer.Answer.{Answer}
use Rattle.petalchurn.specs.Calls.{report_size, trace_size, PushesWords, ReportsWords}
use Rattle.petalchurn.specs.Previews.{bytes_of_ticket, ticket_in, roomy, PreviewsWords, CommitsWords}
use Rattle.petalchurn.specs.Lookups.{AnswersWords, LooksWords}

-- the three buffers that a host keeps between calls
pub record Buffers : Type 0 where
  pub state : List ℕ
  pub log : List ℕ
  pub work : List ℕ

-- the judge with its log and work area, read from them
abbrev pub state_at : Buffers → State
state_at b = state_of (judge_in b.state) b.log b.work

-- the calls of a host: `petalchurn_push` and `petalchurn_preview` with any bytes as their record, `petalchurn_commit` with any as its
-- ticket
pub data HostCall : Type 0 where
  push : List ℕ → HostCall
  commit : List ℕ → HostCall
  preview : List ℕ → HostCall

-- the judge's calls that they are: a list too short for a count is no ticket, and its commit no call
abbrev pub commit_of : Option Ticket → List Call → List Call
commit_of missing cs = cs
commit_of (Some k) cs = Judge-calls.commit k ∷ cs

unfoldable pub calls_of : List HostCall → List Call
calls_of [] = []
calls_of (push bytes ∷ cs) = Judge-calls.push bytes ∷ calls_of cs
calls_of (commit bytes ∷ cs) = commit_of (ticket_in bytes) (calls_of cs)
calls_of (preview bytes ∷ cs) = Judge-calls.preview bytes ∷ calls_of cs

-- what a call of the library leaves of the buffers, by what it promises; a preview is lent them for reading only
abbrev pub CalledWords : Buffers → HostCall → ℕ → Buffers → Type 0
CalledWords a (push bytes) r b = PushesWords a.state a.log a.work bytes r b.state b.log b.work
CalledWords a (commit bytes) r b = CommitsWords a.state a.log a.work bytes r b.state b.log b.work
CalledWords a (preview bytes) r b = b ≡ a

-- a list of calls: each gets the buffers as the last one left them, and any bytes as its record or ticket, and whatever it gives,
-- refused or not, the next one follows
pub data HostCalls : Buffers → List HostCall → Buffers → Type 0 where
  none : {b : Buffers} → HostCalls b [] b
  more : {a b z : Buffers} {c : HostCall} {cs : List HostCall} (r : ℕ) → CalledWords a c r b → HostCalls b cs z → HostCalls a (c ∷ cs) z

-- a host's calls without its previews
unfoldable pub erased_calls : List HostCall → List HostCall
erased_calls [] = []
erased_calls (push bytes ∷ cs) = push bytes ∷ erased_calls cs
erased_calls (commit bytes ∷ cs) = commit bytes ∷ erased_calls cs
erased_calls (preview bytes ∷ cs) = erased_calls cs

-- what the table gives a commit after the records of h: 10 where there is no ticket
abbrev pub commit_after : ℕ → History → Option Ticket → ℕ
commit_after c h missing = 10
commit_after c h (Some k) = call_refusal c h (Judge-calls.commit k)

-- what a preview returns and writes after the records of h: the table's refusal; the reports of the records that a push would leave; and
-- the ticket of this record or of zeros
pub record LibraryShown (o : Opening) (c : ℕ) (h : History) (rec reports ticket : List ℕ) (r : ℕ) (reports' ticket' : List ℕ) : Type 0 where
  pub refusal : r ≡ refusal_after c h rec
  pub rows : reports' ≡ rows_of (reports_of o (after_call c h (Judge-calls.push rec))) ++ drop rows_size reports
  pub bytes : ticket' ≡ bytes_of_ticket (cond (eqb (refusal_after c h rec) 0) (ticket_of (length h) rec) no_ticket) ++ drop ticket_size ticket

-- of the buffers after calls that took the records of h, in a judge of capacity c: they hold a judge, of which the second and third
-- demands hold; the number that a further push or commit returns is the table's; a preview shows what a push would do; each of the
-- reports is given, in its words, and is that of the rules; and so is the answer to every question, none refused by 5, and by 8 only
-- where the list is too short for it
pub record LibraryDemands (o : Opening) (c : ℕ) (h : History) (z : Buffers) : Type 0 where
  pub state : state_in z.state ≡ Some (judge_in z.state)
  pub demand2 : Demand2 o h (state_at z)
  pub demand3 : Demand3 Indexed o h (state_at z)
  pub pushed : (bytes : List ℕ) (r : ℕ) (state' log' work' : List ℕ) → PushesWords z.state z.log z.work bytes r state' log' work'
      → r ≡ refusal_after c h bytes
  pub committed : (ticket : List ℕ) (r : ℕ) (state' log' work' : List ℕ) → CommitsWords z.state z.log z.work ticket r state' log' work'
      → r ≡ commit_after c h (ticket_in ticket)
  -- the ticket that a preview writes for a record, committed there, draws what a push of the record draws: never 10
  pub redeemed : (rec : List ℕ) → commit_after c h (ticket_in (bytes_of_ticket (ticket_of (length h) rec))) ≡ refusal_after c h rec
  pub previewed : (rec reports ticket : List ℕ) (r : ℕ) (reports' ticket' : List ℕ) → roomy reports ticket ≡ true
      → PreviewsWords z.state z.log z.work rec reports ticket r reports' ticket'
      → LibraryShown o c h rec reports ticket r reports' ticket'
  pub reported : (k : ℕ) (out : List ℕ) (r : ℕ) (out' : List ℕ) → k < check_count → report_size ≤ length out → ReportsWords z.state (suc k) out r out'
      → (r ≡ 0) × (out' ≡ report_words (get_or (reports_of o h) k passed) ++ drop report_size out)
  pub answered : (q : Question) (out out' : List ℕ) (r : Answer) → LooksWords q z.state z.log z.work out out' r
      → AnswersWords q h out out' r

-- the number of the refused piece of a trace, 0 where none is refused
abbrev pub refused_piece : ℕ → List ℕ → ℕ
refused_piece c trace = cond (eqb (first_refusal c trace) 0) 0 (length (sound_pieces c trace) + 1)

-- what `petalchurn_trace` returns and writes, by the trace's bytes alone: the first refusal; the number of the pieces taken, that of
-- the refused one, and the reports of a judge of which the second and third demands hold, for the records of those pieces
pub record LibraryTrace (o : Opening) (c : ℕ) (trace out : List ℕ) (r : ℕ) (log' work' out' : List ℕ) : Type 0 where
  pub judge : Judge
  pub refusal : r ≡ first_refusal c trace
  pub words : out' ≡ (length (sound_pieces c trace) ∷ refused_piece c trace ∷ rows_of judge.reports) ++ drop trace_size out
  pub demand2 : Demand2 o (records_taken c trace) (state_of judge log' work')
  pub demand3 : Demand3 Indexed o (records_taken c trace) (state_of judge log' work')
