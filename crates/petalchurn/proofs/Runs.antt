-- A host's calls from an opening on are a run of the judge, and so the demands hold of what the host reads back. Assumes nothing.
use mathlib.Core.Path.{◌≡◌, refl, sym, ap, ◌∙◌, subst}
use mathlib.Core.Bool.{Bool, true, false, cond}
use mathlib.Core.List.{List, [], ◌∷◌, ◌++◌}
use Rattle.std.specs.Prelude.{Option, None as missing, Some}
use Prim.Native.Nat.{ℕ, suc, ◌+◌, ◌^◌, ◌≤◌, ◌<◌}
use native.Mathlib.Omega.{arith}
use lib.ListN.{length, get_or, drop, replicate}
use lib.Dec.{eqb}
use borrow.Author.Tests.{eq-eqb}
use Rattle.rules.specs.declared.Opening.{Opening}
use Rattle.rules.specs.declared.Report.{Report}
use Rattle.rules.specs.History.{History}
use Rattle.rules.specs.Reports.{passed}
use Rattle.rules.specs.Checks.{check_count, reports_of}
use Rattle.rows.specs.Rows.{rows_size, report_words, rows_of}
use Rattle.history.specs.Logs.{hist}
use Rattle.decision.specs.Refusals.{outcome_number, fits_by, refusal_after}
use Rattle.intake.specs.Words.{Indexed}
use Rattle.decision.proofs.Suiting.{fits_by_lem}
use Rattle.judge.specs.declared.answer.Reported.{Reported}
use Rattle.judge.specs.declared.lookup.Question.{Question}
use Rattle.judge.specs.declared.state.Judge.{Judge}
use Rattle.std.specs.Prelude.{Ok}
use Rattle.judge.specs.declared.ticket.Ticket.{Ticket}
use Rattle.judge.specs.Tickets.{ticket_of}
use Rattle.judge.specs.States.{State, suits}
use Rattle.judge.specs.Openings.{Fits, fresh_of}
use Rattle.demands.specs.Calls as Judge-calls
use Rattle.demands.specs.Calls.{Call, call_refusal, taken_of, erased}
use Rattle.judge.specs.Lookups.{lends}
use Rattle.judge.specs.Answers.{report_no, ReportedBy}
use Rattle.demands.specs.Runs as Judge-runs
use Rattle.judge.specs.Pushes.{After, state_of}
use Rattle.demands.specs.Runs.{Called, Run, report_at}
use Rattle.demands.specs.Demand2.{Shown, Demand2}
use Rattle.demands.specs.Pieces.{sound_pieces, first_refusal}
use Rattle.judge.proofs.Suiting.{state_suiting}
use Rattle.judge.proofs.Openings.{fresh_after}
use Rattle.demands.proofs.Demand2.{demand2_of}
use Rattle.demands.proofs.Demand3.{Ran, ran, refusal_is, commit_refusal_is, demand3_of}
use Rattle.demands.proofs.Previews.{shown_after, run_erased, run_one}
use Rattle.demands.proofs.Pieces.{whole_trace}
use Rattle.state_words.specs.StateWords.{state_size, state_words, judge_in, state_in}
use Rattle.state_words.proofs.States.{fit_of, some_state, state_words_lem}
use Rattle.state_words.proofs.ReadBack.{state_after, state_fresh}
use Rattle.ticket_bytes.specs.TicketBytes.{count_size, ticket_size}
use Rattle.petalchurn.specs.declared.answer.Answer.{Answer}
use Rattle.petalchurn.specs.Calls.{report_size, trace_size, OpensWords, PushesWords, ReportsWords, trace_words, TracesWords}
use Rattle.petalchurn.specs.Lookups.{AnswersWords, LooksWords}
use Rattle.petalchurn.specs.Previews.{bytes_of_ticket, ticket_in, roomy, PreviewsWords, CommitsWords}
use Rattle.petalchurn.specs.Runs.{Buffers, state_at, HostCall, push, commit, preview, commit_of, calls_of, HostCalls, none as done, more as next, erased_calls, commit_after, LibraryShown, LibraryDemands, refused_piece, LibraryTrace}
use Rattle.petalchurn.proofs.PreviewLaws.{ticket_back}

-- ---- the calls of a host are the judge's

-- what calls from a judge leave: a judge, by a run of the judge's own calls
record Left (j : Judge) (a : Buffers) (cs : List Call) (z : Buffers) : Type 0 where
  judge : Judge
  is : state_in z.state ≡ Some judge
  run : Run Indexed (state_of j a.log a.work) cs (state_of judge z.log z.work)

-- what the calls after a buffer leave, from any judge that stands there after some records
abbrev Rest : Buffers → List Call → Buffers → Type 0
Rest b cs z = (h : History) (j : Judge) → state_in b.state ≡ Some j → After Indexed h (state_of j b.log b.work) → Left j b cs z

-- a call that leaves the words of a judge: that judge has taken some records, so that its words read back as itself
left_more : {a b z : Buffers} (h : History) (j i : Judge) (c : Call) (cs : List Call) → After Indexed h (state_of j a.log a.work)
    → Called Indexed (state_of j a.log a.work) c (state_of i b.log b.work) → b.state ≡ state_words i → Rest b cs z → Left j a (c ∷ cs) z
left_more {a} {b} h j i c cs w p e rest =
    let u = (ran Indexed h w (Judge-runs.more {c = c} p Judge-runs.none)).after in
    let l = rest _ i (ap state_in e ∙ state_after _ (state_of i b.log b.work) u) u in
    record { judge = l.judge; is = l.is; run = Judge-runs.more {c = c} p l.run }

-- a call that leaves the buffers as they stood
left_same : {a b z : Buffers} (h : History) (j : Judge) (cs : List Call) → state_in a.state ≡ Some j
    → After Indexed h (state_of j a.log a.work) → b ≡ a → Rest b cs z → Left j a cs z
left_same {z = z} h j cs e w q rest = subst (λ (x : Buffers). Rest x cs z) q rest h j e w

-- a commit of a ticket; and of a list that is none, which is refused by 10 or 5
refused_number : (b : Bool) {r : ℕ} → r ≡ cond b 10 5 → r ≡ 0 → ⊥
refused_number true e z = omega arith
refused_number false e z = omega arith

left_commit : {a b z : Buffers} (h : History) (j : Judge) (bytes : List ℕ) (r : ℕ) (cs : List Call) → state_in a.state ≡ Some j
    → After Indexed h (state_of j a.log a.work) → CommitsWords a.state a.log a.work bytes r b.state b.log b.work
    → Rest b cs z → (k : Option Ticket) → ticket_in bytes ≡ k → Left j a (commit_of k cs) z
left_commit h j bytes r cs e w q rest (Some k) t =
    let f = q.fit j e k t in
    left_more h j f.judge (Judge-calls.commit k) cs w f.leaves f.words rest
left_commit {a} h j bytes r cs e w q rest missing t =
    let u = q.untouched (refused_number (lends j a.log a.work) (q.short j e t)) in
    left_same h j cs e w (λ i. record { state = u.0 i; log = u.1 i; work = u.2 i }) rest

left_by_lem : {a z : Buffers} {cs : List HostCall} → HostCalls a cs z → Rest a (calls_of cs) z
unfolding calls_of
left_by_lem done h j e w = record { judge = j; is = e; run = Judge-runs.none }
left_by_lem (next {c = push bytes} {cs = cs} n q r) h j e w =
    let f = q.fit j e in
    left_more h j f.judge (Judge-calls.push bytes) (calls_of cs) w f.leaves f.words (left_by_lem r)
left_by_lem (next {c = commit bytes} {cs = cs} n q r) h j e w = left_commit h j bytes n (calls_of cs) e w q (left_by_lem r) (ticket_in bytes) refl
left_by_lem (next {a = a} {b = b} {c = preview bytes} {cs = cs} n q r) h j e w =
    let l = left_same h j (calls_of cs) e w q (left_by_lem r) in
    record { judge = l.judge; is = l.is; run = Judge-runs.more {c = Judge-calls.preview bytes} refl l.run }

module _ (o : Opening) (c : ℕ) (log work state : List ℕ) (r : ℕ) (work' state' : List ℕ) (size : length state ≡ state_size)
    (fits : Fits (length log) (length work) c) (opens : OpensWords o log work state r work' state') (cs : List HostCall) (z : Buffers)
    (calls : HostCalls (record { state = state'; log = log; work = work' }) cs z) where
  -- what the judge's own opening gives
  abbrev opened : State
  opened = state_of (fresh_of c o) log (replicate (length work) 0)

  left : Left (fresh_of c o) (record { state = state'; log = log; work = work' }) (calls_of cs) z
  left =
      let w = opens.opened size c fits in
      left_by_lem calls [] (fresh_of c o) (ap state_in w.2 ∙ state_fresh c o)
      (subst (λ (l : List ℕ). After Indexed [] (state_of (fresh_of c o) log l)) (sym w.1) (fresh_after o c log work fits))

  read : judge_in z.state ≡ left.judge
  read = fit_of z.state (some_state z.state left.is) left.is

  -- A HOST'S CALLS ARE A RUN OF THE JUDGE: from what the judge's opening gives to the judge read from the words
  pub library_run : Run Indexed opened (calls_of cs) (state_at z)
  library_run =
      subst (λ (w : List ℕ). Run Indexed (state_of (fresh_of c o) log w) (calls_of cs) (state_at z)) (opens.opened size c fits).1
      (subst (λ (j : Judge). Run Indexed (state_of (fresh_of c o) log work') (calls_of cs) (state_of j z.log z.work)) (sym read) left.run)

  pub library_ran : Ran Indexed c o (taken_of c (calls_of cs) []) (state_at z)
  library_ran = ran Indexed [] (fresh_after o c log work fits) library_run

-- ---- what is then read and asked

module _ (o : Opening) (c : ℕ) (h : History) (z : Buffers) (is : state_in z.state ≡ Some (judge_in z.state)) (w : Ran Indexed c o h (state_at z)) where
  j : Judge
  j = judge_in z.state

  -- a further push: the judge suits, so 5 is not given
  pushed : (bytes : List ℕ) (r : ℕ) (state' log' work' : List ℕ) → PushesWords z.state z.log z.work bytes r state' log' work'
      → r ≡ refusal_after c h bytes
  unfolding j
  pushed bytes r state' log' work' q =
      (q.fit j is).refusal ∙ refusal_is Indexed h (state_at z) bytes w.after ∙ ap (λ (n : ℕ). refusal_after n h bytes) w.capacity

  -- a further commit
  committed_by : (ticket : List ℕ) (r : ℕ) (state' log' work' : List ℕ) → CommitsWords z.state z.log z.work ticket r state' log' work'
      → (k : Option Ticket) → ticket_in ticket ≡ k → r ≡ commit_after c h k
  unfolding j suits
  committed_by ticket r state' log' work' q missing t = q.short j is t ∙ ap (λ (b : Bool). cond b 10 5) w.after.fits
  committed_by ticket r state' log' work' q (Some k) t =
      (q.fit j is k t).refusal
      ∙ commit_refusal_is Indexed h (state_at z) k w.after
      ∙ ap (λ (n : ℕ). call_refusal n h (Judge-calls.commit k)) w.capacity

  -- the ticket of a record has the count of the records taken, which is of 64 bits
  redeemed : (rec : List ℕ) → commit_after c h (ticket_in (bytes_of_ticket (ticket_of (length h) rec))) ≡ refusal_after c h rec
  redeemed rec =
      let s = state_suiting (state_at z) w.after.fits in
      let m = s.small in
      let l = s.within in
      let n = w.after.count in
      let few : length h < 256 ^ count_size = omega arith in
      ap (commit_after c h) (ticket_back (ticket_of (length h) rec) few)
      ∙ ap (λ (b : Bool). cond b (refusal_after c h rec) 10) (eq-eqb (length h) (length h) refl)

  -- a preview: what it shows is by the records alone
  previewed : (rec reports ticket : List ℕ) (r : ℕ) (reports' ticket' : List ℕ) → roomy reports ticket ≡ true
      → PreviewsWords z.state z.log z.work rec reports ticket r reports' ticket' → LibraryShown o c h rec reports ticket r reports' ticket'
  unfolding j
  previewed rec reports ticket r reports' ticket' room q =
      let f = q.fit room j is in
      let g = subst (λ (n : ℕ). Shown o n h rec r f.shown f.held) w.capacity (shown_after h (state_at z) w.after rec f.shows o w.opening) in
      record {
        refusal = g.refuses;
        rows = f.answer.rows.words ∙ ap (λ (rs : List Report). rows_of rs ++ drop rows_size reports) g.would;
        bytes = f.answer.bytes ∙ ap (λ (k : Ticket). bytes_of_ticket k ++ drop ticket_size ticket) g.holds;
      }

  demand : Demand2 o h (state_at z)
  demand = demand2_of h (state_at z) w.after o w.opening

  -- a report: the call of the judge gives it, and the library writes its words
  reported : (k : ℕ) (out : List ℕ) (r : ℕ) (out' : List ℕ) → k < check_count → report_size ≤ length out → ReportsWords z.state (suc k) out r out'
      → (r ≡ 0) × (out' ≡ report_words (get_or (reports_of o h) k passed) ++ drop report_size out)
  unfolding j
  reported k out r out' l n q =
      let s = state_suiting (state_at z) w.after.fits in
      let fit : fits_by j.capacity j.count ≡ true = fits_by_lem s.small s.within in
      let given : Reported = record { outcome = Ok tt; judge = j; report = report_no j.reports (suc k) } in
      let by : ReportedBy j (suc k) given = record {
        refusal = sym (ap (λ (b : Bool). cond b 0 5) fit);
        judge = refl;
        report = sym (ap (λ (b : Bool). cond b (report_no j.reports (suc k)) passed) fit);
      } in
      let e : report_no j.reports (suc k) ≡ report_at k (state_at z) = (demand.reported k given l by).1 in
      let g = q.given j is fit n in
      (g.0, g.1 ∙ ap (λ (x : Report). report_words x ++ drop report_size out) (e ∙ ap (λ (rs : List Report). get_or rs k passed) demand.reports))

  -- a look-up: the judge suits, and its columns are those of the records taken
  answered : (q : Question) (out out' : List ℕ) (r : Answer) → LooksWords q z.state z.log z.work out out' r → AnswersWords q h out out' r
  unfolding suits j
  answered q out out' r l =
      let taken : hist z.log j.count ≡ h = ap (hist z.log) w.after.count ∙ w.after.taken in
      let indexed = subst (λ (g : History). Indexed j.capacity g z.work) (sym taken) w.after.words in
      subst (λ (g : History). AnswersWords q g out out' r) taken (l.answered j is w.after.fits indexed)

  demands : LibraryDemands o c h z
  demands = record {
    state = is;
    demand2 = demand;
    demand3 = demand3_of Indexed o h (state_at z) w.after w.opening;
    pushed = pushed;
    committed = λ ticket r state' log' work' q. committed_by ticket r state' log' work' q (ticket_in ticket) refl;
    redeemed = redeemed;
    previewed = previewed;
    reported = reported;
    answered = answered;
  }

-- THE DEMANDS, of the library: for every opening without refusal and every list of calls after it, refused ones included
pub library_demands : (o : Opening) (c : ℕ) (log work state : List ℕ) (r : ℕ) (work' state' : List ℕ) → length state ≡ state_size
    → Fits (length log) (length work) c → OpensWords o log work state r work' state'
    → (cs : List HostCall) (z : Buffers) → HostCalls (record { state = state'; log = log; work = work' }) cs z
    → LibraryDemands o c (taken_of c (calls_of cs) []) z
library_demands o c log work state r work' state' n f q cs z p =
    let l = left o c log work state r work' state' n f q cs z p in
    let e = read o c log work state r work' state' n f q cs z p in
    demands o c (taken_of c (calls_of cs) []) z (l.is ∙ ap Some (sym e)) (library_ran o c log work state r work' state' n f q cs z p)

-- ---- previews

-- the judge's calls without their previews are the host's without its own
commit_erased : (k : Option Ticket) (cs : List Call) → erased (commit_of k cs) ≡ commit_of k (erased cs)
unfolding erased
commit_erased missing cs = refl
commit_erased (Some k) cs = refl

calls_erased : (cs : List HostCall) → erased (calls_of cs) ≡ calls_of (erased_calls cs)
unfolding erased calls_of erased_calls
calls_erased [] = refl
calls_erased (push bytes ∷ cs) = ap (λ (l : List Call). Judge-calls.push bytes ∷ l) (calls_erased cs)
calls_erased (commit bytes ∷ cs) = commit_erased (ticket_in bytes) (calls_of cs) ∙ ap (commit_of (ticket_in bytes)) (calls_erased cs)
calls_erased (preview bytes ∷ cs) = calls_erased cs

-- PREVIEWS LEAVE NO MARK, of the library: two lists of calls after one opening that are the same without their previews leave all words
-- and bytes the same
pub library_previews : (o : Opening) (c : ℕ) (log work state : List ℕ) (r : ℕ) (work' state' : List ℕ) → length state ≡ state_size
    → Fits (length log) (length work) c → OpensWords o log work state r work' state'
    → (cs ds : List HostCall) (y z : Buffers) → erased_calls cs ≡ erased_calls ds
    → HostCalls (record { state = state'; log = log; work = work' }) cs y
    → HostCalls (record { state = state'; log = log; work = work' }) ds z → y ≡ z
library_previews o c log work state r work' state' n f q cs ds y z e p v =
    let u = state_of (fresh_of c o) log (replicate (length work) 0) in
    let same : erased (calls_of cs) ≡ erased (calls_of ds) = calls_erased cs ∙ ap calls_of e ∙ sym (calls_erased ds) in
    let run : Run Indexed u (erased (calls_of ds)) (state_at y) =
    subst (λ (l : List Call). Run Indexed u l (state_at y)) same (run_erased (library_run o c log work state r work' state' n f q cs y p)) in
    let other : Run Indexed u (erased (calls_of ds)) (state_at z) = run_erased (library_run o c log work state r work' state' n f q ds z v) in
    let t : state_at y ≡ state_at z = run_one [] (erased (calls_of ds)) (fresh_after o c log work f) run other in
    let words : (b : Buffers) → state_in b.state ≡ Some (judge_in b.state) → b.state ≡ state_words (judge_in b.state) =
    λ b i. state_words_lem b.state (judge_in b.state) i in
    let is = (library_demands o c log work state r work' state' n f q cs y p).state in
    let js = (library_demands o c log work state r work' state' n f q ds z v).state in
    let state = words y is ∙ ap (λ (s : State). state_words s.judge) t ∙ sym (words z js) in
    λ i. record { state = state i; log = (t i).log; work = (t i).work }

-- ---- a whole trace

refused_at : (b : Bool) (n m : ℕ) → cond b 0 (cond b n m) ≡ cond b 0 m
refused_at true n m = refl
refused_at false n m = refl

-- A WHOLE TRACE by the library: where the list has room and the lengths fit a capacity, all that is returned and written is that of
-- the trace's own pieces
pub library_trace : (o : Opening) (c : ℕ) (log work trace out : List ℕ) (r : ℕ) (log' work' out' : List ℕ) → trace_size ≤ length out
    → Fits (length log) (length work) c → TracesWords o log work trace out r log' work' out'
    → LibraryTrace o c trace out r log' work' out'
unfolding trace_words
library_trace o c log work trace out r log' work' out' l f p =
    let g = p.traced l in
    let t = g.0 in
    let w = whole_trace o c log work trace t log' work' f g.1 in
    let n = length (sound_pieces c trace) in
    let at : cond (eqb (outcome_number t.outcome) 0) 0 t.at ≡ refused_piece c trace =
    ap (λ (k : ℕ). cond (eqb k 0) 0 t.at) w.refusal
    ∙ ap (λ (k : ℕ). cond (eqb (first_refusal c trace) 0) 0 k) w.at
    ∙ refused_at (eqb (first_refusal c trace) 0) n (n + 1) in
    record {
      judge = t.judge;
      refusal = g.2 ∙ w.refusal;
      words = g.3
          ∙ ap (λ (k : ℕ). (k ∷ cond (eqb (outcome_number t.outcome) 0) 0 t.at ∷ rows_of t.judge.reports) ++ drop trace_size out) w.count
          ∙ ap (λ (k : ℕ). (n ∷ k ∷ rows_of t.judge.reports) ++ drop trace_size out) at;
      demand2 = w.demand2;
      demand3 = w.demand3;
    }
