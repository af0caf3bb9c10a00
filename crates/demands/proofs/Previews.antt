-- Previews: what is shown is what the push would leave; and a list of calls leaves the same state without them. Assumes nothing.
use mathlib.Core.Path.{◌≡◌, refl, sym, ap, ◌∙◌, subst}
use mathlib.Core.Bool.{Bool, true, false, cond}
use mathlib.Core.List.{List, [], ◌∷◌}
use Prim.Native.Nat.{ℕ}
use lib.ListN.{length, replicate}
use lib.Dec.{eqb}
use borrow.Author.Tests.{ne_eqb}
use Rattle.record.specs.Records.{decode}
use Rattle.rules.specs.declared.Opening.{Opening}
use Rattle.rules.specs.declared.Report.{Report}
use Rattle.rules.specs.History.{History}
use Rattle.rules.specs.Reports.{passed}
use Rattle.rules.specs.Checks.{check_count, reports_of}
use Rattle.history.proofs.Logs.{appended_one}
use Rattle.intake.specs.Words.{Indexed}
use Rattle.intake.specs.WorkArea.{work_of}
use Rattle.decision.proofs.Decisions.{after_sound}
use Rattle.decision.specs.Refusals.{refusal_after}
use Rattle.judge.specs.declared.opening.Opened.{Opened}
use Rattle.judge.specs.declared.preview.Previewed.{Previewed}
use Rattle.judge.specs.declared.state.Judge.{Judge}
use Rattle.judge.specs.declared.ticket.Ticket.{Ticket}
use Rattle.judge.specs.Tickets.{ticket_of, no_ticket}
use Rattle.judge.specs.Openings.{Fits, Opens}
use Rattle.judge.specs.States.{State, push_refusal, commit_refusal, takes}
use Rattle.demands.specs.Calls.{Call, push, commit, preview, after_call, taken_of, erased}
use Rattle.judge.specs.Pushes.{After, Taken, Takes, Pushed, state_of}
use Rattle.demands.specs.Runs.{Called, Run, none, more}
use Rattle.judge.specs.Previews.{Previews, PreviewedBy}
use Rattle.demands.specs.Demand2.{Shown}
use Rattle.judge.proofs.Openings.{opened_after}
use Rattle.demands.proofs.Demand3.{refusal_is, stepped, previewed_same}
use Rattle.demands.proofs.WorkAfter.{after_words}

-- a call of preview is one of a list of calls: judge, log and work area stand as they were
pub preview_called : (j : Judge) (log work bytes : List ℕ) (r : Previewed) → PreviewedBy j log work bytes r
    → Called Indexed (state_of j log work) (preview bytes) (state_of r.judge log work)
preview_called j log work bytes r p = ap (λ (i : Judge). state_of i log work) p.judge

-- ---- what is shown is what the push would leave

module _ (h : History) (s : State) (a : After Indexed h s) (bytes : List ℕ) {n : ℕ} {rs : List Report} {k : Ticket} (p : Previews s bytes n rs k) where
  -- in a state after some records 5 is not drawn, and the present reports are theirs
  present_reports : takes s bytes ≡ false → rs ≡ s.judge.reports
  present_reports e =
      let r : push_refusal s bytes ≡ refusal_after s.judge.capacity h bytes = refusal_is Indexed h s bytes a in
      let f : eqb (push_refusal s bytes) 5 ≡ false =
      ne_eqb (push_refusal s bytes) 5 (λ x. after_sound bytes s.judge.capacity h (sym r ∙ x)) in
      p.present e ∙ ap (λ (b : Bool). cond b (replicate check_count passed) s.judge.reports) f

  would_by : (b : Bool) → takes s bytes ≡ b → rs ≡ reports_of s.judge.opening (cond b (decode bytes ∷ h) h)
  would_by true e = p.would e h a
  would_by false e = present_reports e ∙ a.reports

  -- by the records alone
  pub shown_after : (o : Opening) → s.judge.opening ≡ o → Shown o s.judge.capacity h bytes n rs k
  shown_after o q =
      let r : push_refusal s bytes ≡ refusal_after s.judge.capacity h bytes = refusal_is Indexed h s bytes a in
      let b : takes s bytes ≡ eqb (refusal_after s.judge.capacity h bytes) 0 = ap (λ (m : ℕ). eqb m 0) r in
      record {
        refuses = p.refuses ∙ r;
        would = would_by (eqb (refusal_after s.judge.capacity h bytes) 0) b
            ∙ ap (λ (i : Opening). reports_of i (after_call s.judge.capacity h (push bytes))) q;
        holds = p.holds
            ∙ ap (λ (d : Bool). cond d (ticket_of s.judge.count bytes) no_ticket) b
            ∙ ap (λ (m : ℕ). cond (eqb (refusal_after s.judge.capacity h bytes) 0) (ticket_of m bytes) no_ticket) a.count;
      }

  pushed_by : {t : State} → Pushed Indexed s bytes t → (b : Bool) → takes s bytes ≡ b → rs ≡ t.judge.reports
  pushed_by q true e =
      let w = q.taken e in
      p.would e h a ∙ sym ((w.after h a).reports ∙ ap (λ (i : Opening). reports_of i (decode bytes ∷ h)) w.opening)
  pushed_by q false e = present_reports e ∙ sym (ap (λ (u : State). u.judge.reports) (q.refused e))

  -- THE REPORTS OF A PREVIEW ARE THOSE OF THE PUSH, refused or not: whatever the push leaves has them
  pub preview_shows : {t : State} → Pushed Indexed s bytes t → rs ≡ t.judge.reports
  preview_shows q = pushed_by q (takes s bytes) refl

-- ---- a list of calls without its previews

-- every list of calls is, in what it leaves, the list without its previews; and the other way round
pub run_erased : {s t : State} {cs : List Call} → Run Indexed s cs t → Run Indexed s (erased cs) t
unfolding erased
run_erased none = none
run_erased (more {c = push bytes} p r) = more {c = push bytes} p (run_erased r)
run_erased (more {c = commit k} p r) = more {c = commit k} p (run_erased r)
run_erased {t = u} (more {c = preview bytes} {cs = cs} p r) = subst (λ (v : State). Run Indexed v (erased cs) u) p (run_erased r)

pub run_previewed : (cs : List Call) {s t : State} → Run Indexed s (erased cs) t → Run Indexed s cs t
unfolding erased
run_previewed [] r = r
run_previewed (push bytes ∷ cs) (more p r) = more {c = push bytes} p (run_previewed cs r)
run_previewed (commit k ∷ cs) (more p r) = more {c = commit k} p (run_previewed cs r)
run_previewed (preview bytes ∷ cs) r = more {c = preview bytes} refl (run_previewed cs r)

-- and takes the same records
pub taken_erased : (cap : ℕ) (cs : List Call) (h : History) → taken_of cap (erased cs) h ≡ taken_of cap cs h
unfolding erased taken_of
taken_erased cap [] h = refl
taken_erased cap (push bytes ∷ cs) h = taken_erased cap cs (after_call cap h (push bytes))
taken_erased cap (commit k ∷ cs) h = taken_erased cap cs (after_call cap h (commit k))
taken_erased cap (preview bytes ∷ cs) h = taken_erased cap cs h ∙ ap (taken_of cap cs) (sym (previewed_same cap h bytes))

-- ---- what a list of calls leaves is one state

module _ (h : History) (s : State) (a : After Indexed h s) where
  -- a record that is taken: every number, report, byte and word has a rule
  taken_one : (bytes : List ℕ) {t u : State} → Taken Indexed s bytes t → Taken Indexed s bytes u → t ≡ u
  taken_one bytes {t} {u} p q =
      let b = p.after h a in
      let d = q.after h a in
      let cap : t.judge.capacity ≡ u.judge.capacity = p.capacity ∙ sym q.capacity in
      let opening : t.judge.opening ≡ u.judge.opening = p.opening ∙ sym q.opening in
      let count : t.judge.count ≡ u.judge.count = p.count ∙ sym q.count in
      let events : t.judge.events ≡ u.judge.events = p.events_are ∙ sym q.events_are in
      let reports : t.judge.reports ≡ u.judge.reports =
      b.reports ∙ ap (λ (i : Opening). reports_of i (decode bytes ∷ h)) opening ∙ sym d.reports in
      let log : t.log ≡ u.log = appended_one p.log q.log in
      let work : t.work ≡ u.work =
      after_words (decode bytes ∷ h) t b ∙ ap (λ (c : ℕ). work_of c (decode bytes ∷ h)) cap ∙ sym (after_words (decode bytes ∷ h) u d) in
      λ i. state_of (record { capacity = cap i; count = count i; events = events i; opening = opening i; reports = reports i }) (log i) (work i)

  takes_one : (bytes : List ℕ) (r : ℕ) {t u : State} → Takes Indexed r s bytes t → Takes Indexed r s bytes u → (b : Bool) → eqb r 0 ≡ b → t ≡ u
  takes_one bytes r p q true e = taken_one bytes (p.taken e) (q.taken e)
  takes_one bytes r p q false e = p.refused e ∙ sym (q.refused e)

  called_one : (c : Call) {t u : State} → Called Indexed s c t → Called Indexed s c u → t ≡ u
  called_one (push bytes) p q = takes_one bytes (push_refusal s bytes) p q (eqb (push_refusal s bytes) 0) refl
  called_one (commit k) p q = takes_one k.rec (commit_refusal s k) p q (eqb (commit_refusal s k) 0) refl
  called_one (preview bytes) p q = p ∙ sym q

pub run_one : (h : History) (cs : List Call) {s t u : State} → After Indexed h s → Run Indexed s cs t → Run Indexed s cs u → t ≡ u
run_one h [] a none none = refl
run_one h (c ∷ cs) {s} {u = u} a (more {t = m} p r) (more {t = n} q v) =
    let e : m ≡ n = called_one h s a c p q in
    run_one (after_call s.judge.capacity h c) cs (stepped Indexed h s m c a p).after r
    (subst (λ (x : State). Run Indexed x cs u) (sym e) v)

-- PREVIEWS LEAVE NO MARK: "Previewing any number of records between two pushes leaves every later report as without them". Two lists
-- of calls from what an opening without refusal gave that are the same without their previews leave the same judge, log and work area,
-- and so every later report, look-up and refusal
pub previews_leave : (n : Opening) (c : ℕ) (log work : List ℕ) (o : Opened) (work' : List ℕ) → Fits (length log) (length work) c
    → Opens n (length log) work o work'
    → (cs ds : List Call) (t u : State) → erased cs ≡ erased ds → Run Indexed (state_of o.judge log work') cs t
    → Run Indexed (state_of o.judge log work') ds u → t ≡ u
previews_leave n c log work o work' f p cs ds t u e r v =
    let s = state_of o.judge log work' in
    run_one [] (erased ds) (opened_after n c log work o work' f p) (subst (λ (l : List Call). Run Indexed s l t) e (run_erased r)) (run_erased v)
