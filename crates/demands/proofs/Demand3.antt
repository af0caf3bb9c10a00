-- The third demand: for every list of calls into a freshly opened judge, refused ones included, the reports of the history checks
-- are right for the records taken, and after a fault the report stays. Assumes nothing.
use mathlib.Core.Path.{◌≡◌, refl, sym, ap, ◌∙◌, subst}
use mathlib.Core.Bool.{Bool, true, false, cond}
use mathlib.Core.List.{List, [], ◌∷◌, ◌++◌}
use Prim.Native.Nat.{ℕ, ◌<◌}
use lib.ListN.{length, get_or}
use lib.Seq.{append_snoc}
use lib.Dec.{eqb}
use Rattle.record.specs.Records.{TraceRecord, decode}
use Rattle.rules.specs.declared.Opening.{Opening}
use Rattle.rules.specs.declared.Report.{Report}
use Rattle.rules.specs.declared.Verdict.TheVariants.{Faulted}
use Rattle.rules.specs.History.{History}
use Rattle.rules.specs.Reports.{passed, Right, report_of}
use Rattle.rules.specs.Checks.{check_count, check_at, HasBy, case_at, report_by, reports_of}
use Rattle.rules.proofs.Reports.{report_of_stays}
use Rattle.rules.proofs.Checks.{report_at_lem, check_right}
use Rattle.history.specs.Logs.{hist}
use Rattle.decision.specs.Refusals.{refusal_after}
use Rattle.intake.specs.Words.{Indexed}
use Rattle.judge.specs.declared.opening.Opened.{Opened}
use Rattle.judge.specs.declared.state.Judge.{Judge}
use Rattle.judge.specs.Openings.{Fits, Opens}
use Rattle.judge.specs.declared.ticket.Ticket.{Ticket}
use Rattle.judge.specs.States.{State, suits, push_refusal, commit_refusal}
use Rattle.demands.specs.Calls.{Call, push, commit, preview, call_refusal, after_call, taken_of}
use Rattle.judge.specs.Pushes.{Indexing, After, Takes, state_of}
use Rattle.demands.specs.Runs.{Called, Run, none, more, report_at, Claim, Demand3}
use Rattle.judge.proofs.Openings.{opened_after}

-- ---- the records taken

same_by : (b : Bool) (h : History) → cond b h h ≡ h
same_by true h = refl
same_by false h = refl

-- a preview, refused or not, takes none
pub previewed_same : (cap : ℕ) (h : History) (bytes : List ℕ) → after_call cap h (preview bytes) ≡ h
previewed_same cap h bytes = same_by (eqb (call_refusal cap h (preview bytes)) 0) h

-- a list of calls adds to the records taken
record Longer (h g : History) : Type 0 where
  added : History
  is : g ≡ added ++ h

longer_by : (cap : ℕ) (cs : List Call) (h : History) (x : TraceRecord) → ((g : History) → Longer g (taken_of cap cs g))
    → (b : Bool) → Longer h (taken_of cap cs (cond b (x ∷ h) h))
longer_by cap cs h x f true =
    let w = f (x ∷ h) in
    record { added = w.added ++ (x ∷ []); is = w.is ∙ sym (append_snoc w.added x h) }
longer_by cap cs h x f false = f h

longer : (cap : ℕ) (cs : List Call) (h : History) → Longer h (taken_of cap cs h)
unfolding taken_of
longer cap [] h = record { added = []; is = refl }
longer cap (push bytes ∷ cs) h = longer_by cap cs h (decode bytes) (longer cap cs) (eqb (call_refusal cap h (push bytes)) 0)
longer cap (commit k ∷ cs) h = longer_by cap cs h (decode k.rec) (longer cap cs) (eqb (call_refusal cap h (commit k)) 0)
longer cap (preview bytes ∷ cs) h =
    subst (λ (g : History). Longer h (taken_of cap cs g)) (sym (previewed_same cap h bytes)) (longer cap cs h)

-- ---- a list of calls

module _ (Indexed : Indexing) where
  -- in the state after h a push draws the refusal that the table gives after h
  pub refusal_is : (h : History) (s : State) (bytes : List ℕ) → After Indexed h s → push_refusal s bytes ≡ refusal_after s.judge.capacity h bytes
  unfolding push_refusal suits
  refusal_is h s bytes a =
      let taken : hist s.log s.judge.count ≡ h = ap (hist s.log) a.count ∙ a.taken in
      ap (λ (b : Bool). cond b (refusal_after s.judge.capacity (hist s.log s.judge.count) bytes) 5) a.fits
      ∙ ap (λ (g : History). refusal_after s.judge.capacity g bytes) taken

  -- .. and so does a commit
  pub commit_refusal_is : (h : History) (s : State) (k : Ticket) → After Indexed h s
      → commit_refusal s k ≡ call_refusal s.judge.capacity h (commit k)
  unfolding commit_refusal
  commit_refusal_is h s k a =
      ap (λ (b : Bool). cond b (cond (eqb k.count s.judge.count) (push_refusal s k.rec) 10) 5) a.fits
      ∙ ap (λ (n : ℕ). cond (eqb k.count n) (push_refusal s k.rec) 10) a.count
      ∙ ap (λ (r : ℕ). cond (eqb k.count (length h)) r 10) (refusal_is h s k.rec a)

  -- the state after h, of a capacity and an opening
  pub record Ran (cap : ℕ) (o : Opening) (h : History) (t : State) : Type 0 where
    pub after : After Indexed h t
    pub capacity : t.judge.capacity ≡ cap
    pub opening : t.judge.opening ≡ o

  -- what is left of it where nothing moved
  stood : (h : History) (s t : State) → After Indexed h s → t ≡ s → Ran s.judge.capacity s.judge.opening h t
  stood h s t a q = record {
    after = subst (After Indexed h) (sym q) a;
    capacity = ap (λ (u : State). u.judge.capacity) q;
    opening = ap (λ (u : State). u.judge.opening) q;
  }

  -- what a call leaves of it that takes a record unless it is refused
  step : (h : History) (s t : State) (bytes : List ℕ) (r : ℕ) → After Indexed h s → Takes Indexed r s bytes t
      → (b : Bool) → eqb r 0 ≡ b → Ran s.judge.capacity s.judge.opening (cond b (decode bytes ∷ h) h) t
  step h s t bytes r a p true e = record { after = (p.taken e).after h a; capacity = (p.taken e).capacity; opening = (p.taken e).opening }
  step h s t bytes r a p false e = stood h s t a (p.refused e)

  -- what a call leaves of it
  pub stepped : (h : History) (s t : State) (c : Call) → After Indexed h s → Called Indexed s c t
      → Ran s.judge.capacity s.judge.opening (after_call s.judge.capacity h c) t
  stepped h s t (push bytes) a p =
      step h s t bytes (push_refusal s bytes) a p (eqb (refusal_after s.judge.capacity h bytes) 0) (ap (λ (n : ℕ). eqb n 0) (refusal_is h s bytes a))
  stepped h s t (commit k) a p =
      step h s t k.rec (commit_refusal s k) a p (eqb (call_refusal s.judge.capacity h (commit k)) 0)
      (ap (λ (n : ℕ). eqb n 0) (commit_refusal_is h s k a))
  stepped h s t (preview bytes) a p =
      subst (λ (g : History). Ran s.judge.capacity s.judge.opening g t) (sym (previewed_same s.judge.capacity h bytes)) (stood h s t a p)

  -- a list of calls from the state after h leaves the state after the records that it takes
  pub ran : (h : History) {s t : State} {cs : List Call} → After Indexed h s → Run Indexed s cs t
      → Ran s.judge.capacity s.judge.opening (taken_of s.judge.capacity cs h) t
  unfolding taken_of
  ran h a none = record { after = a; capacity = refl; opening = refl }
  ran h {s} {t = u} a (more {t = m} {c = c} {cs = cs} p r) =
      let cap = s.judge.capacity in
      let q = stepped h s m c a p in
      let w = ran (after_call cap h c) q.after r in
      let g = after_call cap h c in
      let e : taken_of m.judge.capacity cs g ≡ taken_of cap cs g = ap (λ (n : ℕ). taken_of n cs g) q.capacity in
      record {
        after = subst (λ (g : History). After Indexed g u) e w.after;
        capacity = w.capacity ∙ q.capacity;
        opening = w.opening ∙ q.opening;
      }

  -- ---- the claims

  module _ (o : Opening) (k : ℕ) (l : k < check_count) where
    reports : (h : History) (t : State) → After Indexed h t → t.judge.opening ≡ o → report_at k t ≡ report_by o h (check_at k)
    reports h t a e =
        ap (λ (rs : List Report). get_or rs k passed) (a.reports ∙ ap (λ (n : Opening). reports_of n h) e) ∙ report_at_lem o h k l

    stays : (h : History) (t : State) → After Indexed h t → t.judge.opening ≡ o → (kind : ℕ) → (report_at k t).verdict ≡ Faulted kind
        → (cs : List Call) (u : State) → Run Indexed t cs u → report_at k u ≡ report_at k t
    stays h t a e kind v cs u r =
        let f = case_at o (check_at k) in
        let w = ran h a r in
        let m = longer t.judge.capacity cs h in
        let before : report_at k t ≡ report_of f h = reports h t a e in
        let after : report_at k u ≡ report_of f (taken_of t.judge.capacity cs h) = reports _ u w.after (w.opening ∙ e) in
        let same : report_of f (m.added ++ h) ≡ report_of f h = report_of_stays f m.added h kind (ap (λ (x : Report). x.verdict) (sym before) ∙ v) in
        after ∙ ap (report_of f) m.is ∙ same ∙ sym before

    claim : (h : History) (t : State) → After Indexed h t → t.judge.opening ≡ o
        → Claim Indexed (HasBy (check_at k).rule o) (case_at o (check_at k)) k h t
    claim h t a e = record {
      right = subst (Right (HasBy (check_at k).rule o) (case_at o (check_at k)) h) (sym (reports h t a e)) (check_right o h k l);
      stays = stays h t a e;
    }

  -- of the state after h
  pub demand3_of : (o : Opening) (h : History) (t : State) → After Indexed h t → t.judge.opening ≡ o → Demand3 Indexed o h t
  demand3_of o h t a e = record { claim = λ k l history. claim o k l h t a e }

-- a list of calls from what an opening without refusal gave leaves the state after the records that it takes
pub opened_ran : (n : Opening) (c : ℕ) (log work : List ℕ) (o : Opened) (work' : List ℕ) → Fits (length log) (length work) c
    → Opens n (length log) work o work'
    → (cs : List Call) (t : State) → Run Indexed (state_of o.judge log work') cs t → Ran Indexed c n (taken_of c cs []) t
opened_ran n c log work o work' f p cs t r =
    let q = (p.opened c f).1 in
    let w = ran Indexed [] (opened_after n c log work o work' f p) r in
    let e : taken_of o.judge.capacity cs [] ≡ taken_of c cs [] = ap (λ (j : Judge). taken_of j.capacity cs []) q in
    record {
      after = subst (λ (g : History). After Indexed g t) e w.after;
      capacity = w.capacity ∙ ap (λ (j : Judge). j.capacity) q;
      opening = w.opening ∙ ap (λ (j : Judge). j.opening) q;
    }

-- THE THIRD DEMAND, of the judge: "Demand 3's list starts from what an opening without refusal gave, whatever the log held". One
-- claim about every list of calls
pub demand3 : (n : Opening) (c : ℕ) (log work : List ℕ) (o : Opened) (work' : List ℕ) → Fits (length log) (length work) c
    → Opens n (length log) work o work'
    → (cs : List Call) (t : State) → Run Indexed (state_of o.judge log work') cs t → Demand3 Indexed n (taken_of c cs []) t
demand3 n c log work o work' f p cs t r =
    let w = opened_ran n c log work o work' f p cs t r in
    demand3_of Indexed n (taken_of c cs []) t w.after w.opening
