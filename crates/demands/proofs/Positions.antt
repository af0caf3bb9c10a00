-- Positions from 1: the records that a list of calls takes begin with an event, so that no fault stands before the first. Assumes nothing.
use mathlib.Core.Path.{◌≡◌, refl, sym, ap, ◌∙◌, subst}
use mathlib.Core.Bool.{Bool, true, false, cond}
use mathlib.Core.List.{List, [], ◌∷◌}
use Prim.Native.Nat.{ℕ, ◌≤◌, ◌<◌}
use native.Mathlib.Omega.{arith}
use lib.ListN.{length, get_or}
use lib.Dec.{eqb}
use borrow.Author.Tests.{eqb-true}
use Rattle.form.specs.Form.{refusal_of}
use Rattle.record.specs.Records.{decode}
use Rattle.rules.specs.Cases.{Case}
use Rattle.rules.specs.declared.Evidence.{Evidence}
use Rattle.rules.specs.declared.Opening.{Opening}
use Rattle.rules.specs.declared.Report.{Report}
use Rattle.rules.specs.History.{History}
use Rattle.rules.specs.Events.{stray}
use Rattle.rules.specs.Reports.{passed, faulted, FirstFault}
use Rattle.rules.specs.Checks.{check_count, check_at, report_by, reports_of}
use Rattle.rules.proofs.Events.{Begun, begun_none, begun_more}
use Rattle.rules.proofs.ByEvents.{Lawful, fault_from_one}
use Rattle.rules.proofs.Checks.{report_at_lem, check_lawful, check_right}
use Rattle.decision.specs.Refusals.{refusal_after}
use Rattle.intake.specs.Words.{Indexed}
use Rattle.decision.proofs.Decisions.{next_zero}
use Rattle.judge.specs.declared.opening.Opened.{Opened}
use Rattle.judge.specs.Openings.{Fits, Opens}
use Rattle.judge.specs.States.{State}
use Rattle.demands.specs.Calls.{Call, push, commit, preview, call_refusal, after_call, taken_of}
use Rattle.demands.specs.Runs.{Run, report_at}
use Rattle.judge.specs.Pushes.{state_of}
use Rattle.demands.proofs.Demand3.{previewed_same, opened_ran}

-- ---- a record that is taken has an event

-- what the table does not refuse is not refused by 11
pub not_stray : (cap : ℕ) (h : History) (bytes : List ℕ) → refusal_after cap h bytes ≡ 0 → stray (decode bytes) h ≡ false
not_stray cap h bytes z = (next_zero (refusal_of bytes) (stray (decode bytes) h) (eqb (length h) cap) (eqb (refusal_of bytes) 0) refl z).1

committed_zero : (b : Bool) (r : ℕ) → cond b r 10 ≡ 0 → r ≡ 0
committed_zero true r z = z
committed_zero false r z = absurd (omega arith)

begun_by : (h : History) (bytes : List ℕ) (r : ℕ) → (r ≡ 0 → stray (decode bytes) h ≡ false) → Begun h
    → (b : Bool) → eqb r 0 ≡ b → Begun (cond b (decode bytes ∷ h) h)
begun_by h bytes r f g true e = begun_more (decode bytes) h g (f (eqb-true r 0 e))
begun_by h bytes r f g false e = g

-- a call, refused or not
called_begun : (cap : ℕ) (h : History) (c : Call) → Begun h → Begun (after_call cap h c)
called_begun cap h (push bytes) g =
    begun_by h bytes (refusal_after cap h bytes) (not_stray cap h bytes) g (eqb (call_refusal cap h (push bytes)) 0) refl
called_begun cap h (commit k) g =
    let r = call_refusal cap h (commit k) in
    begun_by h k.rec r (λ z. not_stray cap h k.rec (committed_zero (eqb k.count (length h)) (refusal_after cap h k.rec) z)) g (eqb r 0) refl
called_begun cap h (preview bytes) g = subst Begun (sym (previewed_same cap h bytes)) g

-- ---- a list of calls

pub taken_begun : (cap : ℕ) (cs : List Call) (h : History) → Begun h → Begun (taken_of cap cs h)
unfolding taken_of
taken_begun cap [] h g = g
taken_begun cap (c ∷ cs) h g = taken_begun cap cs (after_call cap h c) (called_begun cap h c g)

-- after any list of calls into an opened judge, a check's first fault is at an event from 1 on
pub position_from_one : (cap : ℕ) (cs : List Call) {has : History → Type 0} {case_at : History → Case} → Lawful has case_at
    → (n kind : ℕ) (e : Evidence) → FirstFault has case_at (taken_of cap cs []) n kind e → 1 ≤ n
position_from_one cap cs lawful n kind e a = fault_from_one lawful (taken_of cap cs []) n kind e a (taken_begun cap cs [] begun_none)

-- ---- the checks of the table

-- POSITIONS ARE FROM 1: a fault that a report shows, after any list of calls from what an opening without refusal gave
pub report_from_one : (n : Opening) (c : ℕ) (log work : List ℕ) (o : Opened) (work' : List ℕ) → Fits (length log) (length work) c
    → Opens n (length log) work o work' → (cs : List Call) (t : State) → Run Indexed (state_of o.judge log work') cs t
    → (k : ℕ) → k < check_count → (m kind : ℕ) (e : Evidence) → report_at k t ≡ faulted m kind e → 1 ≤ m
report_from_one n c log work o work' f p cs t r k l m kind e q =
    let h = taken_of c cs [] in
    let w = opened_ran n c log work o work' f p cs t r in
    let is : report_at k t ≡ report_by n h (check_at k) =
    ap (λ (rs : List Report). get_or rs k passed) (w.after.reports ∙ ap (λ (i : Opening). reports_of i h) w.opening) ∙ report_at_lem n h k l in
    position_from_one c cs (check_lawful n k l) m kind e ((check_right n h k l).fault_only m kind e (sym is ∙ q))
