-- The second demand: after every list of calls into a freshly opened judge, refused ones included, all reports, every look-up and
-- what every preview shows are those of the rules for the records taken. Assumes nothing.
use mathlib.Core.Path.{◌≡◌, ap, ◌∙◌, subst}
use mathlib.Core.Bool.{Bool, true, cond, ◌&&◌}
use mathlib.Core.List.{List, []}
use Prim.Native.Nat.{ℕ, suc, ◌-◌, ◌<◌}
use native.Mathlib.Omega.{arith}
use lib.ListN.{length, get_or}
use lib.Dec.{leb}
use borrow.Author.Tests.{le-leb}
use Rattle.rules.specs.History.{History}
use Rattle.rules.specs.declared.Opening.{Opening}
use Rattle.rules.specs.Reports.{passed}
use Rattle.rules.specs.Checks.{check_count, reports_of}
use Rattle.judge.specs.declared.opening.Opened.{Opened}
use Rattle.judge.specs.Openings.{Fits, Opens}
use Rattle.judge.specs.States.{State, suits}
use Rattle.decision.specs.Refusals.{fits_by}
use Rattle.intake.specs.Words.{Indexed}
use Rattle.judge.specs.Answers.{report_no}
use Rattle.judge.specs.Lookups.{lends, Answered}
use Rattle.demands.specs.Calls.{Call, taken_of}
use Rattle.judge.specs.Pushes.{After, state_of}
use Rattle.demands.specs.Runs.{Run, report_at}
use Rattle.demands.specs.Demand2.{Demand2}
use Rattle.decision.proofs.Suiting.{fits_by_lem}
use Rattle.judge.proofs.Suiting.{state_suiting}
use Rattle.judge.proofs.Pushes.{held_taken, held_indexed}
use Rattle.demands.proofs.Demand3.{opened_ran}
use Rattle.demands.proofs.Previews.{shown_after}

module _ (h : History) (t : State) (a : After Indexed h t) where
  suited : lends t.judge t.log t.work ≡ true
  unfolding suits
  suited = a.fits

  pub fitting : fits_by t.judge.capacity t.judge.count ≡ true
  fitting = let u = state_suiting t a.fits in fits_by_lem u.small u.within

  -- the call for a report: its number is a check's
  called : (k : ℕ) → k < check_count → report_no t.judge.reports (suc k) ≡ report_at k t
  called k l =
      let a : leb 1 (suc k) ≡ true = le-leb 1 (suc k) (omega arith) in
      let b : leb (suc k) check_count ≡ true = le-leb (suc k) check_count (omega arith) in
      let s : suc k - 1 ≡ k = omega arith in
      λ i. cond (a i && b i) (get_or t.judge.reports (s i) passed) passed

  pub demand2_of : (o : Opening) → t.judge.opening ≡ o → Demand2 o h t
  demand2_of o e = record {
    reports = a.reports ∙ ap (λ (n : Opening). reports_of n h) e;
    reported = λ k r l q. (
      q.refusal ∙ ap (λ (b : Bool). cond b 0 5) fitting,
      q.report ∙ ap (λ (b : Bool). cond b (report_no t.judge.reports (suc k)) passed) fitting ∙ called k l,
    );
    answers = λ q out out' r l. subst (λ (g : History). Answered q g out out' r) (held_taken h t a) (l.answered suited (held_indexed h t a));
    previewed = λ bytes r p. shown_after h t a bytes p.shows o e;
  }

-- THE SECOND DEMAND, of the judge: a list of calls is any, so that every call of a run is the last of one
pub demand2 : (n : Opening) (c : ℕ) (log work : List ℕ) (o : Opened) (work' : List ℕ) → Fits (length log) (length work) c
    → Opens n (length log) work o work'
    → (cs : List Call) (t : State) → Run Indexed (state_of o.judge log work') cs t → Demand2 n (taken_of c cs []) t
demand2 n c log work o work' f p cs t r =
    let w = opened_ran n c log work o work' f p cs t r in
    demand2_of (taken_of c cs []) t w.after n w.opening
