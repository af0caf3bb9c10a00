-- Refused by the numbers alone; else the report with that number.
use Rattle.std.specs.Prelude.{Ok, Err}
use mathlib.Core.Path.{◌≡◌, sym, ap, ◌∙◌}
use mathlib.Core.Bool.{Bool, true, false, cond}
use Prim.Native.Nat.{ℕ}
use Rattle.rules.specs.declared.Report.{Report}
use Rattle.rules.specs.Reports.{passed}
use Rattle.judge.specs.declared.state.Judge.{Judge}
use Rattle.decision.specs.declared.refusal.Refusal.TheVariants.{Judge as Unfit}
use Rattle.decision.specs.Refusals.{fits_by}
use Rattle.judge.specs.Answers.{report_no, ReportedBy}
use borrow.Author.Tests.{not-true, not-false}
use Rattle.judge.proofs.state.Judge.report.Goals as goal

module _ (j : Judge) (k : ℕ) where
  -- the refusal's number and the report, once the test is known
  number : (b : Bool) → fits_by j.capacity j.count ≡ b → ◌≡◌ {A = ℕ} (cond b 0 5) (cond (fits_by j.capacity j.count) 0 5)
  number b e = ap (λ (x : Bool). cond {A = ℕ} x 0 5) (sym e)

  said : {r : Report} (b : Bool) → fits_by j.capacity j.count ≡ b → r ≡ cond b (report_no j.reports k) passed
      → r ≡ cond (fits_by j.capacity j.count) (report_no j.reports k) passed
  said b e g = g ∙ ap (λ (x : Bool). cond x (report_no j.reports k) passed) (sym e)

  refused : {i : Judge} {r : Report} → i ≡ j → fits_by j.capacity j.count ≡ false → r ≡ passed
      → ReportedBy j k (record { outcome = Err Unfit; judge = i; report = r })
  refused back e g = record { refusal = number false e; judge = back; report = said false e g }

  given : {i : Judge} {r : Report} → i ≡ j → fits_by j.capacity j.count ≡ true → r ≡ report_no i.reports k
      → ReportedBy j k (record { outcome = Ok tt; judge = i; report = r })
  given back e g = record { refusal = number true e; judge = back; report = said true e (g ∙ ap (λ (x : Judge). report_no x.reports k) back) }

pub returns-then-not-fit : goal.returns-then-not-fit
returns-then-not-fit c =
    let a = c.args in
    let f = c.fits-fit in
    refused a.self a.k f.ensures.1 (sym f.ensures.0 ∙ not-true f.result.holds c.if-not-fit.true) c.pass.ensures

pub returns : goal.returns
returns c =
    let a = c.args in
    let f = c.fits-fit in
    given a.self a.k f.ensures.1 (sym f.ensures.0 ∙ not-false f.result.holds c.if-not-fit.false) c.report_no-report.ensures
