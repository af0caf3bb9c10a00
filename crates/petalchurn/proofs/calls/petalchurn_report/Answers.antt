-- `petalchurn_report`: no state, a judge's numbers that are none, a list too short; else the report's words.
use mathlib.Core.Path.{refl, sym, ap, ◌∙◌}
use Rattle.decision.specs.Refusals.{outcome_number}
use Rattle.decision.proofs.Decisions.{refuses}
use Rattle.state_words.proofs.States.{state_facts}
use Rattle.petalchurn.proofs.CallLaws.{report_unfit, report_refused, report_short, report_done}
use Rattle.petalchurn.proofs.calls.petalchurn_report.Goals as goal

pub returns-then-not-is_state : goal.returns-then-not-is_state
returns-then-not-is_state c =
    let a = c.args in
    let none = sym c.is_state.ensures ∙ c.if-not-is_state.true in
    rw c.number.ensures (report_unfit a.state.now a.k a.out.now none)

pub read_state-judge-requires : goal.read_state-judge-requires
read_state-judge-requires c = state_facts _ (sym c.is_state.ensures ∙ c.if-not-is_state.false)

pub returns-in-Err : goal.returns-in-Err
returns-in-Err c =
    let a = c.args in
    let some = sym c.is_state.ensures ∙ c.if-not-is_state.false in
    report_refused a.state.now a.k a.out.now c.report-reported.result some c.read_state-judge.ensures c.report-reported.ensures
    (c.number-in-Err.ensures ∙ sym (ap outcome_number c.in-Err.is)) (λ z. refuses c.in-Err.refusal (sym c.number-in-Err.ensures ∙ z))

pub returns-then-out-lt-REPORT_WORDS : goal.returns-then-out-lt-REPORT_WORDS
returns-then-out-lt-REPORT_WORDS c =
    let a = c.args in
    let some = sym c.is_state.ensures ∙ c.if-not-is_state.false in
    rw c.number-then-out-lt-REPORT_WORDS.ensures (report_short a.state.now a.k a.out.now c.report-reported.result some c.read_state-judge.ensures
    c.report-reported.ensures (sym (ap outcome_number c.in_default.is)) refl c.if-out-lt-REPORT_WORDS.true)

pub returns : goal.returns
returns c =
    let a = c.args in
    let some = sym c.is_state.ensures ∙ c.if-not-is_state.false in
    report_done a.state.now a.k a.out.now c.report-reported.result some c.read_state-judge.ensures c.report-reported.ensures
    (sym (ap outcome_number c.in_default.is)) refl c.if-out-lt-REPORT_WORDS.false c.write_report.ensures.0
