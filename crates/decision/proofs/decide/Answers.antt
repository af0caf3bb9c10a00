-- Each test is the table's own, in its order.
use mathlib.Core.Path.{◌≡◌, sym, ◌∙◌}
use native.Mathlib.Omega.{arith}
use borrow.Author.Rules.{rules}
use borrow.Author.Tests.{eq-eqb, ne_eqb}
use Rattle.form.proofs.Sound.{wrong_size}
use Rattle.decision.specs.Refusals.{outcome_number}
use Rattle.decision.proofs.Decisions.{drawn, roomed, wrong_kind}
use Rattle.decision.proofs.decide.Goals.{Else-not-suits}
use Rattle.decision.proofs.decide.Goals as goal

pub returns-then-bytes-ne-RECORD_SIZE-clause-refused : goal.returns-then-bytes-ne-RECORD_SIZE-clause-refused
returns-then-bytes-ne-RECORD_SIZE-clause-refused c =
    drawn c.args.cap c.args.count c.args.log.now c.args.words c.args.bytes.now (sym c.suits.ensures ∙ c.if-not-suits.false) (λ z. omega arith)
    (wrong_size _ c.if-bytes-ne-RECORD_SIZE.true)

pub returns-in_err-concerned-clause-refused : goal.returns-in_err-concerned-clause-refused
returns-in_err-concerned-clause-refused c =
    let kind : outcome_number c.from_residual.result ≡ 2 = search rules in
    kind
    ∙ drawn c.args.cap c.args.count c.args.log.now c.args.words c.args.bytes.now (sym c.suits.ensures ∙ c.if-not-suits.false) (λ z. omega arith)
    (wrong_kind _ c.if-bytes-ne-RECORD_SIZE.false c.in_err-concerned.ensures.1)

pub returns-then-count-cap-clause-refused : goal.returns-then-count-cap-clause-refused
returns-then-count-cap-clause-refused c =
    roomed _ _ _ _ _ (sym c.suits.ensures ∙ c.if-not-suits.false) (sym c.in_ok-record.ensures.number) (search rules) (eq-eqb _ _ c.if-count-cap.true)

pub returns-clause-refused : goal.returns-clause-refused
returns-clause-refused c =
    roomed _ _ _ _ _ (sym c.suits.ensures ∙ c.if-not-suits.false) (sym c.in_ok-record.ensures.number) (search rules) (ne_eqb _ _ c.if-count-cap.false)
