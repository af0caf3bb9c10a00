-- `show`: the state's rows copied, then judged by the core with the record, or, under 5, cleared.
use mathlib.Core.Path.{◌≡◌, refl, sym, ◌∙◌}
use native.Mathlib.Omega.{arith}
use lib.Dec.{eqb}
use borrow.Author.Tests.{eqb-true, eq-eqb}
use denote.Enum.Bare.{sameb}
use Rattle.record.proofs.Booleans.{never}
use Rattle.decision.specs.contracts.refusal.Refusal.{the_type as Refusal-type}
use Rattle.decision.specs.declared.refusal.Refusal.{Refusal}
use Rattle.decision.specs.declared.refusal.Refusal.TheVariants.{Length, Kind, Value, Unused, Judge, Full, Opening, Output, Ticket, Event}
use Rattle.decision.specs.Refusals.{refusal_number}
use Rattle.petalchurn.proofs.PreviewLaws.{show_done, show_unfit}
use Rattle.petalchurn.proofs.preview.show.Goals.{then-eq, else-eq}
use Rattle.petalchurn.proofs.preview.show.Goals as goal

-- only the judge's refusal is 5
same_number : (f : Refusal) → sameb Refusal-type f Judge ≡ eqb (refusal_number f) 5
same_number Length = refl
same_number Kind = refl
same_number Value = refl
same_number Unused = refl
same_number Judge = refl
same_number Full = refl
same_number Opening = refl
same_number Output = refl
same_number Ticket = refl
same_number Event = refl

pub returns-in-Ok-clause-shows : goal.returns-in-Ok-clause-shows
returns-in-Ok-clause-shows c =
    let a = c.args in
    show_done a.state.now a.log.now a.work.now a.bytes.now a.reports.now c.requires.0.size c.copy_rows.ensures c.in-Ok.ensures.judges (λ z. omega arith)

-- a refusal: under 5 the rows are cleared, else they are those that the core left
pub returns-after-eq-clause-shows : goal.returns-after-eq-clause-shows
returns-after-eq-clause-shows c =
    let a = c.args in
    let number : c.eq.result ≡ eqb (refusal_number c.in-Err.refusal) 5 = c.eq.ensures ∙ same_number c.in-Err.refusal in
    elim c.if-eq.branch [
      | then-eq w ↦
          let five : refusal_number c.in-Err.refusal ≡ 5 = eqb-true _ 5 (sym number ∙ w.if-eq.true) in
          rw (w.reports-is, five) (show_unfit a.state.now a.log.now a.work.now a.bytes.now a.reports.now c.requires.0.size c.copy_rows.ensures
          c.in-Err.ensures.judges five w.clear.ensures)
      | else-eq w ↦
          rw w.reports-is (show_done a.state.now a.log.now a.work.now a.bytes.now a.reports.now c.requires.0.size c.copy_rows.ensures
          c.in-Err.ensures.judges (λ z. never (eq-eqb _ 5 z) (sym number ∙ w.if-eq.false)))
    ]
