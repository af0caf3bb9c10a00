-- `looked`: no state is refused; else the judge's answer.
use mathlib.Core.Path.{refl, sym, ap, ◌∙◌}
use Prim.Native.Nat.{ℕ}
use Rattle.petalchurn.specs.Lookups.{answer_of}
use Rattle.state_words.proofs.States.{state_facts}
use Rattle.petalchurn.proofs.AnswerLaws.{looked_unfit, looked_done}
use Rattle.petalchurn.proofs.lookups.looked.Goals as goal

pub returns-then-not-is_state : goal.returns-then-not-is_state
returns-then-not-is_state c =
    let a = c.args in
    let none = sym c.is_state.ensures ∙ c.if-not-is_state.true in
    looked_unfit a.question a.state.now a.log.now a.work.now a.out.now none
    (c.answer_of.ensures ∙ ap (λ (n : ℕ). answer_of n 0) c.number.ensures)

pub read_state-judge-requires : goal.read_state-judge-requires
read_state-judge-requires c = state_facts _ (sym c.is_state.ensures ∙ c.if-not-is_state.false)

pub returns : goal.returns
returns c =
    let a = c.args in
    let some = sym c.is_state.ensures ∙ c.if-not-is_state.false in
    looked_done a.question a.state.now a.log.now a.work.now a.out.now c.look_up-given.result some c.read_state-judge.ensures
    c.look_up-given.ensures c.number_of.ensures refl c.answer_of-2.ensures
