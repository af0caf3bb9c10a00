-- `petalchurn_tally_enter`: no state; else the entry of its judge.
use mathlib.Core.Path.{sym, ◌∙◌}
use Rattle.state_words.proofs.States.{state_facts}
use Rattle.petalchurn.proofs.Campaigns.{tally_unfit, tally_done}
use Rattle.petalchurn.proofs.entry.petalchurn_tally_enter.Goals as goal

pub returns-then-not-is_state : goal.returns-then-not-is_state
returns-then-not-is_state c =
    let a = c.args in
    let none = sym c.is_state.ensures ∙ c.if-not-is_state.true in
    rw c.number.ensures (tally_unfit a.state.now a.tally.now none)

pub read_state-judge-requires : goal.read_state-judge-requires
read_state-judge-requires c = state_facts _ (sym c.is_state.ensures ∙ c.if-not-is_state.false)

pub returns : goal.returns
returns c =
    let a = c.args in
    let some = sym c.is_state.ensures ∙ c.if-not-is_state.false in
    tally_done a.state.now a.tally.now some c.read_state-judge.ensures c.enter-entered.ensures c.number_of.ensures
