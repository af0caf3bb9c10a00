-- `petalchurn_push`: no state is refused; else what `take_into` gives.
use mathlib.Core.Path.{sym, ◌∙◌}
use Rattle.petalchurn.proofs.CallLaws.{push_unfit}
use Rattle.petalchurn.proofs.calls.petalchurn_push.Goals as goal

pub returns-then-not-is_state : goal.returns-then-not-is_state
returns-then-not-is_state c =
    let a = c.args in
    let none = sym c.is_state.ensures ∙ c.if-not-is_state.true in
    rw c.number.ensures (push_unfit a.state.now a.log.now a.work.now a.rec.now none)

pub take_into-requires : goal.take_into-requires
take_into-requires c =
    sym c.is_state.ensures ∙ c.if-not-is_state.false

pub returns : goal.returns
returns c = c.take_into.ensures
