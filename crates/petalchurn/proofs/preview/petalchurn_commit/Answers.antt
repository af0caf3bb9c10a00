-- `petalchurn_commit`: no state, numbers or lengths that do not suit, a count that is not the judge's; else what `take_into` gives.
use mathlib.Core.Path.{sym, ◌∙◌}
use native.Mathlib.Omega.{arith}
use Rattle.state_words.specs.StateWords.{judge_in}
use Rattle.state_words.proofs.States.{state_facts}
use Rattle.ticket_bytes.proofs.TicketBytes.{current_has}
use Rattle.petalchurn.proofs.PreviewLaws.{commit_unfit, commit_unsuited, commit_stale, commit_done}
use Rattle.petalchurn.proofs.preview.petalchurn_commit.Goals as goal

pub returns-then-not-is_state : goal.returns-then-not-is_state
returns-then-not-is_state c =
    let a = c.args in
    let none = sym c.is_state.ensures ∙ c.if-not-is_state.true in
    rw c.number.ensures (commit_unfit a.state.now a.log.now a.work.now a.ticket.now none)

pub bounds-state-0 : goal.bounds-state-0
bounds-state-0 c = let e = (state_facts c.args.state.now (sym c.is_state.ensures ∙ c.if-not-is_state.false)).size in omega (arith, e)

pub bounds-state-1 : goal.bounds-state-1
bounds-state-1 c = let e = (state_facts c.args.state.now (sym c.is_state.ensures ∙ c.if-not-is_state.false)).size in omega (arith, e)

pub returns-then-not-suits : goal.returns-then-not-suits
unfolding judge_in
returns-then-not-suits c =
    let a = c.args in
    rw c.number-then-not-suits.ensures (commit_unsuited a.state.now a.log.now a.work.now a.ticket.now (sym c.is_state.ensures ∙ c.if-not-is_state.false)
    (sym c.suits.ensures ∙ c.if-not-suits.true))

pub returns-then-not-is_current : goal.returns-then-not-is_current
unfolding judge_in
returns-then-not-is_current c =
    let a = c.args in
    rw c.number-then-not-is_current.ensures (commit_stale a.state.now a.log.now a.work.now a.ticket.now (sym c.is_state.ensures ∙ c.if-not-is_state.false)
    (sym c.suits.ensures ∙ c.if-not-suits.false)
    (sym c.is_current.ensures ∙ c.if-not-is_current.true))

-- below, the ticket's count is the judge's
pub slice_bounds-take_into-count : goal.slice_bounds-take_into-count
slice_bounds-take_into-count c =
    let l = current_has c.args.ticket.now _ (sym c.is_current.ensures ∙ c.if-not-is_current.false) in
    omega (arith, l)

pub slice_bounds-take_into-start : goal.slice_bounds-take_into-start
slice_bounds-take_into-start c =
    let l = current_has c.args.ticket.now _ (sym c.is_current.ensures ∙ c.if-not-is_current.false) in
    omega (arith, l)

pub take_into-requires : goal.take_into-requires
take_into-requires c = sym c.is_state.ensures ∙ c.if-not-is_state.false

pub returns : goal.returns
returns c =
    let a = c.args in
    commit_done a.state.now a.log.now a.work.now a.ticket.now (sym c.is_state.ensures ∙ c.if-not-is_state.false)
    (sym c.is_current.ensures ∙ c.if-not-is_current.false) c.take_into.ensures
