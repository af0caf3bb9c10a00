-- `petalchurn_preview`: a list too short, no state; else what is shown, and the ticket of the record or of zeros.
use mathlib.Core.Path.{◌≡◌, refl, sym, ◌∙◌}
use mathlib.Core.Bool.{false}
use native.Mathlib.Omega.{arith}
use Rattle.decision.proofs.Decisions.{refuses}
use Rattle.state_words.specs.StateWords.{is_state, judge_in}
use Rattle.state_words.proofs.States.{state_facts}
use Rattle.petalchurn.proofs.PreviewLaws.{no_room, room, room_rows, room_ticket, front_passes, preview_short, preview_unfit, preview_refused, preview_taken}
use Rattle.petalchurn.proofs.preview.petalchurn_preview.Goals as goal

pub returns-then-reports-ticket : goal.returns-then-reports-ticket
returns-then-reports-ticket c =
    let a = c.args in
    rw c.number.ensures (preview_short a.state.now a.log.now a.work.now a.rec.now a.reports.now a.ticket.now
    (no_room a.reports.now a.ticket.now c.if-reports-ticket.true))

pub slice_bounds-clear-end : goal.slice_bounds-clear-end
slice_bounds-clear-end c =
    let l = room_rows c.args.reports.now c.args.ticket.now (room c.args.reports.now c.args.ticket.now c.if-reports-ticket.false) in
    omega (arith, l)

pub clear_ticket-requires : goal.clear_ticket-requires
clear_ticket-requires c =
    room_ticket c.args.reports.now c.args.ticket.now (room c.args.reports.now c.args.ticket.now c.if-reports-ticket.false)

pub returns-then-not-is_state : goal.returns-then-not-is_state
returns-then-not-is_state c =
    let a = c.args in
    let none : is_state a.state.now ≡ false = sym c.is_state.ensures ∙ c.if-not-is_state.true in
    rw c.number-then-not-is_state.ensures (preview_unfit a.state.now a.log.now a.work.now a.rec.now a.reports.now a.ticket.now
    (room c.args.reports.now c.args.ticket.now c.if-reports-ticket.false) none
    (front_passes a.reports.now (room_rows a.reports.now a.ticket.now (room c.args.reports.now c.args.ticket.now c.if-reports-ticket.false)) c.clear.ensures)
    c.clear_ticket.ensures)

pub bounds-state-1 : goal.bounds-state-1
bounds-state-1 c =
    let n = (state_facts c.args.state.now (sym c.is_state.ensures ∙ c.if-not-is_state.false)).size in
    omega (arith, n)

pub write_ticket-requires : goal.write_ticket-requires
write_ticket-requires c =
    room_ticket c.args.reports.now c.args.ticket.now (room c.args.reports.now c.args.ticket.now c.if-reports-ticket.false)

pub show-requires : goal.show-requires
show-requires c =
    let a = c.args in (
      state_facts a.state.now (sym c.is_state.ensures ∙ c.if-not-is_state.false),
      room_rows a.reports.now a.ticket.now (room c.args.reports.now c.args.ticket.now c.if-reports-ticket.false),
    )

pub returns-in-Ok : goal.returns-in-Ok
unfolding judge_in
returns-in-Ok c =
    let a = c.args in
    preview_taken a.state.now a.log.now a.work.now a.rec.now a.reports.now a.ticket.now
    (room c.args.reports.now c.args.ticket.now c.if-reports-ticket.false) (sym c.is_state.ensures ∙ c.if-not-is_state.false)
    c.in-Ok.ensures.shows refl (rw (← c.in-Ok.ensures.whole) c.write_ticket.ensures)

pub returns-in-Err : goal.returns-in-Err
returns-in-Err c =
    let a = c.args in
    rw c.number-in-Err.ensures (preview_refused a.state.now a.log.now a.work.now a.rec.now a.reports.now a.ticket.now
    (room c.args.reports.now c.args.ticket.now c.if-reports-ticket.false) (sym c.is_state.ensures ∙ c.if-not-is_state.false)
    c.in-Err.ensures.shows (refuses c.in-Err.refusal) c.clear_ticket-in-Err.ensures)
