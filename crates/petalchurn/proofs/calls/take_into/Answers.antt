-- `take_into`: the record is taken, or refused, on the state's own words, and the count and the events are raised.
use mathlib.Core.Path.{refl, sym}
use Prim.Native.Nat.{ℕ, ◌+◌, ◌≤◌, ◌<◌}
use native.Mathlib.Omega.{arith}
use lib.ListN.{get_or}
use mir.Syntax.{w64}
use mir.Val.{Fits}
use Rattle.decision.proofs.Decisions.{Room, room_of, refuses}
use Rattle.state_words.proofs.Headers.{part_size}
use Rattle.state_words.proofs.States.{state_facts}
use Rattle.petalchurn.proofs.CallLaws.{push_left, push_done}
use Rattle.petalchurn.proofs.calls.take_into.Goals as goal

-- a count below a capacity can be raised
next_fits : (n cap : ℕ) → n < cap → cap ≤ 4096 → Fits w64 (n + 1)
next_fits n cap l m = record { fits = omega arith }

pub bounds-state-0 : goal.bounds-state-0
bounds-state-0 c = let e = (state_facts c.args.state.now c.requires).size in omega (arith, e)

pub bounds-state-1 : goal.bounds-state-1
bounds-state-1 c = let e = (state_facts c.args.state.now c.requires).size in omega (arith, e)

pub bounds-state-2 : goal.bounds-state-2
bounds-state-2 c = let e = (state_facts c.args.state.now c.requires).size in omega (arith, e)

pub bounds-state-3 : goal.bounds-state-3
bounds-state-3 c = let e = (state_facts c.args.state.now c.requires).size in omega (arith, e)

pub slice_bounds-rows-end : goal.slice_bounds-rows-end
slice_bounds-rows-end c = let e = (state_facts c.args.state.now c.requires).size in omega (arith, e)

pub take-requires : goal.take-requires
take-requires c =
    part_size c.args.state.now (state_facts c.args.state.now c.requires).size

pub returns-in-Err : goal.returns-in-Err
returns-in-Err c =
    let a = c.args in
    rw c.number.ensures (push_left a.state.now a.log.now a.work.now a.rec.now c.requires c.in-Err.ensures.takes (refuses c.in-Err.refusal))

-- where nothing is refused: there was room, and the words with the rows that the core left are as many as before
pub overflow_add-state : goal.overflow_add-state
overflow_add-state c =
    let a = c.args in
    let r : Room (get_or a.state.now 0 0) (get_or a.state.now 1 0) a.log.now a.work.now a.rec.now =
    room_of (sym c.in-Ok.ensures.takes.refusal) in
    next_fits (get_or c.args.state.now 1 0) (get_or c.args.state.now 0 0) r.room r.suits.small

pub returns-in-Ok : goal.returns-in-Ok
returns-in-Ok c =
    let a = c.args in
    push_done a.state.now a.log.now a.work.now a.rec.now c.requires c.in-Ok.ensures.takes refl (rw (← c.in-Ok.ensures.whole) c.event_after.ensures)
