-- `push`: the reports go to rows, the record is taken or refused by the core, and the rows come back as reports.
use mathlib.Core.Path.{◌≡◌, refl, sym, ap, subst, ◌∙◌}
use mathlib.Core.List.{List}
use Prim.Native.Nat.{ℕ, ◌+◌, ◌≤◌, ◌<◌}
use native.Mathlib.Omega.{arith}
use lib.ListN.{length}
use mir.Syntax.{w64}
use mir.Val.{Fits}
use Rattle.record.specs.Records.{decode}
use Rattle.rules.specs.declared.Report.{Report}
use Rattle.events.specs.Numbers.{event_in}
use Rattle.decision.proofs.Decisions.{Room, room_of, refuses}
use Rattle.judge.specs.declared.state.Judge.{Judge}
use Rattle.intake.specs.Words.{Indexed}
use Rattle.judge.specs.States.{State}
use Rattle.judge.specs.Pushes.{Pushed, state_of}
use Rattle.judge.proofs.Pushes.{RowsOf, written_size, written_fit, written_are, push_number, push_taken, push_refused}
use Rattle.judge.proofs.state.Judge.push.Goals as goal

-- a count below a capacity can be raised
next_fits : (n cap : ℕ) → n < cap → cap ≤ 4096 → Fits w64 (n + 1)
next_fits n cap l m = record { fits = omega arith }

pub returns-in-Err : goal.returns-in-Err
returns-in-Err c =
    let a = c.args in
    let rows = c.write_rows.new.out in
    let are : RowsOf a.self rows = written_are a.self c.write_rows.ensures in
    let e = c.in-Err.ensures.takes in
    record {
      refusal = push_number a.self a.log.now a.work.now rows a.rec.now are e;
      leaves = push_refused a.self a.log.now a.work.now rows a.rec.now are e (refuses c.in-Err.refusal);
    }

pub read_rows-next-requires : goal.read_rows-next-requires
read_rows-next-requires c =
    let e = c.in-Ok.ensures.takes in
    let j = c.args.self in
    let n : length c.take.new.rows ≡ 56 = e.size ∙ written_size j c.write_rows.ensures in
    (omega arith, e.fits (written_fit j c.write_rows.ensures))

-- a record that is taken has room
pub overflow_add-result : goal.overflow_add-result
overflow_add-result c =
    let j = c.args.self in
    let r : Room j.capacity j.count c.args.log.now c.args.work.now c.args.rec.now = room_of (sym c.in-Ok.ensures.takes.refusal) in
    next_fits j.count j.capacity r.room r.suits.small

pub returns-in-Ok : goal.returns-in-Ok
returns-in-Ok c =
    let a = c.args in
    let rows = c.write_rows.new.out in
    let are : RowsOf a.self rows = written_are a.self c.write_rows.ensures in
    let e = c.in-Ok.ensures.takes in
    let given = state_of a.self a.log.now a.work.now in
    let q = push_taken a.self a.log.now a.work.now rows a.rec.now are e refl in
    let judge : ℕ → List Report → Judge =
    λ n rs. record { capacity = a.self.capacity; count = a.self.count + 1; events = n; opening = a.self.opening; reports = rs } in
    let left : ℕ → List Report → State = λ n rs. state_of (judge n rs) c.take.new.log c.take.new.work in
    let read = c.read_rows-next in
    let next = c.event_after.ensures ∙ ap (λ (s : List ℕ). event_in a.self.events (decode s)) c.in-Ok.ensures.whole in
    record {
      refusal = push_number a.self a.log.now a.work.now rows a.rec.now are e;
      leaves = subst (λ (n : ℕ). Pushed Indexed given a.rec.now (left n read.result)) (sym next)
          (subst (λ (rs : List Report). Pushed Indexed given a.rec.now (left (event_in a.self.events (decode a.rec.now)) rs))
          (sym read.ensures) q);
    }
