-- All registered splits from the walk's place on are taken over.
use mathlib.Core.Path.{sym}
use Prim.Native.Nat.{◌-◌}
use Rattle.record.specs.Records.{decode}
use Rattle.record.proofs.Booleans.{never}
use Rattle.history.proofs.Logs.{record_bytes}
use Rattle.splits.proofs.Finding.{on_first, first_is, on_next, split_on, walk_over}
use Rattle.debts.proofs.Debts.{cover_first, turn_new, turn_kept, cover_end}
use Rattle.debts.proofs.debt.covered_split.Goals as goal
use Rattle.debts.proofs.debt.covered_split.Goals.{else-is_above-via-then-is_above+else-is_covered, else-is_above-via-else-is_above}

pub loop-split-init : goal.loop-split-init
loop-split-init c =
    let a = c.args in
    let p = a.past.now in
    let u = rw (← c.into_iter-split-iterator.ensures.into_iter_gives) at c.of-split-items.ensures in
    record {
      on = on_first p c.requires.within u;
      found = tt;
      covering = λ ix. cover_first p.log.now a.old.now.number (decode a.old.now.record.now) a.right a.server.0 (first_is p ix c.requires.within u);
    }

pub loop-split-preserved-then-is_covered : goal.loop-split-preserved-then-is_covered
loop-split-preserved-then-is_covered c =
    let a = c.args in
    let p = a.past.now in
    let l = c.loop-split.invariant in
    let e = c.in-Some.ensures.steps in
    record {
      on = on_next p l.on e;
      found = split_on p l.on e;
      covering = λ ix. turn_new p ix a.old.now.number (decode a.old.now.record.now) a.right a.server.0 l.on e (l.covering ix) c.if-is_above.ensures
          c.if-is_covered.ensures;
    }

pub loop-split-preserved : goal.loop-split-preserved
loop-split-preserved c =
    let a = c.args in
    let p = a.past.now in
    let l = c.loop-split.invariant in
    let e = c.in-Some.ensures.steps in
    record {
      on = on_next p l.on e;
      found = l.found;
      covering = λ ix. turn_kept p ix a.old.now.number (decode a.old.now.record.now) a.right a.server.0 l.on e (l.covering ix)
          (elim c.else-is_above.branch [
            | else-is_above-via-then-is_above+else-is_covered w ↦ λ h. never (sym h) (sym w.if-is_covered.ensures)
            | else-is_above-via-else-is_above w ↦ λ h. w.if-is_above.ensures
          ]);
    }

pub returns-clause-is : goal.returns-clause-is
returns-clause-is c =
    let a = c.args in
    let p = a.past.now in
    let l = c.loop-split.invariant in
    λ ix. cover_end p.log.now a.old.now.number a.right a.server.0 c.requires.some
    (record_bytes p.log.now (a.old.now.number - 1) c.requires.bytes)
    (walk_over p l.on c.next.new.self c.in-None.ensures.steps ix) (l.covering ix)
