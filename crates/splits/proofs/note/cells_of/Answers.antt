-- The node's state is read at its latest record, and the record changes it by its kind.
use mathlib.Core.Path.{refl, sym, ap, ◌∙◌}
use native.Mathlib.Omega.{arith}
use Rattle.record.specs.Records.{decode}
use Rattle.rules.specs.Answers.{found_at}
use Rattle.rules.proofs.Marks.{by_itself}
use Rattle.history.specs.Pasts.{taken}
use Rattle.history.proofs.Logs.{hist_length}
use Rattle.splits.proofs.States.{server_is, restated_is, refused_is, pending_cell_lem}
use Rattle.splits.proofs.Noting.{server_after, restated_after, refused_after, registered_after, in_splits, registering_read, recording_after, server_unmarked, restated_unmarked, refused_unmarked, pending_unmarked, named_unmarked, recording_unmarked}
use Rattle.splits.proofs.note.cells_of.Goals as goal

pub returns-in_default-clause-cells : goal.returns-in_default-clause-cells
returns-in_default-clause-cells c =
    let p = c.args.past.now in
    let x = decode c.args.rec.now in
    let h = taken p in
    let e = sym c.node.ensures ∙ c.in_default.is in
    let named = ap found_at (named_unmarked x h e) in
    λ ix. record {
      server = server_unmarked x h e;
      restated = restated_unmarked x h e;
      refused = refused_unmarked x h e;
      pending = pending_unmarked x h e;
      registered =
          registered_after p.log.now x p.count named c.registered_with.ensures
          (registering_read p.log.now ix.1.registered p.within p.small p.count (omega arith));
      split = in_splits p.log.now x p.count named p.cap refl;
      recording = recording_unmarked x h e p.cap;
    }

pub returns-clause-cells : goal.returns-clause-cells
returns-clause-cells c =
    let p = c.args.past.now in
    let x = decode c.args.rec.now in
    let h = taken p in
    let m = c.in-Some.node in
    let e = sym c.node.ensures ∙ c.in-Some.is in
    let b = by_itself m x e in
    λ ix.
    let q = c.latest_of-last.ensures.latest ix.0 in
    let named = c.registers-named.ensures.names ix m e q in
    let restated = restated_is p.log.now m.0 p.within (omega arith) q ix.1.restated refl in
    record {
      server = server_after m.0 x h b c.server_with.ensures (server_is p.log.now m.0 ix.1.servers p.within (omega arith) q refl);
      restated = restated_after m.0 x h b c.restated_with.ensures (hist_length p.log.now p.count) restated;
      refused =
          refused_after m.0 x h b c.refused_with.ensures (hist_length p.log.now p.count)
          (refused_is p.log.now m.0 p.within (omega arith) q ix.1.refused refl);
      pending = c.pending_with.ensures ix m.0 q b ∙ sym (pending_cell_lem.own m.0 x h b);
      registered =
          registered_after p.log.now x p.count named c.registered_with-2.ensures
          (registering_read p.log.now ix.1.registered p.within p.small p.count (omega arith));
      split = in_splits p.log.now x p.count named p.cap c.split_with.ensures.is;
      recording = recording_after p.cap x h m e c.recording_with.ensures.is restated;
    }
