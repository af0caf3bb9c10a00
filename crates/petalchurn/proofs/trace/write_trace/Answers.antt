-- `write_trace`: two stores, and the rows after them.
use mathlib.Core.Path.{refl, ◌∙◌}
use native.Mathlib.Omega.{arith}
use lib.ListN.{length-set}
use Rattle.petalchurn.proofs.CallLaws.{trace_written}
use Rattle.petalchurn.proofs.trace.write_trace.Goals as goal

pub bounds-out-1 : goal.bounds-out-1
bounds-out-1 c = simp length-set (omega arith)

pub shape_of-out : goal.shape_of-out
shape_of-out c = c.write_rows.auto.out ∙ simp length-set

pub returns : goal.returns
returns c =
    let w = c.write_rows.ensures in
    (c.number_of.ensures, w.is ∙ trace_written c.args.out.now c.args.traced c.requires w.many refl c.refused_at.ensures)
