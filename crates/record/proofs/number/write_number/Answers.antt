-- `write_number`: what is still to be written is the rest of the number, byte by byte.
use mathlib.Core.Path.{refl, sym, ◌∙◌}
use Prim.Native.Nat.{◌+◌, ◌≤◌}
use native.Mathlib.Omega.{arith}
use lib.ListN.{length-set}
use Rattle.record.proofs.Written.{write_start, write_next, write_end}
use Rattle.record.proofs.number.write_number.Goals as goal

pub loop-i-init : goal.loop-i-init
loop-i-init c = (omega arith, refl, write_start c.args.s.now c.args.at c.args.width c.args.number)

pub loop-i-preserved : goal.loop-i-preserved
loop-i-preserved c =
    let a = c.args in
    let l = c.loop-i in
    let t : l.i ≤ a.width = l.invariant.0 in
    let n = length-set l.s (a.at + l.i) _ ∙ l.invariant.1 in
    (omega arith, n, l.invariant.2 ∙ write_next l.s a.at a.width l.i l.rest c.loop-i-test.true)

pub returns : goal.returns
returns c =
    let a = c.args in
    let l = c.loop-i in
    sym (l.invariant.2 ∙ write_end l.s a.at a.width l.i l.rest c.loop-i-test.false)
