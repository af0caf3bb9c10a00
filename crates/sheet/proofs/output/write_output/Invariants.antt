-- `write_output`: the bytes written stay within the list, and fewer are left at each turn.
use Prim.Native.Nat.{◌≤◌, ◌-◌}
use lib.ListN.{length}
use Rattle.sheet.proofs.output.write_output.Given as goal

abbrev pub invariant-loop-done : goal.invariant-loop-done
invariant-loop-done g l = l.done ≤ length l.buf

abbrev pub decreases-loop-done : goal.decreases-loop-done
decreases-loop-done g l = length l.buf - l.done
