-- `write_number`: what is still to be written is the rest of the number, byte by byte.
use mathlib.Core.Path.{◌≡◌}
use Prim.Native.Nat.{◌+◌, ◌-◌, ◌≤◌}
use lib.ListN.{length}
use lib.Seq.{sets}
use Rattle.record.specs.Numbers.{bytes_of}
use Rattle.record.proofs.number.write_number.Given as goal

abbrev pub invariant-loop-i : goal.invariant-loop-i
invariant-loop-i l =
    (l.i ≤ l.width) × (length l.s ≡ length l.initial.s) × (sets l.initial.s l.at (bytes_of l.width l.number)
    ≡ sets l.s (l.at + l.i) (bytes_of (l.width - l.i) l.rest))

abbrev pub decreases-loop-i : goal.decreases-loop-i
decreases-loop-i l = l.width - l.i
