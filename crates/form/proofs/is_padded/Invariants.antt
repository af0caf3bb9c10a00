-- A length byte above 31 leaves no padding; else the bits of the padding passed are none exactly when it is all zero.
use Rattle.form.proofs.Zeros.{Masked}
use Rattle.form.proofs.is_padded.Given as goal

abbrev pub invariant-loop-i : goal.invariant-loop-i
invariant-loop-i l = Masked l.place l.seen l.i
