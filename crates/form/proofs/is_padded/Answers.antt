-- A length byte above 31 leaves no padding; else the bits of the padding passed are none exactly when it is all zero.
use mathlib.Core.Path.{sym}
use Prim.Native.Nat.{◌≤◌, ◌<◌}
use native.Mathlib.Omega.{arith}
use lib.ListN.{get_or}
use Rattle.form.proofs.Zeros.{no_padding, masked_start, masked_turn, masked_end}
use Rattle.form.proofs.is_padded.Goals as goal

pub returns-then-size-gt-KEY_LIMIT : goal.returns-then-size-gt-KEY_LIMIT
returns-then-size-gt-KEY_LIMIT c = sym (no_padding c.args.place.now (omega arith))

pub loop-i-init : goal.loop-i-init
loop-i-init c = masked_start _

pub loop-i-preserved : goal.loop-i-preserved
loop-i-preserved c =
    let p = c in
    let s = p.args.place.now in
    let t = c.loop-i in
    let f : get_or s 0 0 ≤ 31 = c.if-size-gt-KEY_LIMIT.false in
    let b : get_or s t.i 0 < 256 = omega (arith, c.type_inv.place t.i) in
    masked_turn s t.seen t.i _ p.requires.0 f c.from-from.ensures b (omega arith) _ p.requires.1 t.invariant

pub returns : goal.returns
returns c = masked_end c.loop-i.invariant c.requires.0 c.loop-i-test.false
