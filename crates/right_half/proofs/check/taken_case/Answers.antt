-- The split's own right range, or what was missing before.
use mathlib.Core.Path.{ap, ◌∙◌}
use Rattle.std.specs.Prelude.{Some}
use Rattle.record.specs.Records.{decode}
use Rattle.right_half.proofs.Checks.{taken_own, taken_other}
use Rattle.right_half.proofs.check.taken_case.Goals as goal

pub returns-then-is_lowest : goal.returns-then-is_lowest
returns-then-is_lowest c =
    let a = c.args in
    λ ix ek b t.
    taken_own a.past.now (decode a.rec.now) c.requires ix ek a.node.0 b t (c.lowest_missing-lowest.ensures ix) (c.is_lowest.ensures ix) c.if-is_lowest.true
    (ap Some c.new.ensures ∙ rw (c.from.ensures, c.a-parent.ensures, c.b-index.ensures))

pub returns : goal.returns
returns c =
    let a = c.args in
    λ ix ek b t.
    taken_other a.past.now (decode a.rec.now) c.requires ix ek a.node.0 b t (c.lowest_missing-lowest.ensures ix) (c.is_lowest.ensures ix) c.if-is_lowest.false
    (c.lowest_case.ensures ix (c.lowest_missing-lowest.ensures ix))
