-- Piece by piece: the inner loop finds the name that stands at the cursor and where the piece ends.
use mathlib.Core.Path.{refl, sym, ◌∙◌}
use Rattle.rules.proofs.KeyLists.{above_falls}
use Rattle.rules.proofs.MetaWalks.{walked_start, walked_end, walked_at, walked_on}
use Rattle.meta_never_goes_back.proofs.Seen.{turn_first, turn_more, seen_stand, seen_gap}
use Rattle.meta_never_goes_back.proofs.walk.walk_case.Goals as goal

pub walk-init : goal.walk-init
walk-init c = λ m. walked_start c.start_of-start.ensures

pub loop-next-init : goal.loop-next-init
loop-next-init c = turn_first (record { is = sym c.key_less.ensures ∙ c.if-not-key_less.false }) c.new-rest.ensures.past c.new-rest.ensures.next

pub loop-next-preserved : goal.loop-next-preserved
loop-next-preserved c =
    turn_more c.loop-next.invariant c.in-Some.ensures.steps c.stands-standing.ensures c.start_of.ensures c.nearer-near.ensures c.end_of.ensures
    c.nearer-nearest.ensures

pub walk-smaller : goal.walk-smaller
walk-smaller c = above_falls c.loop-next.invariant.up c.loop-next.invariant.mem

pub walk-preserved : goal.walk-preserved
walk-preserved c = λ m.
    let seen = c.loop-next.invariant.seen m in
    let over = c.in_default.ensures.steps.0 in
    walked_on (c.walk.invariant m) (seen_stand over seen) c.key_case-case.ensures c.loop-next.invariant.up (seen_gap over seen)
    (sym c.is_some.ensures ∙ c.if-is_some.false)

pub returns-then-not-key_less : goal.returns-then-not-key_less
returns-then-not-key_less c = λ m. walked_end (c.walk.invariant m) c.end_of-end.ensures (record { is = sym c.key_less.ensures ∙ c.if-not-key_less.true }) refl

pub returns-then-is_some : goal.returns-then-is_some
returns-then-is_some c = λ m.
    walked_at (c.walk.invariant m) (seen_stand c.in_default.ensures.steps.0 (c.loop-next.invariant.seen m)) c.key_case-case.ensures
    c.end_of-end.ensures (record { is = sym c.key_less.ensures ∙ c.if-not-key_less.false }) (sym c.is_some.ensures ∙ c.if-is_some.true)
