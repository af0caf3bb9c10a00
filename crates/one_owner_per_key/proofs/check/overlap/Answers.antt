-- Without a node nothing; kinds 1 and 2 by the lowest other range that is met.
use mathlib.Core.Path.{sym, ap, ◌∙◌}
use Rattle.std.specs.Prelude.{Some}
use Rattle.record.specs.Records.{decode}
use Rattle.history.specs.Logs.{hist}
use Rattle.rules.proofs.Owners.{overlap_unmarked, overlap_other, overlap_met, overlap_apart}
use Rattle.one_owner_per_key.proofs.check.overlap.Goals as goal

pub returns-in_err-node : goal.returns-in_err-node
returns-in_err-node c =
    let a = c.args in
    let x = decode a.rec.now in
    let h = hist a.past.now.log.now a.past.now.count in
    λ ix. c.from_residual.ensures ∙ overlap_unmarked x h (sym c.node.ensures ∙ c.in_err-node.was)

pub returns-then-not-is_holding : goal.returns-then-not-is_holding
returns-then-not-is_holding c =
    let a = c.args in
    let x = decode a.rec.now in
    let h = hist a.past.now.log.now a.past.now.count in
    λ ix. overlap_other x h (sym c.node.ensures ∙ c.in_ok-node.was)
    (sym c.is_holding.ensures ∙ c.if-not-is_holding.true)

pub returns-in_err-other : goal.returns-in_err-other
returns-in_err-other c =
    let a = c.args in
    λ ix. c.from_residual-in_err-other.ensures ∙ overlap_apart (decode a.rec.now) (hist a.past.now.log.now a.past.now.count) (sym c.node.ensures ∙ c.in_ok-node.was)
    (sym c.is_holding.ensures ∙ c.if-not-is_holding.false) c.a-range.ensures (c.lowest_meeting.ensures ix) c.in_err-other.was

pub returns : goal.returns
returns c =
    let a = c.args in
    λ ix. (rw c.from.ensures at (ap Some c.new.ensures)) ∙ overlap_met (decode a.rec.now) (hist a.past.now.log.now a.past.now.count) (sym c.node.ensures ∙ c.in_ok-node.was)
    (sym c.is_holding.ensures ∙ c.if-not-is_holding.false) c.a-range.ensures (c.lowest_meeting.ensures ix) c.in_ok-other.was
