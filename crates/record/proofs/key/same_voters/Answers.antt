-- Each voter is the number at its place; two lists of one length are the same where every place that was passed is.
use mathlib.Core.Path.{sym, ◌∙◌}
use native.Mathlib.Omega.{arith}
use borrow.Author.Count.{below_none, below_more}
use Rattle.record.specs.Records.{decode}
use Rattle.record.proofs.Keys.{differ_length, differ_at, equal_all}
use Rattle.record.proofs.key.same_voters.Goals as goal

pub returns-then-n-voter_count : goal.returns-then-n-voter_count
unfolding decode
returns-then-n-voter_count c =
    let count = c.voter_count-n.ensures.0 in
    sym (differ_length _ _ (λ e. c.if-n-voter_count.true (count ∙ e ∙ sym c.voter_count.ensures.0)))

pub loop-i-init : goal.loop-i-init
loop-i-init c = (omega arith, below_none _)

pub returns-then-voter : goal.returns-then-voter
unfolding decode
returns-then-voter c = sym (differ_at _ _ _ (λ e. c.if-voter.true (c.voter.ensures ∙ e ∙ sym c.voter-in-loop-i.ensures)))

pub loop-i-preserved : goal.loop-i-preserved
unfolding decode
loop-i-preserved c = (omega arith, below_more _ _ c.loop-i.invariant.1 (sym c.voter.ensures ∙ c.if-voter.false ∙ c.voter-in-loop-i.ensures))

pub returns : goal.returns
unfolding decode
returns c =
    let count = c.voter_count-n.ensures.0 in
    let other = c.voter_count.ensures.0 in
    sym (equal_all _ _ _ (sym count ∙ c.if-n-voter_count.false ∙ other) (omega arith) c.loop-i.invariant.1)
