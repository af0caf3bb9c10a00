-- One test after the other; this registering makes it owed where the server is a voter.
use mathlib.Core.Path.{sym, ap, ◌∙◌}
use native.Mathlib.Omega.{arith}
use mathlib.Core.Bool.{Bool, ◌||◌}
use Rattle.record.specs.Records.{decode}
use Rattle.record.proofs.Booleans.{or_left}
use Rattle.rules.specs.History.{is_some}
use Rattle.rules.specs.RightHalf.{owes}
use Rattle.history.specs.Pasts.{taken}
use Rattle.splits.specs.Walk.{split_of}
use Rattle.splits.proofs.States.{restated_is, refused_is, mark_is}
use Rattle.debts.proofs.Owing.{reached_is}
use Rattle.right_half.proofs.Lacks.{lacks_unrestated, lacks_unreached, lacks_held, lacks_owing, known_restated, voter_of}
use Rattle.right_half.proofs.lacking.lacks_at.Goals as goal

pub returns-in_default : goal.returns-in_default
returns-in_default c =
    let a = c.args in
    let p = a.past.now in
    let s = a.split.now in
    λ ix r.
    let k = mark_is p.log.now a.node.0 p.within (omega arith) (c.latest_of-last.ensures.latest ix.0) ix.1.restated c.in_default.ensures.is in
    lacks_unrestated (decode s.record.now) (taken p) a.node.0 (split_of s) r (sym k)

pub returns-then-not-is_reached : goal.returns-then-not-is_reached
returns-then-not-is_reached c =
    let a = c.args in
    let p = a.past.now in
    let s = a.split.now in
    λ ix r.
    let q = c.latest_of-last.ensures.latest ix.0 in
    let f = refused_is p.log.now a.node.0 p.within (omega arith) q ix.1.refused c.refused_by-refused.ensures.1 in
    lacks_unreached (decode s.record.now) (taken p) a.node.0 (split_of s) r
    (known_restated p a.node.0 (omega arith) q ix c.in-Some.ensures.found c.in-Some.ensures.is)
    (reached_is p.log.now p.count a.node.0 (split_of s)
    ∙ sym (c.is_reached.ensures ix f ∙ rw (c.parent_of.ensures, c.b-index.ensures)) ∙ c.if-not-is_reached.true)

pub returns-then-was_held : goal.returns-then-was_held
returns-then-was_held c =
    let a = c.args in
    let p = a.past.now in
    let s = a.split.now in
    λ ix r.
    let q = c.latest_of-last.ensures.latest ix.0 in
    let m = restated_is p.log.now a.node.0 p.within (omega arith) q ix.1.restated c.in-Some.ensures.is in
    let f = refused_is p.log.now a.node.0 p.within (omega arith) q ix.1.refused c.refused_by-refused.ensures.1 in
    let i = known_restated p a.node.0 (omega arith) q ix c.in-Some.ensures.found c.in-Some.ensures.is in
    let g = reached_is p.log.now p.count a.node.0 (split_of s)
    ∙ sym (c.is_reached.ensures ix f ∙ rw (c.parent_of.ensures, c.b-index.ensures)) ∙ c.if-not-is_reached.false in
    lacks_held (decode s.record.now) (taken p) a.node.0 (split_of s) r i g (sym (c.was_held.ensures ix m f i) ∙ c.if-was_held.true)

pub returns-then-is_voter : goal.returns-then-is_voter
returns-then-is_voter c =
    let a = c.args in
    let p = a.past.now in
    let s = a.split.now in
    λ ix r.
    let q = c.latest_of-last.ensures.latest ix.0 in
    let m = restated_is p.log.now a.node.0 p.within (omega arith) q ix.1.restated c.in-Some.ensures.is in
    let f = refused_is p.log.now a.node.0 p.within (omega arith) q ix.1.refused c.refused_by-refused.ensures.1 in
    let i = known_restated p a.node.0 (omega arith) q ix c.in-Some.ensures.found c.in-Some.ensures.is in
    let g = reached_is p.log.now p.count a.node.0 (split_of s)
    ∙ sym (c.is_reached.ensures ix f ∙ rw (c.parent_of.ensures, c.b-index.ensures)) ∙ c.if-not-is_reached.false in
    lacks_owing (decode s.record.now) (taken p) a.node.0 (split_of s) r i g (sym (c.was_held.ensures ix m f i) ∙ c.if-was_held.false)
    (sym (or_left _ _ (voter_of p a.node.0 (omega arith) q ix s c.server_by.ensures c.is_voter.ensures ∙ c.if-is_voter.true)))

pub returns : goal.returns
returns c =
    let a = c.args in
    let p = a.past.now in
    let s = a.split.now in
    λ ix r.
    let q = c.latest_of-last.ensures.latest ix.0 in
    let m = restated_is p.log.now a.node.0 p.within (omega arith) q ix.1.restated c.in-Some.ensures.is in
    let f = refused_is p.log.now a.node.0 p.within (omega arith) q ix.1.refused c.refused_by-refused.ensures.1 in
    let i = known_restated p a.node.0 (omega arith) q ix c.in-Some.ensures.found c.in-Some.ensures.is in
    let g = reached_is p.log.now p.count a.node.0 (split_of s)
    ∙ sym (c.is_reached.ensures ix f ∙ rw (c.parent_of.ensures, c.b-index.ensures)) ∙ c.if-not-is_reached.false in
    lacks_owing (decode s.record.now) (taken p) a.node.0 (split_of s) r i g (sym (c.was_held.ensures ix m f i) ∙ c.if-was_held.false)
    (c.is_owed.ensures ix f
    ∙ ap (λ (b : Bool). b || is_some (owes a.node.0 s.right (taken p)))
    (sym (voter_of p a.node.0 (omega arith) q ix s c.server_by.ensures c.is_voter.ensures ∙ c.if-is_voter.false)))
