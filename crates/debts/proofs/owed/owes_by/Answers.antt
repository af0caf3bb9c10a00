-- By a later record of its own, or where the split was registered.
use Rattle.debts.proofs.Comings.{owes_coming, owes_cancelled, owes_at_first}
use Rattle.debts.proofs.owed.owes_by.Goals as goal

pub returns-then-is_some : goal.returns-then-is_some
returns-then-is_some c =
    let o = c.latest_coming in
    λ k. owes_coming c.requires c.args.node.0 c.args.cancel o.result o.ensures.found c.max.ensures (o.ensures.latest k) c.is_some.ensures c.if-is_some.true

pub returns-then-cancel-split : goal.returns-then-cancel-split
returns-then-cancel-split c =
    let o = c.latest_coming in
    λ k. owes_at_first c.requires c.args.node.0 c.args.cancel o.result o.ensures.found c.max.ensures (o.ensures.latest k) c.is_some.ensures c.if-is_some.false
    c.if-cancel-split.true (c.owes_first.ensures k)

pub returns-else-cancel-split : goal.returns-else-cancel-split
returns-else-cancel-split c =
    let o = c.latest_coming in
    λ k. owes_cancelled c.requires c.args.node.0 c.args.cancel o.result o.ensures.found c.max.ensures (o.ensures.latest k) c.is_some.ensures c.if-is_some.false
    c.if-cancel-split.false
