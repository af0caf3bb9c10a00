-- A record that makes its node hold its range, against what the node holds.
use Rattle.one_owner_per_key.proofs.Checks.{held_none}
use Rattle.one_owner_per_key.proofs.note.is_newly_held.Goals as goal

pub returns-then-is_holding : goal.returns-then-is_holding
returns-then-is_holding c =
    let a = c.args in
    let p = a.past.now in
    let h = c.held_after in
    λ k e.
    rw (← c.is_holding.ensures, c.if-is_holding.true, ← c.a.ensures)
    (held_none p a.node.0 c.a.result p.count h.result h.ensures.found (h.ensures.held k e) c.is_none.ensures)
