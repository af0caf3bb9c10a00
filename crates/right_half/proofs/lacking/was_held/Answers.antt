-- Dropped by a refusal since, or as it was held there.
use mathlib.Core.Path.{sym, ◌∙◌}
use borrow.Author.Tests.{le-ltb}
use Prim.Native.Nat.{◌-◌}
use Rattle.one_owner_per_key.proofs.Checks.{held_found}
use Rattle.right_half.proofs.Lacks.{with_dropped, with_held}
use Rattle.right_half.proofs.lacking.was_held.Goals as goal

pub returns-then-refused-restated : goal.returns-then-refused-restated
returns-then-refused-restated c =
    let a = c.args in
    let p = a.past.now in
    let h = c.held_by in
    λ ix ek ef is. with_held a.node.0 a.range p.log.now p.count ek ef is c.if-refused-restated.true
    (held_found p a.node.0 a.range (a.restated - 1) h.result h.ensures.found (h.ensures.held ix.0) ∙ sym c.is_some.ensures)

pub returns-else-refused-restated : goal.returns-else-refused-restated
returns-else-refused-restated c =
    let a = c.args in
    let p = a.past.now in
    λ ix ek ef is. le-ltb a.refused a.restated c.if-refused-restated.false
    ∙ with_dropped a.node.0 a.range p.log.now p.count ek ef is c.if-refused-restated.false
