-- What it holds it does not lack, nor what it has no part in.
use mathlib.Core.Path.{sym, ap, ◌∙◌}
use native.Mathlib.Omega.{arith}
use Prim.Native.Nat.{◌-◌}
use Rattle.history.proofs.Logs.{record_bytes}
use Rattle.debts.specs.Walk.{has_part}
use Rattle.right_half.proofs.Searches.{lacks_held, lacks_away, lacks_owes}
use Rattle.one_owner_per_key.proofs.Checks.{held_found}
use Rattle.right_half.proofs.missing.is_lacking.Goals as goal

pub returns-then-is_some : goal.returns-then-is_some
returns-then-is_some c =
    let a = c.args in
    let p = a.past.now in
    let s = a.split.now in
    let h = c.held_after in
    λ ix d e. lacks_held p.log.now p.count a.node.0 (s.number - 1) s.right
    (held_found p a.node.0 s.right p.count h.result h.ensures.found (h.ensures.held ix.0 d) ∙ sym c.is_some.ensures ∙ c.if-is_some.true)

pub returns-then-not-has_part : goal.returns-then-not-has_part
returns-then-not-has_part c =
    let a = c.args in
    let p = a.past.now in
    let s = a.split.now in
    λ ix d e. lacks_away p.log.now p.count a.node.0 (s.number - 1) s.right (omega (arith, c.requires.some, c.requires.within))
    (sym (c.has_part.ensures ix ∙ ap (has_part p.log.now p.count a.node.0) (record_bytes p.log.now (s.number - 1) c.requires.bytes)) ∙ c.if-not-has_part.true)

pub returns : goal.returns
returns c =
    let a = c.args in
    let p = a.past.now in
    let s = a.split.now in
    let h = c.held_after in
    λ ix d e. lacks_owes p.log.now p.count a.node.0 (s.number - 1) s.right
    (held_found p a.node.0 s.right p.count h.result h.ensures.found (h.ensures.held ix.0 d) ∙ sym c.is_some.ensures ∙ c.if-is_some.false)
    (c.cancel_of-cancel.ensures ix e) (c.owes_by.ensures ix)
