-- What it names, unless that is registered.
use mathlib.Core.Path.{refl, sym, ◌∙◌}
use Rattle.record.specs.Records.{decode}
use Rattle.splits.proofs.Finding.{found_none_is, found_some_is, split_none, split_some}
use Rattle.splits.proofs.Splits.{registers_none, registers_known, registers_new}
use Rattle.splits.proofs.split.registers.Goals as goal

pub returns-in_err-named-clause-names : goal.returns-in_err-named-clause-names
returns-in_err-named-clause-names c =
    let p = c.args.past.now in
    λ ix node m e.
    c.from_residual.ensures
    ∙ registers_none p.log.now (decode c.args.rec.now) p.count node m refl (found_none_is _ (c.in_err-named.ensures.names ix node.0 e))

pub returns-then-is_some-clause-names : goal.returns-then-is_some-clause-names
returns-then-is_some-clause-names c =
    let p = c.args.past.now in
    λ ix node m e.
    let n = found_some_is _ _ (c.in_ok-named.ensures.names ix node.0 e) in
    registers_known p.log.now (decode c.args.rec.now) p.count node m n.0 n.1 (c.split_of.ensures.latest ix ∙ rw (c.parent_of.ensures, c.b.ensures))
    (split_some p c.split_of.result c.split_of.ensures.found (sym c.is_some.ensures ∙ c.if-is_some.true))

pub returns-clause-names : goal.returns-clause-names
returns-clause-names c =
    let p = c.args.past.now in
    λ ix node m e.
    let n = found_some_is _ _ (c.in_ok-named.ensures.names ix node.0 e) in
    registers_new p.log.now (decode c.args.rec.now) p.count node m n.0 n.1 (c.split_of.ensures.latest ix ∙ rw (c.parent_of.ensures, c.b.ensures))
    (split_none c.split_of.result (sym c.is_some.ensures ∙ c.if-is_some.false))
