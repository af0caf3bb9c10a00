-- One item more is copied; where all are, the lists are the same.
use mathlib.Core.Path.{refl, sym, ap, ◌∙◌}
use mathlib.Core.List.{[], ◌∷◌, ◌++◌}
use Rattle.std.specs.Prelude.{take}
use native.Mathlib.Omega.{arith}
use Rattle.std.proofs.lemmas.List.{take_all, take_more, take_more_set}
use Rattle.record.proofs.copy.copy_items.Goals as goal

pub loop-i-init : goal.loop-i-init
loop-i-init g c = refl

pub loop-i-preserved : goal.loop-i-preserved
loop-i-preserved g c =
    let l = c.loop-i in
    let y = c.index-from-i.result in
    take_more_set l.to l.i y (omega arith)
    ∙ ap (λ xs. xs ++ (y ∷ [])) l.invariant
    ∙ ap (λ x. take l.i c.args.from.now ++ (x ∷ [])) c.index-from-i.is
    ∙ sym (take_more c.args.from.now l.i y (omega arith))

pub returns : goal.returns
returns g c =
    let l = c.loop-i in
    sym (take_all l.i l.to (omega arith)) ∙ l.invariant ∙ take_all l.i c.args.from.now (omega arith)
