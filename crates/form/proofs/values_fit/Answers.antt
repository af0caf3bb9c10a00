-- Where the counts fit there are no more than eight keys, so that each key's place is in the record.
use native.Mathlib.Omega.{arith}
use mathlib.Core.Path.{sym, ◌∙◌}
use Rattle.form.specs.Form.{values_fit}
use Rattle.form.proofs.Sound.{counts}
use Rattle.form.proofs.values_fit.Goals as goal

pub lengths_fit-requires : goal.lengths_fit-requires
lengths_fit-requires c =
    let h = counts c.args.k c.args.rec.now (sym c.counts_fit.ensures ∙ c.if-counts_fit.true) in
    omega (arith, c.requires, h.spans.high, c.from.ensures)

pub returns-then-counts_fit : goal.returns-then-counts_fit
unfolding values_fit
returns-then-counts_fit c = rw (← c.counts_fit.ensures, c.if-counts_fit.true, ← c.from.ensures) c.lengths_fit.ensures

pub returns-else-counts_fit : goal.returns-else-counts_fit
unfolding values_fit
returns-else-counts_fit c = rw (← c.counts_fit.ensures, c.if-counts_fit.false)
