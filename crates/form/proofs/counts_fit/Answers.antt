-- Each test is the definition's own.
use Rattle.form.specs.Form.{counts_fit}
use Rattle.form.proofs.counts_fit.Goals as goal

pub returns : goal.returns
unfolding counts_fit
returns c = rw (c.is_within-4.ensures, c.is_within-3.ensures, c.is_within-2.ensures, c.is_within.ensures)
