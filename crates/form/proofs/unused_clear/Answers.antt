-- No more voters than there is room for, so that each part is in the record; each test is the definition's own.
use Rattle.form.specs.Form.{unused_clear}
use Rattle.form.proofs.unused_clear.Goals as goal

pub returns : goal.returns
unfolding unused_clear
returns c = rw (c.spans_clear.ensures, c.all_zero-3.ensures, c.all_zero-2.ensures, c.numbers_clear.ensures, c.all_zero.ensures, c.from.ensures)
