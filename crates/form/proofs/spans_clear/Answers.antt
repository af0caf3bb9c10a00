-- No more spans than there is room for, so that each part is in the record; each test is the definition's own.
use Rattle.form.specs.Form.{spans_clear}
use Rattle.form.proofs.spans_clear.Goals as goal

pub returns : goal.returns
unfolding spans_clear
returns c = rw (c.all_zero-2.ensures, c.are_padded.ensures, c.all_zero.ensures, c.from-n.ensures)
