-- Each number is used, or all of its bytes are zero.
use native.Mathlib.Omega.{arith}
use Rattle.form.specs.Form.{numbers_clear}
use Rattle.form.proofs.numbers_clear.Goals as goal

pub slice_bounds-all_zero-end-5 : goal.slice_bounds-all_zero-end-5
slice_bounds-all_zero-end-5 c = omega (arith, c.requires)

pub returns : goal.returns
unfolding numbers_clear
returns c = rw (c.all_zero-5.ensures, c.all_zero-4.ensures, c.all_zero-3.ensures, c.all_zero-2.ensures, c.all_zero.ensures)
