-- `push_number`: a space, and then the number.
use Rattle.std.proofs.Common.{arith}
use Rattle.sheet_text.specs.Sheets.{spaced}
use Rattle.sheet_text.proofs.Appends.{appended_most, ◌⨾◌}
use Rattle.sheet_text.proofs.Decimals.{decimal_length}
use Rattle.sheet_text.proofs.text.Text.push_number.Goals as goal

pub push_digits-requires : goal.push_digits-requires
push_digits-requires c = omega (arith, c.requires, decimal_length _ c.ranges.n.fits)

pub returns : goal.returns
unfolding spaced
returns c = appended_most (omega (arith, decimal_length _ c.ranges.n.fits)) (c.push.ensures ⨾ c.push_digits.ensures)
