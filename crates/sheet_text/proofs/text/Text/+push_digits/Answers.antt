-- `push_digits`, the one function that calls itself: a digit alone, or the tenth part and then the last digit.
use Rattle.std.proofs.Common.{arith, ◌+◌, ◌/◌, length}
use Rattle.sheet_text.specs.Sheets.{decimal}
use Rattle.sheet_text.proofs.Appends.{appended_most, ◌⨾◌}
use Rattle.sheet_text.proofs.Decimals.{decimal_small, decimal_large, small_length, large_length}
use Rattle.sheet_text.proofs.text.Text.+push_digits.Goals as goal

pub push-requires : goal.push-requires
push-requires t c = omega (arith, c.requires, small_length _ c.if-n-lt10.true)

pub push_digits-requires : goal.push_digits-requires
push_digits-requires t c = (omega (arith, c.decreases), omega (arith, c.requires, large_length _ c.if-n-lt10.false))

pub push-requires-else-n-lt10 : goal.push-requires-else-n-lt10
push-requires-else-n-lt10 t c = omega (arith, c.requires, large_length _ c.if-n-lt10.false, c.push_digits.ensures.end, c.push_digits.ensures.size)

pub returns-then-n-lt10 : goal.returns-then-n-lt10
returns-then-n-lt10 t c = rw (decimal_small c.args.n c.if-n-lt10.true) c.push.ensures

pub returns-else-n-lt10 : goal.returns-else-n-lt10
returns-else-n-lt10 t c =
    let n = c.args.n in
    let l = c.if-n-lt10.false in
    appended_most {p = length (decimal (n / 10)) + 1} (omega (arith, large_length n l)) (rw (decimal_large n l) (c.push_digits.ensures ⨾ c.push-else-n-lt10.ensures))
