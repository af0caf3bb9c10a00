-- `push_pass`: the name, and then the word.
use Rattle.std.proofs.Common.{arith}
use Rattle.sheet_text.specs.Sheets.{pass_line}
use Rattle.sheet_text.proofs.Appends.{appended_most, ◌⨾◌}
use Rattle.sheet_text.proofs.text.Text.push_pass.Goals as goal

pub returns : goal.returns
unfolding pass_line
returns c = appended_most (omega arith) (c.push_name.ensures ⨾ c.push.ensures)
