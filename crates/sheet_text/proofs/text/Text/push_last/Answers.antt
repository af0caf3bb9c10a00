-- `push_last`: the parts of the line, one after the other.
use Rattle.sheet_text.specs.Sheets.{last_line}
use Rattle.sheet_text.proofs.Appends.{◌⨾◌}
use Rattle.sheet_text.proofs.text.Text.push_last.Goals as goal

pub returns : goal.returns
unfolding last_line
returns c = c.push.ensures ⨾ c.push_number.ensures ⨾ c.push_refused.ensures ⨾ c.push-2.ensures
