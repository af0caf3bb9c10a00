-- `push_fault`: the parts of the line, one after the other.
use Rattle.std.proofs.Common.{arith}
use Rattle.sheet_text.specs.Sheets.{fault_line}
use Rattle.sheet_text.proofs.Appends.{appended_most, ◌⨾◌}
use Rattle.sheet_text.proofs.text.Text.push_fault.Goals as goal

pub returns : goal.returns
unfolding fault_line
returns c =
    appended_most (omega arith) (c.push_name.ensures
    ⨾ c.push.ensures
    ⨾ c.push_number.ensures
    ⨾ c.push-2.ensures
    ⨾ c.push_number-2.ensures
    ⨾ c.push-3.ensures
    ⨾ c.push_evidence.ensures
    ⨾ c.push-4.ensures)
