-- `sheet`: a short buffer stays as it was; in another the lines of the checks, and then the last.
use Rattle.std.proofs.Common.{refl, rules}
use Rattle.sheet_text.specs.Sheets.{sheet_text}
use Rattle.sheet_text.proofs.Appends.{◌⨾◌}
use Rattle.sheet_text.proofs.Printed.{long_sheet}
use Rattle.sheet_text.proofs.sheet.Goals as goal

pub returns-clause-value : goal.returns-clause-value
unfolding sheet_text
returns-clause-value c = (long_sheet refl c.if-out-lt-SHEET_SIZE.false (c.push_lines.ensures ⨾ c.push_last.ensures)).0

pub returns-clause-out_after : goal.returns-clause-out_after
unfolding sheet_text
returns-clause-out_after c =
    let whole = long_sheet refl c.if-out-lt-SHEET_SIZE.false (c.push_lines.ensures ⨾ c.push_last.ensures) in
    search (rules, whole.1, c.push_lines.ensures.same, c.push_last.ensures.same)
