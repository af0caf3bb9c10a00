-- `push_lines`: after k turns the lines of the first k checks are written.
use Rattle.std.proofs.Common.{◌*◌}
use Rattle.sheet_text.specs.Sheets.{line_size, lines_to}
use Rattle.sheet_text.specs.Appends.{Appended}
use Rattle.sheet_text.proofs.text.Text.push_lines.Given as goal

abbrev pub invariant-loop-k : goal.invariant-loop-k
invariant-loop-k l = Appended (line_size * l.k) l.initial.self l.self (lines_to l.k l.report-items)
