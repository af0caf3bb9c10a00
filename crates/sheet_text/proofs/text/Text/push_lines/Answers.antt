-- `push_lines`: after k turns the lines of the first k checks are written.
use Rattle.sheet_text.proofs.Lines.{lines_none, lines_more}
use Rattle.sheet_text.proofs.text.Text.push_lines.Goals as goal

pub loop-k-init : goal.loop-k-init
loop-k-init c = lines_none c.args.reports

pub loop-k-preserved : goal.loop-k-preserved
loop-k-preserved c = lines_more c.args.reports c.loop-k.k c.loop-k.invariant c.push_report.ensures
