-- `push_refused`: the parts of the text, one after the other, or nothing.
use Rattle.std.proofs.Common.{arith}
use Rattle.sheet_text.proofs.Appends.{appended_none, appended_most, ◌⨾◌}
use Rattle.sheet_text.proofs.Lines.{refused_none, refused_some}
use Rattle.sheet_text.proofs.text.Text.push_refused.Goals as goal

pub returns-then-refusal-ne0 : goal.returns-then-refusal-ne0
returns-then-refusal-ne0 c =
    rw (refused_some _ c.args.position c.if-refusal-ne0.true) (c.push.ensures
    ⨾ c.push_number.ensures
    ⨾ c.push-then-refusal-ne0.ensures
    ⨾ c.push_number-then-refusal-ne0.ensures)

pub returns-else-refusal-ne0 : goal.returns-else-refusal-ne0
returns-else-refusal-ne0 c = rw (refused_none _ c.args.position c.if-refusal-ne0.false) (appended_most (omega arith) appended_none)
