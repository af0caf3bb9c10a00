-- `push_evidence`: the five numbers, one after the other.
use Rattle.sheet_text.specs.Sheets.{evidence_text}
use Rattle.sheet_text.proofs.Appends.{◌⨾◌}
use Rattle.sheet_text.proofs.text.Text.push_evidence.Goals as goal

pub returns : goal.returns
unfolding evidence_text
returns c =
    c.push_number.ensures ⨾ c.push_number-2.ensures ⨾ c.push_number-3.ensures ⨾ c.push_number-4.ensures ⨾ c.push_number-5.ensures
