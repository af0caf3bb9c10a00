-- `read_rows`: the report at each place is the one read there.
use Rattle.std.proofs.Common.{◌+◌, ◌*◌, ◌∙◌, rules}
use Rattle.record.proofs.Ranges.{made_by}
use Rattle.rows.specs.Rows.{report_in}
use Rattle.rows.proofs.ReadBack.{reports_range}
use Rattle.rows.proofs.read_rows.Goals as goal

pub returns : goal.returns
returns c =
    let a = c.args in
    made_by (λ k. report_in a.words.now (a.at + 7 * k)) _ c.from_fn.result 8 c.from_fn.ensures.items (λ k y q m. search rules)
    ∙ reports_range a.words.now a.at
