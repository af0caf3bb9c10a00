-- `write_report`: the seven words are stored from the place on.
use Rattle.std.proofs.Common.{◌≡◌, ◌+◌, ◌-◌, ap, ◌∙◌, rules, arith}
use borrow.Rule.Slice.PartMut.{put_mid}
use Rattle.record.proofs.Lists.{put_sets}
use Rattle.rows.specs.Rows.{report_words}
use Rattle.rows.proofs.write_report.Goals as goal

pub returns : goal.returns
returns c =
    let a = c.args in
    let words : c.copy_from_slice.new.self ≡ report_words a.report = search rules in
    (ap (put_mid a.at (a.at + 7 - a.at) a.out.now) words ∙ put_sets a.out.now a.at _ (report_words a.report) (omega arith) (omega arith), search rules)
