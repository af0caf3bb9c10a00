-- `write_rows`: row by row.
use Rattle.std.proofs.Common.{◌≡◌, length, ◌∙◌, below_more, rules, arith}
use Rattle.rows.proofs.Rows.{rows_none, rows_more, rows_all}
use Rattle.rows.proofs.write_rows.Goals as goal

pub loop-k-init : goal.loop-k-init
loop-k-init c = record { is = rows_none c.args.out.now c.args.at c.args.reports; kinds = λ j l. absurd (omega arith) }

pub loop-k-preserved : goal.loop-k-preserved
loop-k-preserved c =
    let a = c.args in
    let l = c.loop-k in
    let n : length a.reports ≡ 8 = search rules in
    record {
      is = c.write_report.ensures.0 ∙ rows_more a.out.now l.out a.at a.reports l.k (omega arith) l.invariant.is;
      kinds = below_more _ _ l.invariant.kinds c.write_report.ensures.1;
    }

pub returns : goal.returns
returns c =
    let a = c.args in
    let l = c.loop-k in
    let n : length a.reports ≡ 8 = search rules in
    record {
      many = n;
      kinds = λ j m. l.invariant.kinds j (omega arith);
      is = rows_all a.out.now l.out a.at a.reports l.k (omega arith) l.invariant.is;
    }
