-- `write_rows`: row by row.
use Rattle.std.proofs.Common.{◌≡◌, ℕ, ◌≤◌, ◌<◌, get_or, take}
use Rattle.std.proofs.lemmas.List.Edits.{sets}
use Rattle.rules.specs.Reports.{passed}
use Rattle.rows.specs.Rows.{kind_word, rows_of}
use Rattle.rows.proofs.write_rows.Given as goal

abbrev pub invariant-loop-k : goal.invariant-loop-k
invariant-loop-k l = record {
  is : l.out ≡ sets l.initial.out l.at (rows_of (take l.k l.report-items));
  kinds : (j : ℕ) → j < l.k → kind_word (get_or l.report-items j passed).verdict ≤ 255;
}
