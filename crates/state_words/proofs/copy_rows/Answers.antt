-- `copy_rows`: past the header a state has as many words as the reports.
use Rattle.std.proofs.Common.{length-drop, arith}
use Rattle.std.proofs.lemmas.List.{length-take}
use Rattle.state_words.proofs.copy_rows.Goals as goal

pub copy_items-requires : goal.copy_items-requires
copy_items-requires c = simp (length-take, length-drop) (omega arith)
