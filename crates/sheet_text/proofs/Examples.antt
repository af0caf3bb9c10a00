-- Numbers in decimal, and document 01's example sheet: the checker computes them.
use mathlib.Core.Path.{◌≡◌, refl}
use mathlib.Core.List.{List, [], ◌∷◌}
use Rattle.rules.specs.declared.Report.{Report}
use Rattle.rules.specs.Cases.{evidence}
use Rattle.rules.specs.Reports.{passed, faulted}
use Rattle.sheet_text.specs.Sheets.{text, decimal_in, decimal, spaced, evidence_text, pass_line, fault_line, lines_to, refused_text, last_line, sheet_text}

pub decimal_zero : decimal 0 ≡ text "0"
unfolding decimal_in decimal
decimal_zero = refl

pub decimal_hundred : decimal 100 ≡ text "100"
unfolding decimal_in decimal
decimal_hundred = refl

pub decimal_capacity : decimal 4096 ≡ text "4096"
unfolding decimal_in decimal
decimal_capacity = refl

abbrev passes : List Report
passes = passed ∷ passed ∷ passed ∷ passed ∷ passed ∷ passed ∷ passed ∷ passed ∷ []

-- E1: no records
pub sheet_none : sheet_text passes 0 0 0
    ≡ text "agreement pass\noverlap pass\ninstall pass\ntwice pass\nhalf pass\ngenerations pass\nids pass\nmeta pass\nrecords 0\n"
unfolding decimal_in decimal spaced pass_line lines_to refused_text last_line sheet_text
sheet_none = refl

-- E2: grants 10 to 19 and 19 to 30
abbrev shared : List Report
shared =
    passed ∷ passed ∷ passed ∷ passed ∷ passed ∷ passed ∷ faulted 2 3 (evidence (6 ∷ 10 ∷ [])) ∷ passed ∷ []

pub sheet_shared : sheet_text shared 2 0 2
    ≡ text "agreement pass\noverlap pass\ninstall pass\ntwice pass\nhalf pass\ngenerations pass\nids fault 3 at 2: 6 10 0 0 0\nmeta pass\nrecords 2\n"
unfolding decimal_in decimal spaced evidence_text pass_line fault_line lines_to refused_text last_line sheet_text
sheet_shared = refl

-- a record after those of a full log
pub sheet_refused : sheet_text passes 96 6 97
    ≡ text "agreement pass\noverlap pass\ninstall pass\ntwice pass\nhalf pass\ngenerations pass\nids pass\nmeta pass\nrecords 96 refused 6 at 97\n"
unfolding decimal_in decimal spaced pass_line lines_to refused_text last_line sheet_text
sheet_refused = refl
