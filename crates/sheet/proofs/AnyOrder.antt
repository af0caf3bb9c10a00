-- Grants in any order, for readers of two sheets: the ids line is a pass in both or a fault in both. Assumes nothing.
use mathlib.Core.Path.{◌≡◌}
use mathlib.Core.List.{List, Perm}
use Prim.Native.Nat.{ℕ}
use native.Mathlib.Omega.{arith}
use Rattle.rules.specs.declared.Evidence.{Evidence}
use Rattle.rules.specs.Reports.{passed, faulted}
use Rattle.rules.specs.AnyOrder.{grants_of, ids_place, ids_of, Alike, pass, fault}
use Rattle.rules.proofs.Checks.{check_right}
use Rattle.rules.proofs.AnyOrder.{ids_any_order}
use Rattle.sheet_text.specs.Sheets.{pass_line, name_at, line_at}
use Rattle.sheet.specs.Printing.{opening}
use Rattle.sheet.specs.Readers.{taken, FaultLine, SheetSays, LinesAlike, both_pass, both_fault}

-- the ids line of a sheet is that of the ids report of the records taken
module _ (input : List ℕ) {bytes : List ℕ} (s : SheetSays input bytes) where
  pass_line_lem : ids_of opening (taken input) ≡ passed → line_at ids_place bytes ≡ pass_line (name_at ids_place)
  pass_line_lem e = (s.check_line ids_place (omega arith)).pass_if ((check_right opening (taken input) ids_place (omega arith)).pass_only e)

  fault_line : (n kind : ℕ) (e : Evidence) → ids_of opening (taken input) ≡ faulted n kind e → FaultLine (name_at ids_place) (line_at ids_place bytes)
  fault_line n kind e q = record {
    kind = kind;
    at = n;
    evidence = e;
    is = (s.check_line ids_place (omega arith)).fault_if kind n e ((check_right opening (taken input) ids_place (omega arith)).fault_only n kind e q);
  }

module _ (input other : List ℕ) {bytes bytes' : List ℕ} (s : SheetSays input bytes) (u : SheetSays other bytes') where
  alike_lines : Alike (ids_of opening (taken input)) (ids_of opening (taken other))
      → LinesAlike (name_at ids_place) (line_at ids_place bytes) (line_at ids_place bytes')
  alike_lines (pass p q) = both_pass (pass_line_lem input s p) (pass_line_lem other u q)
  alike_lines (fault n m kind last e d p q) = both_fault (fault_line input s n kind e p) (fault_line other u m last d q)

  -- TWO SHEETS of inputs whose grants taken are the same with the same repeats, in whichever order
  pub sheets_any_order : Perm (grants_of (taken input)) (grants_of (taken other))
      → LinesAlike (name_at ids_place) (line_at ids_place bytes) (line_at ids_place bytes')
  sheets_any_order q = alike_lines (ids_any_order opening opening (taken input) (taken other) q)
