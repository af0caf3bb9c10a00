-- Grants in any order: the grants of the records taken, when the ids check passes them, said of pairs, and what two traces with the same
-- grants have in common.
use Rattle.std.specs.Prelude.{◌≡◌, true, List, [], ◌∷◌, map, ℕ, ◌≤◌, length}
use Rattle.record.specs.Records.{TraceRecord}
use Rattle.rules.specs.declared.Evidence.{Evidence}
use Rattle.rules.specs.declared.Opening.{Opening}
use Rattle.rules.specs.declared.Report.{Report}
use Rattle.rules.specs.History.{History, Mem, is_kind, those}
use Rattle.rules.specs.IdsUnique.{Grant, grant_by, nonempty, contains, holders_of}
use Rattle.rules.specs.Reports.{passed, faulted}
use Rattle.rules.specs.Checks.{check_at, report_by}
use Rattle.rules.specs.Builders.{leased}

-- "RangeIdsLeased records taken", newest first, and their grants: the first at each index and every repeat
abbrev pub leased_of : History → List TraceRecord
leased_of h = those (is_kind 11) h

abbrev pub grants_of : History → List Grant
grants_of h = map grant_by (leased_of h)

-- two grants that do not contradict each other, whichever comes first: at one index they are one grant, at two they share no id
pub record Agree (g o : Grant) : Type 0 where
  pub one : g.index ≡ o.index → g ≡ o
  pub apart : (g.index ≡ o.index → ⊥) → (id : ℕ) → contains id g ≡ true → contains id o ≡ true → ⊥

-- the grants of a passing trace: each has an id, and every two agree. There is no order in it, and no first grant
pub record Unique (gs : List Grant) : Type 0 where
  pub some : (g : Grant) → Mem g gs → nonempty g ≡ true
  pub pairs : (g o : Grant) → Mem g gs → Mem o gs → Agree g o

-- the place of the ids check in the table, which `ids_place_lem` holds to its word in the sheet, and its report of a history
abbrev pub ids_place : ℕ
ids_place = 6

abbrev pub ids_of : Opening → History → Report
ids_of o h = report_by o h (check_at ids_place)

-- "passes both or faults both. Position and kind may differ"
pub data Alike (r s : Report) : Type 0 where
  pass : r ≡ passed → s ≡ passed → Alike r s
  fault : (n m kind other : ℕ) (e d : Evidence) → r ≡ faulted n kind e → s ≡ faulted m other d → Alike r s

-- "at most one holder for every id"
abbrev pub AtMostOneHolder : History → Type 0
AtMostOneHolder h = (id : ℕ) → length (holders_of id h) ≤ 1

-- three grants, of which two share an id and one has none, as two stations log them: the records newest first
abbrev pub one_log : History
one_log = leased 3 7 1 8 7 ∷ leased 2 6 1 19 30 ∷ leased 1 5 1 10 19 ∷ []

abbrev pub other_log : History
other_log = leased 1 5 1 10 19 ∷ leased 2 6 1 19 30 ∷ leased 3 7 1 8 7 ∷ []
