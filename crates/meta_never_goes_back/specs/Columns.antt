-- What the column of `MetaNeverGoesBack` holds: as of each record, the number of the latest name, and a mark. What a note promises.
use Rattle.std.specs.Prelude.{◌≡◌, Bool, cond, not, ◌&&◌, List, ◌∷◌, ℕ, ◌+◌, ◌-◌, ◌*◌, ◌%◌, eqb, ltb, leb, length, get_or}
use Rattle.record.specs.Records.{TraceRecord}
use Rattle.rules.specs.History.{History, Tells, when, any_of}
use Rattle.rules.specs.MetaNeverGoesBack.{Name, is_won, names}
use Rattle.history.specs.Columns.{Column, cell_of, latest_in, clamp}
use Rattle.history.specs.Places.{latest_name}

-- the names, all in one bucket: those of any key can stand at a new record's keys
unfoldable pub name_bucket : Tells ℕ
name_bucket x h = when (is_won x) 0

-- the number of the latest name, 0 where there is none
abbrev pub last_name : History → ℕ
last_name h = latest_in name_bucket h 0

-- a new name surpasses an earlier one, which has a lower index and no higher generation
abbrev pub surpasses : TraceRecord → Name → Bool
surpasses x n = ltb n.index x.b && leb n.generation x.d

abbrev pub unsurpassed : TraceRecord → Name → Bool
unsurpassed x n = not (surpasses x n)

-- the record names, and surpasses every earlier name
unfoldable pub is_highest : TraceRecord → History → Bool
is_highest x h = is_won x && not (any_of (unsurpassed x) (names h))

-- the word of a record: the number as of it, itself included, which is at most 4096, and above it the mark of a highest name
abbrev pub name_as_of : TraceRecord → History → ℕ
name_as_of x h = last_name (x ∷ h) + cond (is_highest x h) 8192 0

-- the column is what the history says
pub record MetaIndexed (cap : ℕ) (h : History) (work : List ℕ) : Type 0 where
  pub names : Column (cell_of name_as_of h) (latest_name * cap) cap work

-- the number of the latest name among the first k records, as the word of the record before place k has it without its mark;
-- never above k, whatever the work area holds
unfoldable pub name_before : ℕ → List ℕ → ℕ → ℕ
name_before cap work k = cond (eqb k 0) 0 (clamp (get_or work (latest_name * cap + (k - 1)) 0 % 8192) k)

-- one more record x, the one after those of h: its word is all that changes, and the column is what the history with it says
pub record MetaNoted (cap : ℕ) (h : History) (x : TraceRecord) (work work' : List ℕ) : Type 0 where
  pub len : length work' ≡ length work
  pub others : (j : ℕ) → (j ≡ latest_name * cap + length h → ⊥) → get_or work' j 0 ≡ get_or work j 0
  pub indexed : MetaIndexed cap h work → MetaIndexed cap (x ∷ h) work'
