-- The columns of nodes and splits in the work area, each word a written function of the history, and what a note promises of them.
use Rattle.std.specs.Prelude.{◌≡◌, Bool, false, cond, not, ◌&&◌, List, ◌∷◌, ℕ, ◌+◌, ◌-◌, ◌*◌, ◌/◌, ◌%◌, ◌≤◌, ◌<◌, length, get_or, eqb, Some, None}
use Rattle.record.specs.Named.{Node}
use Rattle.record.specs.Records.{TraceRecord}
use Rattle.rules.specs.History.{History, Tells, is_kind, when, given}
use Rattle.rules.specs.RightHalf.{server_of, is_restated, registers}
use Rattle.history.specs.Buckets.{mix, mix_after, bucket}
use Rattle.history.specs.Columns.{Column, cell_of, Chained, clamp}
use Rattle.history.specs.Places.{server_at, restated_at, refused_at, pending_at, registered_by, latest_name, split_heads, split_links, recorded_heads, recorded_links}
use Rattle.one_owner_per_key.specs.Columns.{word_by, OwnersIndexed}
use Rattle.splits.specs.declared.note.Cells.{Cells}
use Rattle.splits.specs.Numbers.{restated_number, refused_number, pending_number, latest_registering, named_number}

-- ---- the chains

-- the registering records, by parent and index
abbrev pub split_bucket : ℕ → ℕ → ℕ → ℕ
split_bucket cap parent index = bucket cap (mix_after (mix parent) index)

unfoldable pub by_split : ℕ → Tells ℕ
by_split cap x h = given (λ s. Some (split_bucket cap s.parent s.index)) (registers x h)

-- the kind 2 records that record an index, by range
abbrev pub recorded_bucket : ℕ → ℕ → ℕ
recorded_bucket cap range = bucket cap (mix range)

-- "While not restated, kind 2 also records that applied index for the range"
abbrev pub records_by : TraceRecord → History → Node → Bool
records_by x h None = false
records_by x h (Some n) = is_kind 2 x && not (is_restated n.0 h)

unfoldable pub by_recording : ℕ → Tells ℕ
by_recording cap x h = when (records_by x h x.node) (recorded_bucket cap x.a)

-- ---- the cells, each as of its record for its node, the record itself included; 0 of an unmarked one

unfoldable pub server_cell : TraceRecord → History → ℕ
server_cell x h = word_by (λ n. (server_of n (x ∷ h)).0) x.node

unfoldable pub restated_cell : TraceRecord → History → ℕ
restated_cell x h = word_by (λ n. restated_number n (x ∷ h)) x.node

unfoldable pub refused_cell : TraceRecord → History → ℕ
refused_cell x h = word_by (λ n. refused_number n (x ∷ h)) x.node

unfoldable pub pending_cell : TraceRecord → History → ℕ
pending_cell x h = word_by (λ n. pending_number n (x ∷ h)) x.node

-- of every record: the record that names the right range of the split it registers, and the latest registering record so far
unfoldable pub registered_cell : TraceRecord → History → ℕ
registered_cell x h = 8192 * named_number x h + latest_registering (x ∷ h)

-- ---- the columns

pub record HalfIndexed (cap : ℕ) (h : History) (work : List ℕ) : Type 0 where
  pub servers : Column (cell_of server_cell h) (server_at * cap) cap work
  pub restated : Column (cell_of restated_cell h) (restated_at * cap) cap work
  pub refused : Column (cell_of refused_cell h) (refused_at * cap) cap work
  pub pendings : Column (cell_of pending_cell h) (pending_at * cap) cap work
  pub registered : Column (cell_of registered_cell h) (registered_by * cap) cap work
  pub splits : Chained (by_split cap) (split_heads * cap) (split_links * cap) cap h work
  pub recordings : Chained (by_recording cap) (recorded_heads * cap) (recorded_links * cap) cap h work

-- what the look-backs rely on: the columns are what the history says, the owners' and these
abbrev pub Known : ℕ → History → List ℕ → Type 0
Known cap h work = OwnersIndexed cap h work × HalfIndexed cap h work

-- a record noted as the next: no word of another's column changes, and what the columns said they say with the record
pub record HalfNoted (cap : ℕ) (h : History) (x : TraceRecord) (work work' : List ℕ) : Type 0 where
  pub len : length work' ≡ length work
  pub below : (j : ℕ) → j < server_at * cap → get_or work' j 0 ≡ get_or work j 0
  pub names : (j : ℕ) → latest_name * cap ≤ j → j < latest_name * cap + cap → get_or work' j 0 ≡ get_or work j 0
  pub above : (j : ℕ) → recorded_links * cap + cap ≤ j → get_or work' j 0 ≡ get_or work j 0
  pub indexed : OwnersIndexed cap h work → HalfIndexed cap h work → HalfIndexed cap (x ∷ h) work'

-- ---- what is written of a record

-- what is computed of it before anything is written
pub record Celled (cap : ℕ) (x : TraceRecord) (h : History) (r : Cells) : Type 0 where
  pub server : r.server ≡ server_cell x h
  pub restated : r.restated ≡ restated_cell x h
  pub refused : r.refused ≡ refused_cell x h
  pub pending : r.pending ≡ pending_cell x h
  pub registered : r.registered ≡ registered_cell x h
  pub split : r.split ≡ by_split cap x h
  pub recording : r.recording ≡ by_recording cap x h

-- the five cells written at the place n: all that changes
pub record CellsPut (work work' : List ℕ) (cap n : ℕ) (r : Cells) : Type 0 where
  pub len : length work' ≡ length work
  pub server : get_or work' (server_at * cap + n) 0 ≡ r.server
  pub restated : get_or work' (restated_at * cap + n) 0 ≡ r.restated
  pub refused : get_or work' (refused_at * cap + n) 0 ≡ r.refused
  pub pending : get_or work' (pending_at * cap + n) 0 ≡ r.pending
  pub registered : get_or work' (registered_by * cap + n) 0 ≡ r.registered
  pub others : (j : ℕ) → (j ≡ server_at * cap + n → ⊥) → (j ≡ restated_at * cap + n → ⊥) → (j ≡ refused_at * cap + n → ⊥)
      → (j ≡ pending_at * cap + n → ⊥) → (j ≡ registered_by * cap + n → ⊥) → get_or work' j 0 ≡ get_or work j 0

-- ---- what is read

-- a node's own number where it has no record, and else the server read at its latest record
abbrev pub server_in : List ℕ → ℕ → ℕ → ℕ → ℕ
server_in work cap last node = cond (eqb last 0) node (get_or work (server_at * cap + (last - 1)) 0)

-- the latest registering record so far
abbrev pub registering_in : List ℕ → ℕ → ℕ → ℕ
registering_in work cap k = cond (eqb k 0) 0 (clamp (get_or work (registered_by * cap + (k - 1)) 0 % 8192) k)

-- the record that names the right range of the split that the record at a place registers
abbrev pub named_in : List ℕ → ℕ → ℕ → ℕ
named_in work cap at = get_or work (registered_by * cap + at) 0 / 8192
