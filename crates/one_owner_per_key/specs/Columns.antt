-- The columns that `OneOwnerPerKey` owns in the work area, each word a written function of the history.
use Rattle.std.specs.Prelude.{◌≡◌, Bool, true, false, cond, ◌&&◌, ◌||◌, List, ◌∷◌, ℕ, ◌+◌, ◌-◌, ◌*◌, ◌/◌, ◌%◌, ◌≤◌, ◌<◌, length, get_or, eqb, Option, None, Some}
use Rattle.record.specs.Named.{Node}
use Rattle.record.specs.Records.{TraceRecord}
use Rattle.rules.specs.History.{History, Tells, is_kind, when}
use Rattle.history.specs.Buckets.{bucket_by, bucket_by_two}
use Rattle.history.specs.Columns.{Column, cell_of, Chained, clamp, number_in, Entered}
use Rattle.history.specs.Places.{hold_heads, hold_links, node_heads, node_links, newly_held, ended_at}
use Rattle.one_owner_per_key.specs.Numbers.{latest_newly, latest_end, newly_holds}

-- ---- the chains

-- the records chained by node and range: those of kinds 1, 2 and 9, which say what is held, and for the right half's
-- clause those of kind 7 and the RaftApplys that took (sub-code 4)
abbrev pub is_chained : TraceRecord → Bool
is_chained x = is_kind 1 x || is_kind 2 x || is_kind 7 x || is_kind 9 x || (is_kind 3 x && eqb x.code 4)

-- the bucket of a record by its node: none without one
abbrev pub hold_bucket : ℕ → TraceRecord → Node → Option ℕ
hold_bucket cap x None = None
hold_bucket cap x (Some n) = when (is_chained x) (bucket_by_two cap n.0 x.a)

unfoldable pub by_hold : ℕ → Tells ℕ
by_hold cap x h = hold_bucket cap x x.node

-- every marked record, by its node
abbrev pub node_of : ℕ → Node → Option ℕ
node_of cap None = None
node_of cap (Some n) = Some (bucket_by cap n.0)

unfoldable pub by_owner : ℕ → Tells ℕ
by_owner cap x h = node_of cap x.node

-- ---- the cells

-- a marked record's word by its node, 0 of an unmarked one
abbrev pub word_by : (ℕ → ℕ) → Node → ℕ
word_by f None = 0
word_by f (Some n) = f n.0

-- a test as a number
abbrev pub bit : Bool → ℕ
bit b = cond b 1 0

-- whether the record newly holds its range, and before that the number of the latest record of its node that newly held one
unfoldable pub newly_cell : TraceRecord → History → ℕ
newly_cell x h = word_by (λ n. 2 * latest_newly n h + bit (newly_holds n x h)) x.node

-- the number of its node's latest crash or refusal as of the record, itself included
unfoldable pub ended_cell : TraceRecord → History → ℕ
ended_cell x h = word_by (λ n. latest_end n (x ∷ h)) x.node

-- ---- the columns

-- the columns say what the history says: the two chains, and the two cells of each record
pub record OwnersIndexed (cap : ℕ) (h : History) (work : List ℕ) : Type 0 where
  pub held : Chained (by_hold cap) (hold_heads * cap) (hold_links * cap) cap h work
  pub nodes : Chained (by_owner cap) (node_heads * cap) (node_links * cap) cap h work
  pub newly : Column (cell_of newly_cell h) (newly_held * cap) cap work
  pub ended : Column (cell_of ended_cell h) (ended_at * cap) cap work

-- a record noted as the next: no word of another's column changes, and what the columns said they say with the record
pub record OwnersNoted (cap : ℕ) (h : History) (x : TraceRecord) (work work' : List ℕ) : Type 0 where
  pub len : length work' ≡ length work
  pub below : (j : ℕ) → j < hold_heads * cap → get_or work' j 0 ≡ get_or work j 0
  pub above : (j : ℕ) → ended_at * cap + cap ≤ j → get_or work' j 0 ≡ get_or work j 0
  pub indexed : OwnersIndexed cap h work → OwnersIndexed cap (x ∷ h) work'

-- ---- what is read

-- the node's latest end, read at its latest record
abbrev pub end_in : List ℕ → ℕ → ℕ → ℕ
end_in work cap last = number_in (ended_at * cap) work last

-- the latest record before this one at which the node newly held a range
abbrev pub before_in : List ℕ → ℕ → ℕ → ℕ
before_in work cap k = clamp (get_or work (newly_held * cap + (k - 1)) 0 / 2) (k - 1)

-- the latest record up to this one at which the node newly held a range
abbrev pub newest_in : List ℕ → ℕ → ℕ → ℕ
newest_in work cap last =
    cond (eqb last 0) 0 (cond (eqb (get_or work (newly_held * cap + (last - 1)) 0 % 2) 1) last (before_in work cap last))

-- a record entered into the chain of a bucket, where it is one that is chained
abbrev pub EnteredIf : Bool → List ℕ → List ℕ → ℕ → ℕ → ℕ → ℕ → Type 0
EnteredIf true work work' heads links n b = Entered work work' heads links n b
EnteredIf false work work' heads links n b = work' ≡ work
