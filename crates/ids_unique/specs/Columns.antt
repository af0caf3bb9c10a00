-- The columns of `IdsUnique`: the latest block and the greatest last, each as of every record. What they hold, and what a note
-- promises.
use Rattle.std.specs.Prelude.{◌≡◌, true, false, List, [], ◌∷◌, ℕ, ◌*◌, ◌≤◌, ◌<◌, max, length, get_or, Some}
use Rattle.record.specs.Records.{TraceRecord}
use Rattle.rules.specs.History.{History, Tells, is_kind, when, given}
use Rattle.rules.specs.IdsUnique.{Grant, nonempty, blocks_of}
use Rattle.history.specs.Columns.{Column, cell_of, latest_in}
use Rattle.history.specs.Places.{first_heads, key_heads, block_links, greatest_last, hold_heads}
use Rattle.firsts.specs.Columns.{first_grant, FirstsIndexed}

-- the block of a record: its first grant, where that is not empty
unfoldable pub tells_block : Tells Grant
tells_block x h = given (λ g. when (nonempty g) g) (first_grant x h)

-- the records with a block, as one chain
unfoldable pub block_bucket : Tells ℕ
block_bucket x h = given (λ g. Some 0) (tells_block x h)

-- the number of the latest record with a block, 0 where there is none
abbrev pub latest_block : History → ℕ
latest_block h = latest_in block_bucket h 0

abbrev pub block_link : TraceRecord → History → ℕ
block_link x h = latest_block (x ∷ h)

-- the greatest last among blocks, 0 where there is none
unfoldable pub greatest_of_lasts : List Grant → ℕ
greatest_of_lasts [] = 0
greatest_of_lasts (g ∷ gs) = max g.last (greatest_of_lasts gs)

abbrev pub last_after : TraceRecord → History → ℕ
last_after x h = greatest_of_lasts (blocks_of (x ∷ h))

-- the columns of the blocks are what the history says
pub record IdsIndexed (cap : ℕ) (h : History) (work : List ℕ) : Type 0 where
  pub links : Column (cell_of block_link h) (block_links * cap) cap work
  pub lasts : Column (cell_of last_after h) (greatest_last * cap) cap work

-- the columns of `IdsUnique` one record on. The chain of the firsts too, but for a RaftApply, which `GenerationsRise` enters
pub record IdsNoted (cap : ℕ) (h : History) (x : TraceRecord) (work work' : List ℕ) : Type 0 where
  pub len : length work' ≡ length work
  pub below : (j : ℕ) → j < first_heads * cap → get_or work' j 0 ≡ get_or work j 0
  pub between : (j : ℕ) → key_heads * cap ≤ j → j < block_links * cap → get_or work' j 0 ≡ get_or work j 0
  pub above : (j : ℕ) → hold_heads * cap ≤ j → get_or work' j 0 ≡ get_or work j 0
  pub ids : (is_kind 11 x ≡ true → FirstsIndexed cap h work) → IdsIndexed cap h work → IdsIndexed cap (x ∷ h) work'
  pub firsts : is_kind 3 x ≡ false → FirstsIndexed cap h work → FirstsIndexed cap (x ∷ h) work'
  pub firsts_kept : is_kind 3 x ≡ true → (j : ℕ) → j < block_links * cap → get_or work' j 0 ≡ get_or work j 0
