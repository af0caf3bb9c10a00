-- The right half's columns at the opening, and where other columns are written.
use mathlib.Core.Path.{◌≡◌}
use mathlib.Core.List.{List, []}
use Prim.Native.Nat.{ℕ, ◌+◌, ◌*◌, ◌≤◌, ◌<◌}
use native.Mathlib.Omega.{arith}
use lib.ListN.{get_or}
use Rattle.rules.specs.History.{History}
use Rattle.history.specs.Columns.{Column}
use Rattle.history.proofs.Cells.{Same, column_agrees, Zeros, column_clear}
use Rattle.history.proofs.Chains.{chained_agrees, chained_clear}
use Rattle.splits.specs.Columns.{server_cell, restated_cell, refused_cell, pending_cell, registered_cell, HalfIndexed}

-- a work area of zeros says what there is to say of no records
pub half_clear : {cap : ℕ} {work : List ℕ} → Zeros work → HalfIndexed cap [] work
half_clear z = record {
  servers = column_clear server_cell z;
  restated = column_clear restated_cell z;
  refused = column_clear refused_cell z;
  pendings = column_clear pending_cell z;
  registered = column_clear registered_cell z;
  splits = chained_clear z;
  recordings = chained_clear z;
}

-- the columns 22 to 26 and 28 to 31 say all
module _ {cap : ℕ} {work work' : List ℕ} (cells : (j : ℕ) → 22 * cap ≤ j → j < 27 * cap → get_or work' j 0 ≡ get_or work j 0)
    (chains : (j : ℕ) → 28 * cap ≤ j → j < 32 * cap → get_or work' j 0 ≡ get_or work j 0) where
  cell : {F : ℕ → ℕ} (base : ℕ) → 22 * cap ≤ base → base + cap ≤ 27 * cap → Column F base cap work → Column F base cap work'
  cell base l m c = column_agrees (record { word = λ k w. cells (base + k) (omega arith) (omega arith) }) c

  links : (base : ℕ) → 28 * cap ≤ base → base + cap ≤ 32 * cap → Same base cap work work'
  links base l m = record { word = λ k w. chains (base + k) (omega arith) (omega arith) }

  pub half_agrees : {h : History} → HalfIndexed cap h work → HalfIndexed cap h work'
  half_agrees d = record {
    servers = cell (22 * cap) (omega arith) (omega arith) d.servers;
    restated = cell (23 * cap) (omega arith) (omega arith) d.restated;
    refused = cell (24 * cap) (omega arith) (omega arith) d.refused;
    pendings = cell (25 * cap) (omega arith) (omega arith) d.pendings;
    registered = cell (26 * cap) (omega arith) (omega arith) d.registered;
    splits = chained_agrees (links (28 * cap) (omega arith) (omega arith)) (links (29 * cap) (omega arith) (omega arith)) d.splits;
    recordings = chained_agrees (links (30 * cap) (omega arith) (omega arith)) (links (31 * cap) (omega arith) (omega arith)) d.recordings;
  }
