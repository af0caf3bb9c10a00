-- What every look-back asks of the buffers that it is lent: lengths alone.
use Rattle.std.specs.Prelude.{List, ℕ, ◌*◌, ◌≤◌, ◌<◌, length}

-- the log holds count records, the work area has room for cap, and there are no more than that
pub record Bounds (log work : List ℕ) (count cap : ℕ) : Type 0 where
  pub log_holds : 368 * count ≤ length log
  pub work_holds : 32 * cap ≤ length work
  pub within : count ≤ cap
  pub positive : 0 < cap
  pub small : cap ≤ 4096
