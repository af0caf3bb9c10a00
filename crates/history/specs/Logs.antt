-- The log as a history: the record at a place, the records taken newest first, and one more.
use Rattle.std.specs.Prelude.{◌≡◌, List, [], ◌∷◌, ℕ, zero, suc, ◌+◌, ◌*◌, ◌≤◌, ◌<◌, length, get_or}
use Rattle.record.specs.Numbers.{part}
use Rattle.record.specs.Records.{TraceRecord, decode}
use Rattle.rules.specs.History.{History}

-- the bytes of the record at a place, the first at 0
unfoldable pub bytes_at : ℕ → List ℕ → List ℕ
bytes_at i log = part (368 * i) (368 * i + 368) log

unfoldable pub record_at : List ℕ → ℕ → TraceRecord
record_at log i = decode (bytes_at i log)

-- the first n records of a log, newest first
unfoldable pub hist : List ℕ → ℕ → History
hist log zero = []
hist log (suc n) = record_at log n ∷ hist log n

-- "A push copies the record to log bytes 368 × count onward, changes no other log byte"
pub record Appended (log log' : List ℕ) (n : ℕ) (bytes : List ℕ) : Type 0 where
  pub len : length log' ≡ length log
  pub here : bytes_at n log' ≡ bytes
  pub others : (j : ℕ) → (368 * n ≤ j → j < 368 * n + 368 → ⊥) → get_or log' j 0 ≡ get_or log j 0
