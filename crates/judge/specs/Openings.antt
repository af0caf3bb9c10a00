-- Opening: the capacity that fits, the fresh judge, and what an opening leaves.
use Rattle.std.specs.Prelude.{◌≡◌, List, ℕ, ◌*◌, ◌≤◌, length, replicate}
use Rattle.rules.specs.declared.Opening.{Opening}
use Rattle.rules.specs.Reports.{passed}
use Rattle.rules.specs.Checks.{check_count}
use Rattle.judge.specs.declared.opening.Opened.{Opened}
use Rattle.judge.specs.declared.state.Judge.{Judge}
use Rattle.decision.specs.Refusals.{outcome_number}

-- a capacity from 1 to 4,096 whose log has 368 × C bytes and whose work area has 32 × C words
pub record Fits (logs words c : ℕ) : Type 0 where
  pub some : 1 ≤ c
  pub most : c ≤ 4096
  pub log : logs ≡ 368 * c
  pub work : words ≡ 32 * c

-- "count 0 and eight passes"
abbrev pub fresh_of : ℕ → Opening → Judge
fresh_of capacity opening = record { capacity = capacity; count = 0; events = 0; opening = opening; reports = replicate check_count passed }

-- what an opening gives. Refusal 7: "for no C in 1 to 4,096 is the log 368 × C bytes and the work area 32 × C words"; then "a
-- judge with C 0, count 0, the tenant given and eight passes", and the work area as it stood. Else "count 0 and eight passes,
-- zeroes the work area"
pub record Opens (opening : Opening) (logs : ℕ) (work : List ℕ) (r : Opened) (work' : List ℕ) : Type 0 where
  pub refused : ((c : ℕ) → Fits logs (length work) c → ⊥)
      → (outcome_number r.outcome ≡ 7) × (r.judge ≡ fresh_of 0 opening) × (work' ≡ work)
  pub opened : (c : ℕ) → Fits logs (length work) c
      → (outcome_number r.outcome ≡ 0) × (r.judge ≡ fresh_of c opening) × (work' ≡ replicate (length work) 0)
