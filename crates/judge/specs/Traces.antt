-- A whole trace: opened, and then its records pushed up to the first refusal.
use Rattle.std.specs.Prelude.{◌≡◌, true, false, List, ℕ, ◌+◌, ◌<◌, length, take, drop, replicate}
use Rattle.rules.specs.declared.Opening.{Opening}
use Rattle.rows.specs.Rows.{reports_in, KindsFit}
use Rattle.judge.specs.declared.state.Judge.{Judge}
use Rattle.judge.specs.declared.trace.Traced.{Traced}
use Rattle.decision.specs.Refusals.{outcome_number}
use Rattle.judge.specs.States.{State, push_refusal, takes}
use Rattle.judge.specs.Openings.{Fits, fresh_of}
use Rattle.decision.specs.Refusals.{PushNumber}
use Rattle.intake.specs.Words.{Indexed}
use Rattle.judge.specs.Pushes.{Pushed, state_of}

-- what the bytes of a trace come to from a state, after n records: they end, and there is no refusal; or the next 368 bytes, or
-- the tail that is shorter, are refused with a number, at that record; or they are taken, and the rest of the bytes follows
pub data Feeds : State → List ℕ → ℕ → ℕ → ℕ → State → Type 0 where
  ends : {s : State} {trace : List ℕ} {n : ℕ} → length trace ≡ 0 → Feeds s trace n 0 n s
  refused : {s : State} {trace : List ℕ} {n f : ℕ} → 0 < length trace → takes s (take 368 trace) ≡ false → f ≡ push_refusal s (take 368 trace)
      → Feeds s trace n f (n + 1) s
  taken : {s u t : State} {trace : List ℕ} {n f a : ℕ} → 0 < length trace → takes s (take 368 trace) ≡ true
      → Pushed Indexed s (take 368 trace) u → Feeds u (drop 368 trace) (n + 1) f a t → Feeds s trace n f a t

-- the judge of these numbers whose reports are those of the rows
abbrev pub judge_by : Opening → ℕ → ℕ → ℕ → List ℕ → Judge
judge_by o cap n e rows = record { capacity = cap; count = n; events = e; opening = o; reports = reports_in rows 0 }

-- what a trace's bytes come to from a judge that has taken nothing: a refusal's number at a record's, and so many records taken, of so
-- many events
pub record FedBy (o : Opening) (cap : ℕ) (log work rows trace : List ℕ) (f at n e : ℕ) (log' work' rows' : List ℕ) : Type 0 where
  pub feeds : Feeds (state_of (judge_by o cap 0 0 rows) log work) trace 0 f at (state_of (judge_by o cap n e rows') log' work')
  pub size : length rows' ≡ length rows
  pub fits : KindsFit rows 0 → KindsFit rows' 0
  pub few : PushNumber f

-- "A whole-trace call opens, then pushes up to its first refusal, which it returns with that record's number (0 for the
-- opening's); earlier records remain taken". Without a refusal the number is that of the last record
pub record TracedBy (o : Opening) (log work trace : List ℕ) (r : Traced) (log' work' : List ℕ) : Type 0 where
  pub refused : ((c : ℕ) → Fits (length log) (length work) c → ⊥)
      → (outcome_number r.outcome ≡ 7) × (r.at ≡ 0) × (r.judge ≡ fresh_of 0 o) × (log' ≡ log) × (work' ≡ work)
  pub opened : (c : ℕ) → Fits (length log) (length work) c
      → Feeds (state_of (fresh_of c o) log (replicate (length work) 0)) trace 0 (outcome_number r.outcome) r.at (state_of r.judge log' work')
