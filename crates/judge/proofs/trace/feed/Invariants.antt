-- `feed`: whatever the rest of the trace comes to from here, the whole comes to from the start; each record goes one on, or ends it.
use mathlib.Core.Path.{◌≡◌}
use Prim.Native.Nat.{ℕ, ◌≤◌}
use lib.ListN.{length}
use Rattle.rows.specs.Rows.{KindsFit}
use Rattle.judge.specs.States.{State}
use Rattle.judge.specs.Pushes.{state_of}
use Rattle.judge.specs.Traces.{Feeds, judge_by}
use Rattle.judge.proofs.trace.feed.Given as goal

abbrev pub invariant-loop-bytes : goal.invariant-loop-bytes
invariant-loop-bytes l =
    (l.n ≤ 4096) × (length l.log ≡ length l.initial.log)
    × (length l.work ≡ length l.initial.work) × (length l.rows ≡ length l.initial.rows)
    × (KindsFit l.initial.rows 0 → KindsFit l.rows 0)
    × (l.bytes-iterator.size ≡ 368)
    × ((f a : ℕ) (t : State) → Feeds (state_of (judge_by (record { tenant = l.tenant }) l.cap l.n l.events l.rows) l.log l.work) l.bytes-iterator.rest.now l.n f a t
    → Feeds (state_of (judge_by (record { tenant = l.tenant }) l.cap 0 0 l.initial.rows) l.initial.log l.initial.work) l.trace 0 f a t)
