-- A trace is a list of pushes. Assumes nothing.
use mathlib.Core.List.{List, [], ◌∷◌}
use Prim.Native.Nat.{ℕ}
use lib.ListN.{take}
use Rattle.judge.specs.States.{State}
use Rattle.intake.specs.Words.{Indexed}
use Rattle.demands.specs.Calls.{Call, push}
use Rattle.demands.specs.Runs.{Run, none, more}
use Rattle.judge.specs.Traces.{Feeds, ends, refused, taken}

-- what a trace comes to is a run of the pushes that were taken: so the third demand speaks of it
pub record Ran (s t : State) : Type 0 where
  pub calls : List Call
  pub run : Run Indexed s calls t

pub feeds_run : {s t : State} {trace : List ℕ} {n f a : ℕ} → Feeds s trace n f a t → Ran s t
feeds_run (ends e) = record { calls = []; run = none }
feeds_run (refused l q e) = record { calls = []; run = none }
feeds_run {trace = trace} (taken l q p w) =
    let r = feeds_run w in
    record { calls = push (take 368 trace) ∷ r.calls; run = more p r.run }
