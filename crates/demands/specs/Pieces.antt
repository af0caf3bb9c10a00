-- A whole trace by its own bytes: its pieces, those taken, the first refused, and what is claimed of the reports then.
use Rattle.std.specs.Prelude.{◌≡◌, cond, List, [], ◌∷◌, ℕ, zero, suc, ◌+◌, length, take, drop, eqb}
use Rattle.record.specs.Records.{decode}
use Rattle.rules.specs.History.{History}
use Rattle.decision.specs.Refusals.{outcome_number, refusal_after}
use Rattle.judge.specs.declared.trace.Traced.{Traced}
use Rattle.rules.specs.declared.Opening.{Opening}
use Rattle.judge.specs.States.{State}
use Rattle.intake.specs.Words.{Indexed}
use Rattle.demands.specs.Runs.{Demand3}
use Rattle.demands.specs.Demand2.{Demand2}

-- the pieces of a trace: its bytes in stretches of 368, the last as long as what is left. A piece has a byte at least, so that as
-- many steps are enough as there are bytes
unfoldable pub pieces_in : ℕ → List ℕ → List (List ℕ)
pieces_in zero trace = []
pieces_in (suc steps) [] = []
pieces_in (suc steps) (b ∷ bs) = take 368 (b ∷ bs) ∷ pieces_in steps (drop 368 (b ∷ bs))

unfoldable pub pieces : List ℕ → List (List ℕ)
pieces trace = pieces_in (length trace) trace

-- "pushes up to its first refusal": the pieces before the first that is refused, after the records of h
unfoldable pub sound_in : ℕ → History → List (List ℕ) → List (List ℕ)
sound_in c h [] = []
sound_in c h (p ∷ ps) = cond (eqb (refusal_after c h p) 0) (p ∷ sound_in c (decode p ∷ h) ps) []

-- that refusal, 0 where there is none
unfoldable pub refusal_in : ℕ → History → List (List ℕ) → ℕ
refusal_in c h [] = 0
refusal_in c h (p ∷ ps) = cond (eqb (refusal_after c h p) 0) (refusal_in c (decode p ∷ h) ps) (refusal_after c h p)

-- the records of pieces, newest first, after those of h
unfoldable pub records_in : List (List ℕ) → History → History
records_in [] h = h
records_in (p ∷ ps) h = records_in ps (decode p ∷ h)

-- of a trace in a judge of capacity c: the pieces taken, the first refusal, and the records taken
unfoldable pub sound_pieces : ℕ → List ℕ → List (List ℕ)
sound_pieces c trace = sound_in c [] (pieces trace)

unfoldable pub first_refusal : ℕ → List ℕ → ℕ
first_refusal c trace = refusal_in c [] (pieces trace)

unfoldable pub records_taken : ℕ → List ℕ → History
records_taken c trace = records_in (sound_pieces c trace) []

-- what a whole trace comes to, by its bytes alone: so many records are taken; the first refusal, with that record's number, and
-- without one the last record's; and the demands hold of the records taken
pub record WholeTrace (o : Opening) (c : ℕ) (trace : List ℕ) (r : Traced) (t : State) : Type 0 where
  pub count : t.judge.count ≡ length (sound_pieces c trace)
  pub refusal : outcome_number r.outcome ≡ first_refusal c trace
  pub at : r.at ≡ cond (eqb (first_refusal c trace) 0) (length (sound_pieces c trace)) (length (sound_pieces c trace) + 1)
  pub demand2 : Demand2 o (records_taken c trace) t
  pub demand3 : Demand3 Indexed o (records_taken c trace) t
