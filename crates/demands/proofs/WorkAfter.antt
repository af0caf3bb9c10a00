-- "Work words are a written function, freely chosen, of the opening numbers, C and the records taken": the function is `work_of`.
-- Assumes nothing.
use mathlib.Core.Path.{◌≡◌, ap, ◌∙◌}
use mathlib.Core.List.{List, []}
use Prim.Native.Nat.{ℕ}
use Rattle.rules.specs.History.{History}
use Rattle.judge.specs.States.{State}
use Rattle.intake.specs.Words.{Indexed}
use Rattle.intake.specs.WorkArea.{work_of}
use Rattle.demands.specs.Calls.{Call, taken_of}
use Rattle.judge.specs.Pushes.{After}
use Rattle.demands.specs.Runs.{Run}
use Rattle.judge.proofs.Suiting.{state_suiting}
use Rattle.intake.proofs.WorkArea.{words_are}
use Rattle.demands.proofs.Demand3.{ran}

-- in a state after the records of h every word is what the function says
pub after_words : (h : History) (s : State) → After Indexed h s → s.work ≡ work_of s.judge.capacity h
after_words h s a = words_are s.judge.capacity h s.work (state_suiting s a.fits).work a.words

-- and so after every list of calls, from a state after no records
pub run_words : (o t : State) (ps : List Call) → After Indexed [] o → Run Indexed o ps t
    → t.work ≡ work_of o.judge.capacity (taken_of o.judge.capacity ps [])
run_words o t ps a r =
    let w = ran Indexed [] a r in
    let h = taken_of o.judge.capacity ps [] in
    after_words h t w.after ∙ ap (λ (c : ℕ). work_of c h) w.capacity
