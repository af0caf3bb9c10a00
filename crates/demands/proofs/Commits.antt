-- Commits in a list of calls: each counts as a push of its record, or goes. Assumes nothing.
use mathlib.Core.Path.{◌≡◌, refl, sym, ap, ◌∙◌, subst}
use mathlib.Core.Bool.{Bool, true, false, cond}
use mathlib.Core.List.{List, ◌∷◌}
use Prim.Native.Nat.{ℕ}
use lib.ListN.{length}
use lib.Dec.{eqb}
use Rattle.rules.specs.History.{History}
use Rattle.decision.specs.Refusals.{refusal_after}
use Rattle.intake.specs.Words.{Indexed}
use Rattle.judge.specs.declared.ticket.Ticket.{Ticket}
use Rattle.judge.specs.States.{State, push_refusal, commit_refusal}
use Rattle.demands.specs.Calls.{Call, push, commit, preview, after_call, as_pushes}
use Rattle.judge.specs.Pushes.{After, Takes, Committed}
use Rattle.demands.specs.Runs.{Called, Run, none, more}
use Rattle.judge.proofs.Commits.{commit_refused}
use Rattle.demands.proofs.Demand3.{refusal_is, commit_refusal_is, stepped}

-- a commit "counts as one in the third demand"
module _ (h : History) (s m u : State) (a : After Indexed h s) where
  -- the rest of a run, after a commit whose count is or is not the judge's
  commit_by : (k : Ticket) (cs : List Call) → Committed Indexed s k m → Run Indexed m cs u
      → (b : Bool) → eqb k.count (length h) ≡ b → Run Indexed s (cond b (push k.rec ∷ cs) cs) u
  commit_by k cs p r true e =
      let q : commit_refusal s k ≡ push_refusal s k.rec =
      commit_refusal_is Indexed h s k a
      ∙ ap (λ (b : Bool). cond b (refusal_after s.judge.capacity h k.rec) 10) e
      ∙ sym (refusal_is Indexed h s k.rec a) in
      more {c = push k.rec} (subst (λ (n : ℕ). Takes Indexed n s k.rec m) q p) r
  commit_by k cs p r false e =
      let q : commit_refusal s k ≡ 10 =
      commit_refusal_is Indexed h s k a ∙ ap (λ (b : Bool). cond b (refusal_after s.judge.capacity h k.rec) 10) e in
      subst (λ (v : State). Run Indexed v cs u) (commit_refused s m k q p) r

  -- a call leaves the capacity
  moved : (c : Call) (cs : List Call) (g : History) → Called Indexed s c m
      → Run Indexed m (as_pushes m.judge.capacity cs g) u → Run Indexed m (as_pushes s.judge.capacity cs g) u
  moved c cs g p r = subst (λ (n : ℕ). Run Indexed m (as_pushes n cs g) u) (stepped Indexed h s m c a p).capacity r

-- A COMMIT COUNTS AS A PUSH: a list of calls ends in the very state in which the list with pushes in the place of its commits ends
pub run_committed : (h : History) {s t : State} {cs : List Call} → After Indexed h s → Run Indexed s cs t
    → Run Indexed s (as_pushes s.judge.capacity cs h) t
unfolding as_pushes
run_committed h a none = none
run_committed h {s} {t = u} a (more {t = m} {c = push bytes} {cs = cs} p r) =
    let g = after_call s.judge.capacity h (push bytes) in
    let w = run_committed g (stepped Indexed h s m (push bytes) a p).after r in
    more {c = push bytes} p (moved h s m u a (push bytes) cs g p w)
run_committed h {s} {t = u} a (more {t = m} {c = commit k} {cs = cs} p r) =
    let g = after_call s.judge.capacity h (commit k) in
    let w = run_committed g (stepped Indexed h s m (commit k) a p).after r in
    commit_by h s m u a k (as_pushes s.judge.capacity cs g) p (moved h s m u a (commit k) cs g p w) (eqb k.count (length h)) refl
run_committed h {s} {t = u} a (more {t = m} {c = preview bytes} {cs = cs} p r) =
    let g = after_call s.judge.capacity h (preview bytes) in
    let w = run_committed g (stepped Indexed h s m (preview bytes) a p).after r in
    more {c = preview bytes} p (moved h s m u a (preview bytes) cs g p w)
