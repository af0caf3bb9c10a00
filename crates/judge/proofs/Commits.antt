-- Commits: a commit that 10 does not refuse is a push of its record. Assumes nothing.
use Rattle.std.specs.Prelude.{Err}
use mathlib.Core.Path.{◌≡◌, refl, sym, ap, ◌∙◌, subst}
use mathlib.Core.Bool.{Bool, true, false, cond, not, ◌&&◌}
use mathlib.Core.List.{List}
use Prim.Native.Nat.{ℕ}
use lib.ListN.{length, replicate}
use lib.Dec.{eqb}
use borrow.Author.Tests.{eq-eqb}
use Rattle.form.specs.Form.{refusal_of}
use Rattle.record.specs.Records.{decode}
use Rattle.rules.specs.declared.Report.{Report}
use Rattle.rules.specs.Events.{stray}
use Rattle.record.proofs.Booleans.{never}
use Rattle.history.specs.Logs.{hist}
use Rattle.decision.specs.Refusals.{suits_by, or_next, refusal_after}
use Rattle.intake.specs.Words.{Indexed}
use Rattle.judge.specs.declared.push.Pushed as Answer
use Rattle.judge.specs.declared.state.Judge.{Judge}
use Rattle.decision.specs.declared.refusal.Refusal.TheVariants.{Ticket as Stale}
use Rattle.judge.specs.declared.ticket.Ticket.{Ticket}
use Rattle.judge.specs.Tickets.{ticket_of, no_ticket}
use Rattle.judge.specs.States.{State, suits, push_refusal, commit_refusal, takes}
use Rattle.judge.specs.Pushes.{Takes, Pushed, Committed, state_of, PushedBy}
use Rattle.judge.specs.Previews.{Previews, CommittedBy}

-- ---- one commit, in any state

unfit_push : (s : State) (bytes : List ℕ) → suits s ≡ false → push_refusal s bytes ≡ 5
unfolding push_refusal suits
unfit_push s bytes e = ap (λ (b : Bool). cond b (refusal_after s.judge.capacity (hist s.log s.judge.count) bytes) 5) e

-- 10 by the two tests before it: the judge suits, and the counts differ
abbrev pub stale : State → Ticket → Bool
stale s k = suits s && not (eqb k.count s.judge.count)

ten_by : (b c : Bool) (x : ℕ) → (b && not c) ≡ true → cond b (cond c x 10) 5 ≡ 10
ten_by true true x e = never e refl
ten_by true false x e = refl
ten_by false c x e = never e refl

push_by : (b c : Bool) (x : ℕ) → (b ≡ false → x ≡ 5) → (b && not c) ≡ false → cond b (cond c x 10) 5 ≡ x
push_by true true x f e = refl
push_by true false x f e = never refl e
push_by false c x f e = sym (f refl)

module _ (s : State) (k : Ticket) where
  pub unfit_refusal : suits s ≡ false → commit_refusal s k ≡ 5
  unfolding commit_refusal
  unfit_refusal e = ap (λ (b : Bool). cond b (cond (eqb k.count s.judge.count) (push_refusal s k.rec) 10) 5) e

  pub stale_refusal : stale s k ≡ true → commit_refusal s k ≡ 10
  unfolding commit_refusal
  stale_refusal e = ten_by (suits s) (eqb k.count s.judge.count) (push_refusal s k.rec) e

  fresh_refusal : stale s k ≡ false → commit_refusal s k ≡ push_refusal s k.rec
  unfolding commit_refusal
  fresh_refusal e = push_by (suits s) (eqb k.count s.judge.count) (push_refusal s k.rec) (unfit_push s k.rec) e

  refusal_by_lem : (commit_refusal s k ≡ 10 → ⊥) → (b : Bool) → stale s k ≡ b → commit_refusal s k ≡ push_refusal s k.rec
  refusal_by_lem f true e = absurd (f (stale_refusal e))
  refusal_by_lem f false e = fresh_refusal e

-- "unless refusal 10 is given", it draws what a push of its record draws ..
pub commit_refusal_lem : (s : State) (k : Ticket) → (commit_refusal s k ≡ 10 → ⊥) → commit_refusal s k ≡ push_refusal s k.rec
commit_refusal_lem s k f = refusal_by_lem s k f (stale s k) refl

-- .. and "ends exactly as a push of that record does", each way
pub commit_is_push : (s t : State) (k : Ticket) → (commit_refusal s k ≡ 10 → ⊥)
    → (Committed Indexed s k t → Pushed Indexed s k.rec t) × (Pushed Indexed s k.rec t → Committed Indexed s k t)
commit_is_push s t k f =
    let q : commit_refusal s k ≡ push_refusal s k.rec = commit_refusal_lem s k f in (
      subst (λ (r : ℕ). Takes Indexed r s k.rec t) q,
      subst (λ (r : ℕ). Takes Indexed r s k.rec t) (sym q),
    )

-- under 10 everything is as it stood
pub commit_refused : (s t : State) (k : Ticket) → commit_refusal s k ≡ 10 → Committed Indexed s k t → t ≡ s
commit_refused s t k e p = p.refused (ap (λ (r : ℕ). eqb r 0) e)

current_by : (b c : Bool) → c ≡ true → (b && not c) ≡ false
current_by true c e = ap not e
current_by false c e = refl

-- a ticket with the judge's count draws what a push of its record draws: never 10
pub current_refusal : (s : State) (k : Ticket) → k.count ≡ s.judge.count → commit_refusal s k ≡ push_refusal s k.rec
current_refusal s k e = fresh_refusal s k (current_by (suits s) (eqb k.count s.judge.count) (eq-eqb k.count s.judge.count e))

-- so the ticket of a preview that was not refused, in the state of that preview, commits its record
pub preview_commit : (s t : State) (bytes : List ℕ) {n : ℕ} {rs : List Report} {k : Ticket} → Previews s bytes n rs k → takes s bytes ≡ true
    → Committed Indexed s k t → Pushed Indexed s bytes t
preview_commit s t bytes {k = k} p e q =
    let is : k ≡ ticket_of s.judge.count bytes = p.holds ∙ ap (λ (b : Bool). cond b (ticket_of s.judge.count bytes) no_ticket) e in
    subst (λ (r : ℕ). Takes Indexed r s bytes t) (current_refusal s (ticket_of s.judge.count bytes) refl)
    (subst (λ (i : Ticket). Committed Indexed s i t) is q)

zeros_kind : refusal_of (replicate 368 0) ≡ 2
unfolding refusal_of
zeros_kind = refl

zeros_by : (s : State) (b c : Bool) → suits s ≡ b → push_refusal s (replicate 368 0) ≡ cond b 2 5
    → cond b (cond c (push_refusal s (replicate 368 0)) 10) 5 ≡ cond b (cond c 2 10) 5
zeros_by s true true e q = q
zeros_by s true false e q = refl
zeros_by s false c e q = refl

-- the ticket of zeros takes nothing: 10, and in a judge that has taken no record 2, after 5
pub zeros_refused : (s : State) → commit_refusal s no_ticket ≡ cond (suits s) (cond (eqb 0 s.judge.count) 2 10) 5
unfolding commit_refusal push_refusal suits
zeros_refused s =
    let h = hist s.log s.judge.count in
    zeros_by s (suits s) (eqb 0 s.judge.count) refl
    (ap (λ (f : ℕ). cond (suits s) (or_next f (stray (decode (replicate 368 0)) h) (eqb (length h) s.judge.capacity)) 5) zeros_kind)

-- ---- the call, by what it tests and by the push

module _ (j i : Judge) (log work : List ℕ) (k : Ticket) {holds : Bool} (u : holds ≡ suits_by j.capacity j.count (length log) (length work))
    (v : i ≡ j) where
  tested : (holds && not (eqb k.count i.count)) ≡ stale (state_of i log work) k
  unfolding suits
  tested =
      ap (λ (b : Bool). b && not (eqb k.count i.count))
      (u ∙ ap (λ (x : Judge). suits_by x.capacity x.count (length log) (length work)) (sym v))

  pub committed_stale : (holds && not (eqb k.count i.count)) ≡ true → CommittedBy j log work k (record { outcome = Err Stale; judge = i }) log work
  committed_stale e =
      let q : commit_refusal (state_of i log work) k ≡ 10 = stale_refusal (state_of i log work) k (sym tested ∙ e) in
      subst (λ (x : Judge). CommittedBy x log work k (record { outcome = Err Stale; judge = i }) log work) v
      (record {
        refusal = sym q;
        leaves = record { refused = λ x. refl; taken = λ x. never x (ap (λ (n : ℕ). eqb n 0) q) };
      })

  pub committed_pushed : {r : Answer.Pushed} {log' work' : List ℕ} → (holds && not (eqb k.count i.count)) ≡ false
      → PushedBy i log work k.rec r log' work' → CommittedBy j log work k r log' work'
  committed_pushed {r} {log'} {work'} e p =
      let q : commit_refusal (state_of i log work) k ≡ push_refusal (state_of i log work) k.rec =
      fresh_refusal (state_of i log work) k (sym tested ∙ e) in
      subst (λ (x : Judge). CommittedBy x log work k r log' work') v
      (record {
        refusal = p.refusal ∙ sym q;
        leaves = subst (λ (n : ℕ). Takes Indexed n (state_of i log work) k.rec (state_of r.judge log' work')) (sym q) p.leaves;
      })
