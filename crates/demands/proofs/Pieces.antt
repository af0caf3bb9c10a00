-- A whole trace is tied to its own bytes: the pieces before the first refused one are the records taken. Assumes nothing.
use mathlib.Core.Path.{◌≡◌, refl, sym, ap, ◌∙◌, subst}
use mathlib.Core.Bool.{Bool, true, false, cond}
use mathlib.Core.List.{List, [], ◌∷◌}
use Prim.Native.Nat.{ℕ, zero, suc, ◌+◌, ◌≤◌, ◌<◌}
use native.Mathlib.Omega.{arith}
use lib.ListN.{length, take, drop, length-drop}
use lib.Dec.{eqb}
use Rattle.record.specs.Records.{decode}
use Rattle.rules.specs.History.{History}
use Rattle.decision.specs.Refusals.{outcome_number, refusal_after}
use Rattle.judge.specs.declared.trace.Traced.{Traced}
use Rattle.rules.specs.declared.Opening.{Opening}
use Rattle.judge.specs.States.{State, push_refusal, takes}
use Rattle.judge.specs.Openings.{Fits}
use Rattle.intake.specs.Words.{Indexed}
use Rattle.judge.specs.Pushes.{After, state_of}
use Rattle.judge.specs.Traces.{Feeds, ends, refused, taken, TracedBy}
use Rattle.demands.specs.Pieces.{pieces_in, pieces, sound_in, refusal_in, records_in, sound_pieces, first_refusal, records_taken, WholeTrace}
use Rattle.judge.proofs.Openings.{fresh_after}
use Rattle.demands.proofs.Demand2.{demand2_of}
use Rattle.demands.proofs.Demand3.{refusal_is, demand3_of}

-- ---- pieces

-- more steps than bytes change nothing
enough : (k m : ℕ) (trace : List ℕ) → length trace ≤ k → length trace ≤ m → pieces_in k trace ≡ pieces_in m trace
unfolding pieces_in
enough zero zero trace a b = refl
enough zero (suc m) [] a b = refl
enough zero (suc m) (x ∷ xs) a b = absurd (omega arith)
enough (suc k) zero [] a b = refl
enough (suc k) zero (x ∷ xs) a b = absurd (omega arith)
enough (suc k) (suc m) [] a b = refl
enough (suc k) (suc m) (x ∷ xs) a b =
    let l = length-drop 368 (x ∷ xs) in
    ap (λ (ps : List (List ℕ)). take 368 (x ∷ xs) ∷ ps) (enough k m (drop 368 (x ∷ xs)) (omega arith) (omega arith))

pieces_none : (trace : List ℕ) → length trace ≡ 0 → pieces trace ≡ []
unfolding pieces pieces_in
pieces_none [] e = refl
pieces_none (x ∷ xs) e = absurd (omega arith)

pieces_more : (trace : List ℕ) → 0 < length trace → pieces trace ≡ take 368 trace ∷ pieces (drop 368 trace)
unfolding pieces pieces_in
pieces_more [] l = absurd (omega arith)
pieces_more (x ∷ xs) l =
    let d = length-drop 368 (x ∷ xs) in
    ap (λ (ps : List (List ℕ)). take 368 (x ∷ xs) ∷ ps) (enough (length xs) (length (drop 368 (x ∷ xs))) (drop 368 (x ∷ xs)) (omega arith) (omega arith))

-- ---- the first refusal

module _ (c : ℕ) (h : History) (p : List ℕ) (ps : List (List ℕ)) where
  sound_on : eqb (refusal_after c h p) 0 ≡ true → sound_in c h (p ∷ ps) ≡ p ∷ sound_in c (decode p ∷ h) ps
  unfolding sound_in
  sound_on e = ap (λ (b : Bool). cond b (p ∷ sound_in c (decode p ∷ h) ps) []) e

  sound_off : eqb (refusal_after c h p) 0 ≡ false → sound_in c h (p ∷ ps) ≡ []
  unfolding sound_in
  sound_off e = ap (λ (b : Bool). cond b (p ∷ sound_in c (decode p ∷ h) ps) []) e

  refusal_on : eqb (refusal_after c h p) 0 ≡ true → refusal_in c h (p ∷ ps) ≡ refusal_in c (decode p ∷ h) ps
  unfolding refusal_in
  refusal_on e = ap (λ (b : Bool). cond b (refusal_in c (decode p ∷ h) ps) (refusal_after c h p)) e

  refusal_off : eqb (refusal_after c h p) 0 ≡ false → refusal_in c h (p ∷ ps) ≡ refusal_after c h p
  unfolding refusal_in
  refusal_off e = ap (λ (b : Bool). cond b (refusal_in c (decode p ∷ h) ps) (refusal_after c h p)) e

-- ---- what pieces come to, from the state after h

-- the number that a refusal comes with: after so many records the next one's, without a refusal the last one's
abbrev placed : ℕ → ℕ → ℕ
placed f n = cond (eqb f 0) n (n + 1)

pub record Came (cap : ℕ) (o : Opening) (h : History) (ps : List (List ℕ)) (f at : ℕ) (t : State) : Type 0 where
  pub after : After Indexed (records_in (sound_in cap h ps) h) t
  pub opening : t.judge.opening ≡ o
  pub refusal : f ≡ refusal_in cap h ps
  pub place : at ≡ placed f (length h + length (sound_in cap h ps))

module _ (h : History) (s : State) (a : After Indexed h s) where
  abbrev cap : ℕ
  cap = s.judge.capacity

  came_none : Came cap s.judge.opening h [] 0 (length h) s
  unfolding sound_in refusal_in records_in
  came_none = record { after = a; opening = refl; refusal = refl; place = omega arith }

  came_refused : (p : List ℕ) (ps : List (List ℕ)) {f : ℕ} → takes s p ≡ false → f ≡ push_refusal s p
      → Came cap s.judge.opening h (p ∷ ps) f (length h + 1) s
  unfolding records_in
  came_refused p ps {f} q e =
      let g : f ≡ refusal_after cap h p = e ∙ refusal_is Indexed h s p a in
      let z : eqb (refusal_after cap h p) 0 ≡ false = ap (λ (n : ℕ). eqb n 0) (sym (refusal_is Indexed h s p a)) ∙ q in
      let o : sound_in cap h (p ∷ ps) ≡ [] = sound_off cap h p ps z in
      let d : eqb f 0 ≡ false = ap (λ (n : ℕ). eqb n 0) g ∙ z in
      let l : length (sound_in cap h (p ∷ ps)) ≡ 0 = ap (λ (qs : List (List ℕ)). length qs) o in
      let n = length h + length (sound_in cap h (p ∷ ps)) in
      let m : n + 1 ≡ length h + 1 = omega arith in
      record {
        after = subst (λ (qs : List (List ℕ)). After Indexed (records_in qs h) s) (sym o) a;
        opening = refl;
        refusal = g ∙ sym (refusal_off cap h p ps z);
        place = sym (ap (λ (b : Bool). cond b n (n + 1)) d ∙ m);
      }

  came_taken : (p : List ℕ) (ps : List (List ℕ)) {f at : ℕ} {t : State} → takes s p ≡ true
      → Came cap s.judge.opening (decode p ∷ h) ps f at t → Came cap s.judge.opening h (p ∷ ps) f at t
  unfolding records_in
  came_taken p ps {f} {at} {t} q w =
      let z : eqb (refusal_after cap h p) 0 ≡ true = ap (λ (k : ℕ). eqb k 0) (sym (refusal_is Indexed h s p a)) ∙ q in
      let o : p ∷ sound_in cap (decode p ∷ h) ps ≡ sound_in cap h (p ∷ ps) = sym (sound_on cap h p ps z) in
      let l : suc (length (sound_in cap (decode p ∷ h) ps)) ≡ length (sound_in cap h (p ∷ ps)) = ap (λ (qs : List (List ℕ)). length qs) o in
      let x : suc (length h) + length (sound_in cap (decode p ∷ h) ps) ≡ length h + length (sound_in cap h (p ∷ ps)) = omega arith in
      record {
        after = subst (λ (qs : List (List ℕ)). After Indexed (records_in qs h) t) o w.after;
        opening = w.opening;
        refusal = w.refusal ∙ sym (refusal_on cap h p ps z);
        place = w.place ∙ ap (placed f) x;
      }

-- a trace comes to what its pieces come to
feeds_came : {s t : State} {trace : List ℕ} {n f at : ℕ} (h : History) → After Indexed h s → n ≡ length h → Feeds s trace n f at t
    → Came s.judge.capacity s.judge.opening h (pieces trace) f at t
feeds_came {s} {trace = trace} h a e (ends z) =
    subst (λ (k : ℕ). Came s.judge.capacity s.judge.opening h (pieces trace) 0 k s) (sym e)
    (subst (λ (ps : List (List ℕ)). Came s.judge.capacity s.judge.opening h ps 0 (length h) s) (sym (pieces_none trace z)) (came_none h s a))
feeds_came {s} {trace = trace} {f = f} h a e (refused l q g) =
    subst (λ (k : ℕ). Came s.judge.capacity s.judge.opening h (pieces trace) f (k + 1) s) (sym e)
    (subst (λ (ps : List (List ℕ)). Came s.judge.capacity s.judge.opening h ps f (length h + 1) s) (sym (pieces_more trace l))
    (came_refused h s a (take 368 trace) (pieces (drop 368 trace)) q g))
feeds_came {s} {t} {trace} {n} {f} {at} h a e (taken {u = u} l q p w) =
    let x = decode (take 368 trace) in
    let k = p.taken q in
    let r = feeds_came (x ∷ h) (k.after h a) (omega arith) w in
    let rest = pieces (drop 368 trace) in
    let i : Came s.judge.capacity s.judge.opening (x ∷ h) rest f at t =
    subst (λ (c : ℕ). Came c s.judge.opening (x ∷ h) rest f at t) k.capacity
    (subst (λ (o : Opening). Came u.judge.capacity o (x ∷ h) rest f at t) k.opening r) in
    subst (λ (ps : List (List ℕ)). Came s.judge.capacity s.judge.opening h ps f at t) (sym (pieces_more trace l))
    (came_taken h s a (take 368 trace) rest q i)

-- the records of pieces are as many
records_count : (ps : List (List ℕ)) (h : History) → length (records_in ps h) ≡ length ps + length h
unfolding records_in
records_count [] h = omega arith
records_count (p ∷ ps) h = let e = records_count ps (decode p ∷ h) in omega arith

-- A WHOLE TRACE: where the opening is not refused, reports, look-ups, refusal and record number are those of the trace's bytes
pub whole_trace : (o : Opening) (c : ℕ) (log work trace : List ℕ) (r : Traced) (log' work' : List ℕ) → Fits (length log) (length work) c
    → TracedBy o log work trace r log' work' → WholeTrace o c trace r (state_of r.judge log' work')
unfolding sound_pieces first_refusal records_taken
whole_trace o c log work trace r log' work' f p =
    let w = feeds_came [] (fresh_after o c log work f) refl (p.opened c f) in
    let n = length (sound_in c [] (pieces trace)) in
    let k = records_count (sound_in c [] (pieces trace)) [] in
    let z : n + 0 ≡ n = omega arith in
    let y : 0 + n ≡ n = omega arith in
    record {
      count = w.after.count ∙ k ∙ z;
      refusal = w.refusal;
      at = w.place ∙ ap (placed (outcome_number r.outcome)) y ∙ ap (λ (g : ℕ). placed g n) w.refusal;
      demand2 = demand2_of _ _ w.after o w.opening;
      demand3 = demand3_of Indexed o _ _ w.after w.opening;
    }
