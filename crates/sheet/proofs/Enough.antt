-- What is read is enough: after 97 records nothing can change what a judge of capacity 96 takes and refuses. Assumes nothing.
use mathlib.Core.Path.{◌≡◌, refl, sym, ap, ◌∙◌}
use mathlib.Core.Bool.{Bool, true, false, cond}
use mathlib.Core.List.{List, [], ◌∷◌}
use Prim.Native.Nat.{ℕ, zero, suc, ◌+◌, ◌*◌, ◌≤◌, ◌<◌}
use native.Mathlib.Omega.{arith}
use lib.ListN.{length, take, drop, length-take, length-drop}
use lib.Seq.{take-nil, take-take}
use lib.Dec.{eqb}
use borrow.Author.Tests.{eq-eqb}
use Rattle.record.proofs.Lists.{drop_take}
use Rattle.form.specs.Form.{refusal_of}
use Rattle.record.specs.Records.{decode}
use Rattle.rules.specs.History.{History}
use Rattle.rules.specs.Events.{stray}
use Rattle.decision.specs.Refusals.{or_next, refusal_after}
use Rattle.demands.specs.Pieces.{pieces_in, pieces, sound_in, refusal_in, sound_pieces, first_refusal, records_taken, records_in}

-- ---- the pieces of the first so many records are the first so many pieces

pieces_nil : (k : ℕ) → pieces_in k [] ≡ []
unfolding pieces_in
pieces_nil zero = refl
pieces_nil (suc k) = refl

pieces_on : (k : ℕ) (s : List ℕ) → 0 < length s → pieces_in (suc k) s ≡ take 368 s ∷ pieces_in k (drop 368 s)
unfolding pieces_in
pieces_on k [] l = absurd (omega arith)
pieces_on k (x ∷ s) l = refl

first_pieces : (m j k : ℕ) (s : List ℕ) → length (take (368 * m) s) ≤ j → length s ≤ k → pieces_in j (take (368 * m) s) ≡ take m (pieces_in k s)
first_pieces zero j k s p q = pieces_nil j
first_pieces (suc m) j k [] p q =
    ap (pieces_in j) (take-nil {A = ℕ} (368 * suc m)) ∙ pieces_nil j ∙ ap (take (suc m)) (sym (pieces_nil k))
first_pieces (suc m) zero k (x ∷ s) p q = absurd (omega (arith, length-take (368 * suc m) (x ∷ s)))
first_pieces (suc m) (suc j) zero (x ∷ s) p q = absurd (omega arith)
first_pieces (suc m) (suc j) (suc k) (x ∷ s) p q =
    let t = take (368 * suc m) (x ∷ s) in
    let lt = length-take (368 * suc m) (x ∷ s) in
    let d : drop 368 t ≡ take (368 * m) (drop 368 (x ∷ s)) = drop_take 368 (368 * m) (368 * suc m) (x ∷ s) (omega arith) in
    let ld = length-drop 368 t in
    let le : length (drop 368 t) ≡ length (take (368 * m) (drop 368 (x ∷ s))) = ap length d in
    let ls = length-drop 368 (x ∷ s) in
    let h : take 368 t ≡ take 368 (x ∷ s) = take-take 368 (368 * suc m) (x ∷ s) (omega arith) in
    let r = first_pieces m j k (drop 368 (x ∷ s)) (omega arith) (omega arith) in
    pieces_on j t (omega arith) ∙ (λ i. h i ∷ pieces_in j (d i)) ∙ ap (λ (ps : List (List ℕ)). take 368 (x ∷ s) ∷ ps) r
    ∙ ap (take (suc m)) (sym (pieces_on k (x ∷ s) (omega arith)))

-- ---- a full judge refuses

full_by : (form : ℕ) (lost b : Bool) → eqb form 0 ≡ b → eqb (cond b (cond lost 11 6) form) 0 ≡ false
full_by form true true e = refl
full_by form false true e = refl
full_by form lost false e = e

full_refuses : (c : ℕ) (h : History) (p : List ℕ) → length h ≡ c → eqb (refusal_after c h p) 0 ≡ false
full_refuses c h p e =
    let lost = stray (decode p) h in
    ap (λ (full : Bool). eqb (or_next (refusal_of p) lost full) 0) (eq-eqb (length h) c e)
    ∙ full_by (refusal_of p) lost (eqb (refusal_of p) 0) refl

-- after the records of h k more can be taken, and one further piece tells the refusal
sound_enough : (c : ℕ) (h : History) (k : ℕ) (ps : List (List ℕ)) → length h + k ≡ c → sound_in c h (take (suc k) ps) ≡ sound_in c h ps
unfolding sound_in
sound_enough c h k [] e = refl
sound_enough c h zero (p ∷ ps) e =
    let f : eqb (refusal_after c h p) 0 ≡ false = full_refuses c h p (omega arith) in
    ap (λ (b : Bool). cond b (p ∷ []) []) f ∙ sym (ap (λ (b : Bool). cond b (p ∷ sound_in c (decode p ∷ h) ps) []) f)
sound_enough c h (suc k) (p ∷ ps) e =
    ap (λ (qs : List (List ℕ)). cond (eqb (refusal_after c h p) 0) (p ∷ qs) []) (sound_enough c (decode p ∷ h) k ps (omega arith))

refusal_enough : (c : ℕ) (h : History) (k : ℕ) (ps : List (List ℕ)) → length h + k ≡ c → refusal_in c h (take (suc k) ps) ≡ refusal_in c h ps
unfolding refusal_in
refusal_enough c h k [] e = refl
refusal_enough c h zero (p ∷ ps) e =
    let f : eqb (refusal_after c h p) 0 ≡ false = full_refuses c h p (omega arith) in
    ap (λ (b : Bool). cond b 0 (refusal_after c h p)) f ∙ sym (ap (λ (b : Bool). cond b (refusal_in c (decode p ∷ h) ps) (refusal_after c h p)) f)
refusal_enough c h (suc k) (p ∷ ps) e =
    ap (λ (f : ℕ). cond (eqb (refusal_after c h p) 0) f (refusal_after c h p)) (refusal_enough c (decode p ∷ h) k ps (omega arith))

-- THE FIRST 97 RECORDS of an input say what the whole says
module _ (input : List ℕ) where
  first_97 : pieces (take (368 * 97) input) ≡ take 97 (pieces input)
  unfolding pieces
  first_97 = first_pieces 97 (length (take (368 * 97) input)) (length input) input (omega arith) (omega arith)

  pub same_pieces : sound_pieces 96 (take (368 * 97) input) ≡ sound_pieces 96 input
  unfolding sound_pieces
  same_pieces = ap (sound_in 96 []) first_97 ∙ sound_enough 96 [] 96 (pieces input) refl

  pub same_refusal : first_refusal 96 (take (368 * 97) input) ≡ first_refusal 96 input
  unfolding first_refusal
  same_refusal = ap (refusal_in 96 []) first_97 ∙ refusal_enough 96 [] 96 (pieces input) refl

  pub same_records : records_taken 96 (take (368 * 97) input) ≡ records_taken 96 input
  unfolding records_taken
  same_records = ap (λ (ps : List (List ℕ)). records_in ps []) same_pieces
