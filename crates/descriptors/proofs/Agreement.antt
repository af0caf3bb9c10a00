-- A new value where agreement was clear before: which statements become faulty by it, and the case of the earliest. Assumes nothing.
use mathlib.Core.Path.{◌≡◌, refl, sym, ap, ◌∙◌}
use mathlib.Core.Bool.{Bool, true, false, cond, not, ◌&&◌, ◌||◌, and-false}
use mathlib.Core.List.{List, [], ◌∷◌}
use Rattle.std.specs.Prelude.{Option, None, Some}
use mathlib.Core.Logic.{⊎_elim}
use Prim.Native.Nat.{ℕ, ◌≤◌, ◌<◌}
use native.Mathlib.Omega.{arith}
use native.Mathlib.Decide.{dec_lt}
use lib.Dec.{eqb, ltb, leb}
use borrow.Author.Tests.{lt-ltb, le-ltb, le-leb, lt-leb, eq-eqb, ne_eqb, ltb-true, ltb-false, leb-true, eqb-true, eqb-false, not-true}
use Rattle.record.specs.Records.{TraceRecord}
use Rattle.record.proofs.Booleans.{decide, never, and_left, and_right}
use Rattle.rules.specs.Cases.{Case, is_fault, fault, case_of}
use Rattle.rules.specs.History.{History, holds, is_some, any_of, earliest_of, greater, lowest_of}
use Rattle.rules.specs.Descriptors.{Entry, puts, role_of, entry_at, same_place, standing, stated, at_in, held_eqb, ahead_fault, differs_fault, statement_fault, agreement}
use Rattle.rules.proofs.Same.{held_same}
use Rattle.rules.proofs.Tellings.{none_of}
use Rattle.rules.proofs.Members.{Mem, here, any_of_mem}
use Rattle.rules.proofs.Placed.{placed_mem, earliest_meets}
use Rattle.rules.proofs.Best.{greatest_meets, greatest_above, lowest_meets, lowest_below}
use Rattle.rules.proofs.CaseLists.{earliest_case_is, earliest_agree, found_clear}
use Rattle.rules.proofs.Agreement.{at_pass, ahead_pass, fault_by, statement_by, untouched, fault_by_lem, at_new, stated_clear, agreement_new}
use Rattle.descriptors.specs.Agreement.{next_in, last_in, ahead_in, falls_behind, goes_against, new_faulty}

-- ---- a new standing value

-- something is ahead of a statement exactly where that is a fault
ahead_by : (s : Entry) (vs : List Entry) → ahead_fault s vs ≡ case_of (λ v. fault 2 (s.range ∷ s.index ∷ v.index ∷ [])) (ahead_in s vs)
unfolding ahead_fault ahead_in
ahead_by s vs = refl

is_ahead : (s : Entry) (o : Option Entry) → is_fault (case_of (λ (v : Entry). fault 2 (s.range ∷ s.index ∷ v.index ∷ [])) o) ≡ is_some o
is_ahead s None = refl
is_ahead s (Some v) = refl

ahead_fault_lem : (s : Entry) (vs : List Entry) → is_fault (ahead_fault s vs) ≡ is_some (ahead_in s vs)
ahead_fault_lem s vs = rw (ahead_by s vs) (is_ahead s (ahead_in s vs))

-- the Bools of the law below: a, the same value; b, a lower generation; c, something was ahead; x, the generation was taken above
behind : (a b c x : Bool) → (a ≡ true → b ≡ false) → not a && (not b || c) ≡ false → (c ≡ false → x ≡ false)
    → not a && (not b || true) ≡ not x && b
behind true b c x f k g = rw (f refl) (sym (and-false (not x)))
behind false true c x f k g = rw (g k)
behind false false c x f k g = never refl k

not_clear : (c : Case) → c ≡ None → is_fault c ≡ false
not_clear c e = ap is_fault e

equal_ltb : {m n : ℕ} → m ≡ n → ltb m n ≡ false
equal_ltb {m} {n} e = le-ltb m n (omega arith)

is_none : (o : Option Entry) (n : Entry) → o ≡ Some n → is_some o ≡ false → ⊥
is_none o n e f = never (ap is_some e) f

holds_some : (t : Entry → Bool) (o : Option Entry) (n : Entry) → o ≡ Some n → holds t o ≡ t n
holds_some t o n e = ap (holds t) e

module _ (p : Entry) (vs : List Entry) (s : Entry) (k : statement_fault vs s ≡ None) (r : s.range ≡ p.range) where
  old : case_of (fault_by s (ahead_fault s vs)) (at_in s.range s.index vs) ≡ None
  old = sym (statement_by vs s) ∙ k

  -- ---- a statement below the new value
  module _ (l : s.index < p.index) where
    below_at : at_in s.range s.index (p ∷ vs) ≡ at_in s.range s.index vs
    below_at = at_pass p vs s (rw (lt-leb p.index s.index l) (and-false (eqb p.range s.range)))

    -- where the range took the statement's generation above it, that was ahead of it
    above_go : (o : Option Entry) → last_in p vs ≡ o → s.held.generation ≡ p.held.generation → is_some (ahead_in s vs) ≡ false
        → holds (λ (v : Entry). ltb s.index v.index) o ≡ true → ⊥
    unfolding last_in ahead_in
    above_go None e g f h = never h refl
    above_go (Some w) e g f h =
        let i = greatest_meets (λ v. v.index) (λ v. eqb v.range p.range && eqb v.held.generation p.held.generation) {xs = vs} {r = w} e in
        let a : w.range ≡ s.range = eqb-true _ _ (and_left (eqb w.range p.range) (eqb w.held.generation p.held.generation) i.place.passes)
        ∙ sym r in
        let d : w.held.generation ≡ s.held.generation =
        eqb-true _ _ (and_right (eqb w.range p.range) (eqb w.held.generation p.held.generation) i.place.passes) ∙ sym g in
        let b = lowest_below (λ v. v.index)
        (λ v. eqb v.range s.range && ltb s.index v.index && eqb v.held.generation s.held.generation) (placed_mem i.place)
        (rw (eq-eqb w.range s.range a, h, eq-eqb w.held.generation s.held.generation d)) in
        is_none (ahead_in s vs) b.0 b.1.0 f

    ahead_new : s.held.generation ≡ p.held.generation → is_fault (ahead_fault s (p ∷ vs)) ≡ true
    unfolding ahead_in
    ahead_new g =
        let new : Mem p (p ∷ vs) = here in
        let b = lowest_below (λ v. v.index)
        (λ v. eqb v.range s.range && ltb s.index v.index && eqb v.held.generation s.held.generation) new
        (rw (eq-eqb p.range s.range (sym r), lt-ltb s.index p.index l, eq-eqb p.held.generation s.held.generation (sym g))) in
        ahead_fault_lem s (p ∷ vs) ∙ ap is_some b.1.0

    ahead_old : (s.held.generation ≡ p.held.generation → ⊥) → ahead_fault s (p ∷ vs) ≡ ahead_fault s vs
    ahead_old n =
        ahead_pass p vs s
        (rw (ne_eqb p.held.generation s.held.generation (λ e. n (sym e))) (and-false (eqb p.range s.range && ltb s.index p.index)))

    behind_go : (o : Option Entry) → case_of (fault_by s (ahead_fault s vs)) o ≡ None → (g : Bool) → eqb s.held.generation p.held.generation ≡ g
        → is_fault (case_of (fault_by s (ahead_fault s (p ∷ vs))) o)
        ≡ g && not (holds (λ (v : Entry). ltb s.index v.index) (last_in p vs)) && holds (λ (v : Entry). ltb v.held.generation s.held.generation) o
    behind_go None c g q = sym (and-false (g && not (holds (λ (v : Entry). ltb s.index v.index) (last_in p vs))))
    behind_go (Some v) c false q = rw (ahead_old (eqb-false _ _ q)) (not_clear (fault_by s (ahead_fault s vs) v) c)
    behind_go (Some v) c true q =
        let g : s.held.generation ≡ p.held.generation = eqb-true _ _ q in
        rw (fault_by_lem s v (ahead_fault s (p ∷ vs)), ahead_new g)
        (behind (held_eqb v.held s.held) (ltb v.held.generation s.held.generation) (is_fault (ahead_fault s vs))
        (holds (λ (v : Entry). ltb s.index v.index) (last_in p vs))
        (λ e. equal_ltb (held_same v.held s.held e).generation)
        (sym (fault_by_lem s v (ahead_fault s vs)) ∙ not_clear (fault_by s (ahead_fault s vs) v) c)
        (λ e. ⊎_elim (λ w. absurd (above_go (last_in p vs) refl g (sym (ahead_fault_lem s vs) ∙ e) w)) (λ w. w) (decide _)))

    pub falls_behind_lem : is_fault (statement_fault (p ∷ vs) s) ≡ falls_behind p vs s
    unfolding falls_behind
    falls_behind_lem = rw (statement_by (p ∷ vs) s, below_at) (behind_go (at_in s.range s.index vs) old (eqb s.held.generation p.held.generation) refl)

    -- the case of one that falls behind: the new value is what is ahead of it
    old_ahead : (v : Entry) → fault_by s (ahead_fault s vs) v ≡ None → ltb v.held.generation s.held.generation ≡ true → ahead_in s vs ≡ None
    unfolding fault_by
    old_ahead v c t =
        let d : held_eqb v.held s.held ≡ false =
        ⊎_elim (λ e. never t (equal_ltb (held_same v.held s.held e).generation)) (λ e. e) (decide (held_eqb v.held s.held)) in
        let a : ahead_fault s vs ≡ None = rw (d, t) at c in
        none_of (ahead_in s vs) (sym (ahead_fault_lem s vs) ∙ ap is_fault a)

    ahead_first : s.held.generation ≡ p.held.generation → ahead_in s vs ≡ None → ahead_fault s (p ∷ vs) ≡ fault 2 (s.range ∷ s.index ∷ p.index ∷ [])
    unfolding ahead_in lowest_of
    ahead_first g e =
        ahead_by s (p ∷ vs)
        ∙ rw (eq-eqb p.range s.range (sym r), lt-ltb s.index p.index l, eq-eqb p.held.generation s.held.generation (sym g), e)

    behind_case_go : (o : Option Entry) → case_of (fault_by s (ahead_fault s vs)) o ≡ None → s.held.generation ≡ p.held.generation
        → holds (λ (v : Entry). ltb v.held.generation s.held.generation) o ≡ true
        → case_of (fault_by s (ahead_fault s (p ∷ vs))) o ≡ fault 2 (s.range ∷ s.index ∷ p.index ∷ [])
    unfolding fault_by
    behind_case_go None c g t = never t refl
    behind_case_go (Some v) c g t =
        let d : held_eqb v.held s.held ≡ false =
        ⊎_elim (λ e. never t (equal_ltb (held_same v.held s.held e).generation)) (λ e. e) (decide (held_eqb v.held s.held)) in
        rw (d, t) (ahead_first g (old_ahead v c t))

    behind_case : falls_behind p vs s ≡ true → statement_fault (p ∷ vs) s ≡ fault 2 (s.range ∷ s.index ∷ p.index ∷ [])
    unfolding falls_behind
    behind_case t =
        let a = and_left _ (holds (λ (v : Entry). ltb v.held.generation s.held.generation) (at_in s.range s.index vs)) t in
        let g : s.held.generation ≡ p.held.generation =
        eqb-true _ _ (and_left (eqb s.held.generation p.held.generation) (not (holds (λ (v : Entry). ltb s.index v.index) (last_in p vs))) a) in
        rw (statement_by (p ∷ vs) s, below_at)
        (behind_case_go (at_in s.range s.index vs) old g
        (and_right (eqb s.held.generation p.held.generation && not (holds (λ (v : Entry). ltb s.index v.index) (last_in p vs)))
        (holds (λ (v : Entry). ltb v.held.generation s.held.generation) (at_in s.range s.index vs)) t))

  -- ---- a statement not below the new value, at whose place none stood
  module _ (l : p.index ≤ s.index) (free : any_of (same_place p) vs ≡ false) where
    passes_at : eqb p.range s.range && leb p.index s.index ≡ true
    passes_at = rw (eq-eqb p.range s.range (sym r), le-leb p.index s.index l)

    ahead_same : ahead_fault s (p ∷ vs) ≡ ahead_fault s vs
    ahead_same = ahead_pass p vs s (rw (le-ltb s.index p.index l, and-false (eqb p.range s.range)))

    -- a standing value between: it is judged as before
    between : (o : Option Entry) → next_in p vs ≡ o → holds (λ (v : Entry). leb v.index s.index) o ≡ true
        → at_in s.range s.index (p ∷ vs) ≡ at_in s.range s.index vs
    unfolding next_in at_in
    between None e h = never h refl
    between (Some n) e h =
        let i = lowest_meets (λ v. v.index) (λ v. eqb v.range p.range && ltb p.index v.index) {xs = vs} {r = n} e in
        let a : n.range ≡ s.range = eqb-true _ _ (and_left (eqb n.range p.range) (ltb p.index n.index) i.place.passes) ∙ sym r in
        let m : p.index < n.index = ltb-true _ _ (and_right (eqb n.range p.range) (ltb p.index n.index) i.place.passes) in
        let b = greatest_above (λ v. v.index) (λ v. eqb v.range s.range && leb v.index s.index) (placed_mem i.place)
        (rw (eq-eqb n.range s.range a) h) in
        at_new p vs s passes_at ∙ rw (b.1.0, le-ltb b.0.index p.index (omega (arith, b.1.1)))

    -- none between: it is judged by the new value
    next_go : (o : Option Entry) → at_in s.range s.index vs ≡ o → holds (λ (v : Entry). leb v.index s.index) (next_in p vs) ≡ false
        → greater (λ (v : Entry). v.index) p o ≡ Some p
    unfolding next_in at_in
    next_go None e h = refl
    next_go (Some y) e h =
        let i = greatest_meets (λ v. v.index) (λ v. eqb v.range s.range && leb v.index s.index) {xs = vs} {r = y} e in
        let a : y.range ≡ p.range = eqb-true _ _ (and_left (eqb y.range s.range) (leb y.index s.index) i.place.passes) ∙ r in
        let m : y.index ≤ s.index = leb-true _ _ (and_right (eqb y.range s.range) (leb y.index s.index) i.place.passes) in
        let lower : y.index < p.index = elim (dec_lt y.index p.index) [
          | yes z ↦ z
          | no z ↦ elim (dec_lt p.index y.index) [
            | yes w ↦
                let b = lowest_below (λ v. v.index) (λ v. eqb v.range p.range && ltb p.index v.index) (placed_mem i.place)
                (rw (eq-eqb y.range p.range a, lt-ltb p.index y.index w)) in
                never
                (holds_some (λ v. leb v.index s.index) (next_in p vs) b.0 b.1.0
                ∙ le-leb b.0.index s.index (omega (arith, b.1.1)))
                h
            | no w ↦
                never
                (any_of_mem (same_place p) (placed_mem i.place)
                (rw (eq-eqb p.range y.range (sym a), eq-eqb p.index y.index (omega arith))))
                free
          ]
        ] in
        rw (lt-ltb y.index p.index lower)

    against_go : (b : Bool) → holds (λ (v : Entry). leb v.index s.index) (next_in p vs) ≡ b
        → is_fault (statement_fault (p ∷ vs) s)
        ≡ not b && not (held_eqb p.held s.held) && (not (ltb p.held.generation s.held.generation) || is_some (ahead_in s vs))
    against_go true e =
        rw (statement_by (p ∷ vs) s, between (next_in p vs) refl e, ahead_same) (not_clear _ old)
    against_go false e =
        rw (
          statement_by (p ∷ vs) s,
          at_new p vs s passes_at,
          next_go (at_in s.range s.index vs) refl e,
          ahead_same,
          fault_by_lem s p (ahead_fault s vs),
          ahead_fault_lem s vs,
        )

    pub goes_against_lem : is_fault (statement_fault (p ∷ vs) s) ≡ goes_against p vs s
    unfolding goes_against
    goes_against_lem = against_go (holds (λ (v : Entry). leb v.index s.index) (next_in p vs)) refl

    -- the case of one that goes against the new value: that of a statement judged by it
    against_case : goes_against p vs s ≡ true → statement_fault (p ∷ vs) s ≡ differs_fault s vs p
    unfolding goes_against differs_fault fault_by
    against_case t =
        let a = and_left _ (not (ltb p.held.generation s.held.generation) || is_some (ahead_in s vs)) t in
        let b = and_left (not (holds (λ (v : Entry). leb v.index s.index) (next_in p vs))) (not (held_eqb p.held s.held)) a in
        rw (statement_by (p ∷ vs) s, at_new p vs s passes_at, next_go (at_in s.range s.index vs) refl (not-true _ b), ahead_same)

-- a statement becomes faulty by a new value exactly as `new_faulty` says
module _ (p : Entry) (vs : List Entry) (free : any_of (same_place p) vs ≡ false) (s : Entry) (k : statement_fault vs s ≡ None) where
  new_go : (a b : Bool) → eqb s.range p.range ≡ a → ltb s.index p.index ≡ b
      → is_fault (statement_fault (p ∷ vs) s) ≡ a && cond b (falls_behind p vs s) (goes_against p vs s)
  new_go false b e q =
      rw (untouched p vs s (rw (ne_eqb p.range s.range (λ z. eqb-false _ _ e (sym z))))) (not_clear (statement_fault vs s) k)
  new_go true true e q = falls_behind_lem p vs s k (eqb-true _ _ e) (ltb-true _ _ q)
  new_go true false e q = goes_against_lem p vs s k (eqb-true _ _ e) (ltb-false _ _ q) free

  new_faulty_lem : is_fault (statement_fault (p ∷ vs) s) ≡ new_faulty p vs s
  unfolding new_faulty
  new_faulty_lem = new_go (eqb s.range p.range) (ltb s.index p.index) refl refl

  case_go : (b : Bool) → ltb s.index p.index ≡ b → s.range ≡ p.range → cond b (falls_behind p vs s) (goes_against p vs s) ≡ true
      → statement_fault (p ∷ vs) s ≡ cond b (fault 2 (s.range ∷ s.index ∷ p.index ∷ [])) (differs_fault s vs p)
  case_go true e r t = behind_case p vs s k r (ltb-true _ _ e) t
  case_go false e r t = against_case p vs s k r (ltb-false _ _ e) free t

  -- and with this case
  pub new_case : new_faulty p vs s ≡ true
      → statement_fault (p ∷ vs) s ≡ cond (ltb s.index p.index) (fault 2 (s.range ∷ s.index ∷ p.index ∷ [])) (differs_fault s vs p)
  unfolding new_faulty
  new_case t =
      case_go (ltb s.index p.index) refl
      (eqb-true _ _ (and_left (eqb s.range p.range) (cond (ltb s.index p.index) (falls_behind p vs s) (goes_against p vs s)) t))
      (and_right (eqb s.range p.range) (cond (ltb s.index p.index) (falls_behind p vs s) (goes_against p vs s)) t)

-- agreement with a put at a place where none stood: the earliest statement that becomes faulty, where there is one
module _ (x : TraceRecord) (h : History) (k : agreement h ≡ None) (i : ℕ) (role : role_of x h ≡ puts i)
    (free : any_of (same_place (entry_at i x h)) (standing h) ≡ false) where
  agreement_put :
      agreement (x ∷ h)
      ≡ case_of (statement_fault (entry_at i x h ∷ standing h)) (earliest_of (new_faulty (entry_at i x h) (standing h)) (stated h))
  agreement_put =
      let p = entry_at i x h in
      agreement_new x h k i role free
      ∙ earliest_case_is (statement_fault (p ∷ standing h)) (stated h)
      ∙ ap (case_of (statement_fault (p ∷ standing h)))
      (earliest_agree (statement_fault (standing h)) (λ s. is_fault (statement_fault (p ∷ standing h) s)) (new_faulty p (standing h))
      (new_faulty_lem p (standing h) free) (stated h) (stated_clear h k))

  -- what it is where one was found
  pub agreement_found : (s : Entry) → earliest_of (new_faulty (entry_at i x h) (standing h)) (stated h) ≡ Some s
      → agreement (x ∷ h)
      ≡ cond (ltb s.index i) (fault 2 (s.range ∷ s.index ∷ i ∷ [])) (differs_fault s (standing h) (entry_at i x h))
  agreement_found s e =
      let p = entry_at i x h in
      agreement_put
      ∙ ap (case_of (statement_fault (p ∷ standing h))) e
      ∙ new_case p (standing h) free s (found_clear (statement_fault (standing h)) (new_faulty p (standing h)) (stated h) s (stated_clear h k) e)
      (earliest_meets (new_faulty p (standing h)) {xs = stated h} {r = s} e).place.passes

  pub agreement_none : earliest_of (new_faulty (entry_at i x h) (standing h)) (stated h) ≡ None → agreement (x ∷ h) ≡ None
  agreement_none e = agreement_put ∙ ap (case_of (statement_fault (entry_at i x h ∷ standing h))) e
