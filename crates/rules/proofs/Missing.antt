-- The lowest right range that a node owes and does not hold, with its debt: what it is with a RangesRestated and with a Took, by
-- what it was before them.
use mathlib.Core.Path.{◌≡◌, refl, sym, ap, ◌∙◌, subst}
use mathlib.Core.Bool.{Bool, true, false, cond, not, ◌&&◌, ◌||◌, and-false}
use mathlib.Core.List.{List, [], ◌∷◌, map}
use mathlib.Core.Logic.{◌⊎◌, inl, inr, ⊎_elim}
use Rattle.std.proofs.lemmas.Option.{same_Some}
use Rattle.std.specs.Prelude.{Option, None, Some}
use Prim.Native.Nat.{ℕ, ◌<◌}
use native.Mathlib.Omega.{arith}
use lib.Dec.{eqb, ltb}
use borrow.Author.Tests.{eqb-true, eq-eqb, ltb-true}
use Rattle.record.specs.declared.named.ApplyEffect.TheVariants.{Took}
use Rattle.record.specs.Records.{TraceRecord}
use Rattle.record.proofs.Booleans.{never, decide, and_left, and_right, both, or_cases, or_left, or_right}
use Rattle.rules.specs.Cases.{Case, fault, case_of}
use Rattle.rules.specs.History.{History, is_kind, is_by, is_some, holds, latest_of, lowest_of, or_else}
use Rattle.rules.specs.GenerationsRise.{has_effect}
use Rattle.rules.specs.OneOwnerPerKey.{has_hold}
use Rattle.rules.specs.RightHalf.{Registered, is_split, registered, is_voter, cancels, debt_at, owes, is_missing, missing_fault}
use Rattle.rules.proofs.Marks.{kind_apart}
use Rattle.rules.proofs.Members.{Mem}
use Rattle.rules.proofs.Registering.{registers_none, registered_same}
use Rattle.rules.proofs.Candidates.{LowestOfAll}
use Rattle.rules.proofs.Lowest.{one_lowest, at_least}
use Rattle.rules.proofs.Holds.{held_same}
use Rattle.rules.proofs.OwnDebts.{own_kinds}
use Rattle.rules.proofs.Debts.{owes_arises, owes_kept}
use Rattle.rules.proofs.Owed.{missing_right}
use Rattle.rules.proofs.Applied.{only_split}

-- ---- the lowest missing range, and its fault

abbrev pub lowest_missing : ℕ → History → Option ℕ
lowest_missing node h = lowest_of (λ n. n) (is_missing node h) (map (λ s. s.right) (registered h))

abbrev debt_case : ℕ → ℕ → ℕ → Option Registered → Case
debt_case kind node right o = case_of (λ s. fault kind (node ∷ s.parent ∷ s.index ∷ right ∷ [])) o

module _ (kind node : ℕ) (h : History) where
  pub missing_none : None ≡ lowest_missing node h → None ≡ missing_fault kind node h
  unfolding missing_fault
  missing_none e = rw (← e)

  -- what is missing is owed by a split
  owed_case : {right : ℕ} {c : Case} → is_missing node h right ≡ true → (o : Option Registered) → owes node right h ≡ o
      → ((s : Registered) → owes node right h ≡ Some s → c ≡ fault kind (node ∷ s.parent ∷ s.index ∷ right ∷ [])) → c ≡ debt_case kind node right o
  owed_case {right} m None q f = never (and_left (is_some (owes node right h)) _ m) (ap is_some q)
  owed_case m (Some s) q f = f s q

  pub missing_some : {right : ℕ} {c : Case} → Some right ≡ lowest_missing node h
      → ((s : Registered) → owes node right h ≡ Some s → c ≡ fault kind (node ∷ s.parent ∷ s.index ∷ right ∷ [])) → c ≡ missing_fault kind node h
  unfolding missing_fault
  missing_some {right} e f =
      let m = subst (LowestOfAll (is_missing node h)) (sym e) (missing_right node h) in
      rw (← e) (owed_case m.0 (owes node right h) refl f)

-- two histories with the same lowest, which is owed by the same split
fault_same : (kind node : ℕ) (g h : History) (o : Option ℕ) → lowest_missing node g ≡ o → lowest_missing node h ≡ o
    → ((right : ℕ) → o ≡ Some right → owes node right g ≡ owes node right h) → missing_fault kind node g ≡ missing_fault kind node h
unfolding missing_fault
fault_same kind node g h None e f q = rw (e, f)
fault_same kind node g h (Some right) e f q = rw (e, f) (ap (debt_case kind node right) (q right refl))

-- ---- a record that makes nothing owed

-- the lowest is told by what each number passes
lowest_same : (p q : ℕ → Bool) → ((r : ℕ) → p r ≡ q r) → (xs : List ℕ) → lowest_of (λ n. n) p xs ≡ lowest_of (λ n. n) q xs
unfolding lowest_of
lowest_same p q e [] = refl
lowest_same p q e (x ∷ xs) = rw (e x, lowest_same p q e xs)

-- one that neither registers a split nor applies one
quiet_debt : (node right : ℕ) (x : TraceRecord) (h : History) → is_kind 1 x ≡ false → is_kind 2 x ≡ false → is_kind 7 x ≡ false → is_kind 3 x ≡ false
    → debt_at node right x h ≡ None
unfolding debt_at
quiet_debt node right x h a b c d = rw (own_kinds node right x h, c, d, b, registers_none x h a b) (go (is_by node x))
  where
    go : (t : Bool) → or_else {A = Registered} (cond t None None) None ≡ None
    go true = refl
    go false = refl

-- ---- at a RangesRestated

module _ (node : ℕ) (x : TraceRecord) (h : History) (is : is_kind 5 x ≡ true) where
  not_kind : (k : ℕ) → (5 ≡ k → ⊥) → is_kind k x ≡ false
  not_kind k d = kind_apart 5 k x d is

  pub restated_owes : (right : ℕ) → owes node right (x ∷ h) ≡ owes node right h
  restated_owes right =
      owes_kept node right x h (rw (not_kind 9 (λ q. omega arith), not_kind 10 (λ q. omega arith)) (and-false (is_by node x)))
      (quiet_debt node right x h (not_kind 1 (λ q. omega arith)) (not_kind 2 (λ q. omega arith)) (not_kind 7 (λ q. omega arith))
      (not_kind 3 (λ q. omega arith)))

  pub restated_held : (range : ℕ) → has_hold node range (x ∷ h) ≡ has_hold node range h
  restated_held range =
      held_same node range x h (not_kind 1 (λ q. omega arith)) (not_kind 2 (λ q. omega arith)) (not_kind 6 (λ q. omega arith)) (not_kind 9 (λ q. omega arith))
      (not_kind 10 (λ q. omega arith))

  -- what is missing with the record is what was missing before it
  pub restated_missing : (range : ℕ) → is_missing node (x ∷ h) range ≡ is_missing node h range
  restated_missing range = rw (restated_owes range, restated_held range)

  pub restated_lowest : lowest_missing node (x ∷ h) ≡ lowest_missing node h
  restated_lowest =
      ap (λ (ss : List Registered). lowest_of (λ n. n) (is_missing node (x ∷ h)) (map (λ s. s.right) ss))
      (registered_same x h (not_kind 1 (λ q. omega arith)) (not_kind 2 (λ q. omega arith)))
      ∙ lowest_same (is_missing node (x ∷ h)) (is_missing node h) restated_missing (map (λ s. s.right) (registered h))

pub restated_fault : (kind node : ℕ) (x : TraceRecord) (h : History) → is_kind 5 x ≡ true → missing_fault kind node h ≡ missing_fault kind node (x ∷ h)
restated_fault kind node x h is =
    fault_same kind node h (x ∷ h) (lowest_missing node h) refl (restated_lowest node x h is) (λ right q. sym (restated_owes node x h is right))

-- ---- at a Took of a registered split

module _ (node : ℕ) (x : TraceRecord) (h : History) (b : is_by node x ≡ true) (took : has_effect Took x ≡ true) (s : Registered)
    (mem : Mem s (registered h)) (at : is_split x.a x.b s ≡ true) where
  took_kind : (k : ℕ) → (3 ≡ k → ⊥) → is_kind k x ≡ false
  took_kind k d = kind_apart 3 k x d (and_left (is_kind 3 x) _ took)

  module _ (right : ℕ) where
    abbrev its : Registered → Bool
    its u = eqb u.right right && is_voter node h u

    abbrev test : Registered → Bool
    test u = is_split x.a x.b u && eqb u.right right && is_voter node h u

    or_none : (o : Option Registered) → or_else o None ≡ o
    or_none None = refl
    or_none (Some u) = refl

    took_debt : debt_at node right x h ≡ latest_of test (registered h)
    unfolding debt_at
    took_debt =
        rw (
          own_kinds node right x h,
          b,
          took_kind 7 (λ q. omega arith),
          took,
          registers_none x h (took_kind 1 (λ q. omega arith)) (took_kind 2 (λ q. omega arith)),
        )
        (or_none (latest_of test (registered h)))

    took_cases : (t : Bool) → its s ≡ t → owes node right (x ∷ h) ≡ cond t (Some s) (owes node right h)
    took_cases t e =
        go t (took_debt ∙ only_split h x.a x.b s mem at (λ u. eqb u.right right) (is_voter node h) ∙ ap (λ (v : Bool). cond v (Some s) None) e)
      where
        kept : cancels node right x ≡ false
        kept = rw (took_kind 9 (λ q. omega arith), took_kind 10 (λ q. omega arith)) (and-false (is_by node x))

        go : (v : Bool) → debt_at node right x h ≡ cond v (Some s) None → owes node right (x ∷ h) ≡ cond v (Some s) (owes node right h)
        go true d = owes_arises node right x h s kept d
        go false d = owes_kept node right x h kept d

    -- the split is owed by the record, where the server is a voter; else what was owed before
    pub took_owes : owes node right (x ∷ h) ≡ cond (its s) (Some s) (owes node right h)
    took_owes = took_cases (its s) refl

    pub took_held : has_hold node right (x ∷ h) ≡ has_hold node right h
    took_held =
        held_same node right x h (took_kind 1 (λ q. omega arith)) (took_kind 2 (λ q. omega arith)) (took_kind 6 (λ q. omega arith))
        (took_kind 9 (λ q. omega arith))
        (took_kind 10 (λ q. omega arith))

    some_cond : (t : Bool) (o : Option Registered) → is_some (cond t (Some s) o) ≡ t || is_some o
    some_cond true o = refl
    some_cond false o = refl

    pub took_missing : is_missing node (x ∷ h) right ≡ (its s || is_some (owes node right h)) && not (has_hold node right h)
    took_missing = rw (took_owes, took_held, some_cond (its s) (owes node right h))

module _ (node : ℕ) (x : TraceRecord) (h : History) (b : is_by node x ≡ true) (took : has_effect Took x ≡ true) (s : Registered)
    (mem : Mem s (registered h)) (at : is_split x.a x.b s ≡ true) where
  abbrev next : ℕ → Bool
  next = is_missing node (x ∷ h)

  record Own (r : ℕ) : Type 0 where
    its : s.right ≡ r
    voter : is_voter node h s ≡ true
    free : not (has_hold node r h) ≡ true

  -- what is missing now: the split's own right range, or what was missing before
  either : (r : ℕ) → next r ≡ true → Own r ⊎ (is_missing node h r ≡ true)
  either r p =
      let e = sym (took_missing node x h b took s mem at r) ∙ p in
      let f = and_right (eqb s.right r && is_voter node h s || is_some (owes node r h)) _ e in
      ⊎_elim
      (λ q. inl (record { its = eqb-true s.right r (and_left (eqb s.right r) _ q); voter = and_right (eqb s.right r) _ q; free = f }))
      (λ q. inr (both q f))
      (or_cases (eqb s.right r && is_voter node h s) (is_some (owes node r h)) (and_left _ _ e))

  still : (r : ℕ) → is_missing node h r ≡ true → next r ≡ true
  still r p =
      took_missing node x h b took s mem at r
      ∙ both (or_right (eqb s.right r && is_voter node h s) _ (and_left (is_some (owes node r h)) _ p)) (and_right (is_some (owes node r h)) _ p)

  -- its right range, where the node comes to owe it, does not hold it, and none below it was missing
  pub took_own : {c : Case} → is_voter node h s && not (has_hold node s.right h) ≡ true
      → holds (λ k. ltb k s.right) (lowest_missing node h) ≡ false → c ≡ fault 1 (node ∷ x.a ∷ x.b ∷ s.right ∷ []) → c ≡ missing_fault 1 node (x ∷ h)
  took_own {c} o l ec =
      let v = and_left (is_voter node h s) _ o in
      let i : eqb s.right s.right && is_voter node h s ≡ true = both (eq-eqb s.right s.right refl) v in
      let p : next s.right ≡ true =
      took_missing node x h b took s mem at s.right ∙ both (or_left _ (is_some (owes node s.right h)) i) (and_right (is_voter node h s) _ o) in
      let e : lowest_missing node (x ∷ h) ≡ Some s.right =
      one_lowest next _ _ (missing_right node (x ∷ h)) (
        p,
        λ n q. ⊎_elim (λ w. let z : s.right ≡ n = w.its in omega arith)
            (at_least (is_missing node h) (lowest_missing node h) s.right n (missing_right node h) l) (either n q),
      ) in
      missing_some 1 node (x ∷ h) (sym e)
      (λ t q.
      let d : owes node s.right (x ∷ h) ≡ Some s = took_owes node x h b took s mem at s.right ∙ rw i in
      let z : s ≡ t = same_Some _ _ (sym d ∙ q) in
      let f : s.parent ≡ x.a = eqb-true s.parent x.a (and_left (eqb s.parent x.a) _ at) in
      let g : s.index ≡ x.b = eqb-true s.index x.b (and_right (eqb s.parent x.a) _ at) in
      ec ∙ rw (← z, f, g))

  -- else what was missing before
  module _ (other : is_voter node h s && not (has_hold node s.right h) ≡ true → holds (λ k. ltb k s.right) (lowest_missing node h) ≡ true) where
    below : (r : ℕ) → Own r → holds (λ k. ltb k r) (lowest_missing node h) ≡ true
    below r w = rw w.its at other (both w.voter w.free)

    went_on : (o : Option ℕ) → lowest_missing node h ≡ o → LowestOfAll (is_missing node h) o → LowestOfAll next o
    went_on None e w = λ n. ⊎_elim (λ p. ⊎_elim (λ q. never (rw e at below n q) refl) (λ q. never q (w n)) (either n p)) (λ p. p) (decide (next n))
    went_on (Some l) e w =
        (still l w.0, λ n p. ⊎_elim (λ q. let z : l < n = ltb-true l n (rw e at below n q) in omega arith) (w.1 n) (either n p))

    same_owed : (l : ℕ) → lowest_missing node h ≡ Some l → is_missing node h l ≡ true → (t : Bool) → eqb s.right l && is_voter node h s ≡ t
        → cond t (Some s) (owes node l h) ≡ owes node l h
    same_owed l e m false q = refl
    same_owed l e m true q =
        let w : Own l = record {
          its = eqb-true s.right l (and_left (eqb s.right l) _ q);
          voter = and_right (eqb s.right l) _ q;
          free = and_right (is_some (owes node l h)) _ m;
        } in
        let z : l < l = ltb-true l l (rw e at below l w) in
        absurd (omega arith)

    pub took_other : missing_fault 1 node h ≡ missing_fault 1 node (x ∷ h)
    took_other =
        fault_same 1 node h (x ∷ h) (lowest_missing node h) refl
        (one_lowest next _ _ (missing_right node (x ∷ h)) (went_on (lowest_missing node h) refl (missing_right node h)))
        (λ l e.
        let m = subst (LowestOfAll (is_missing node h)) e (missing_right node h) in
        sym (took_owes node x h b took s mem at l ∙ same_owed l e m.0 (eqb s.right l && is_voter node h s) refl))
