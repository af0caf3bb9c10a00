-- What a node comes to owe by its own record, kind by kind: at a RangeSplit or a Took by the split of that range and index, at a
-- RangeDescriptor while not restated by the greatest index up to the applied one.
use mathlib.Core.Path.{◌≡◌, refl, sym, ap, ◌∙◌}
use mathlib.Core.Bool.{Bool, true, false, cond, not, ◌&&◌, ◌||◌, and-true, and-false, or-false}
use mathlib.Core.List.{List, [], ◌∷◌}
use Rattle.std.specs.Prelude.{Option, None, Some}
use mathlib.Core.Logic.{⊎_elim}
use Prim.Native.Nat.{ℕ}
use native.Mathlib.Omega.{arith}
use lib.Dec.{eqb, leb}
use borrow.Author.Tests.{eqb-true, eqb-false, eq-eqb, ne_eqb}
use Rattle.record.specs.declared.named.ApplyEffect.TheVariants.{Took}
use Rattle.record.specs.Records.{TraceRecord}
use Rattle.rules.specs.History.{History, is_kind, is_by, latest_of, greatest_of}
use Rattle.rules.specs.GenerationsRise.{has_effect}
use Rattle.rules.specs.RightHalf.{Registered, is_split, registered, is_registered, is_restated, applies, is_voter, own_debt}
use Rattle.record.proofs.Booleans.{decide, never, and_left, and_right, both}
use Rattle.rules.proofs.Marks.{kind_apart}
use Rattle.rules.proofs.Members.{Mem, here, there, any_of_mem}
use Rattle.rules.proofs.Placed.{Answer, Latest, latest_of_right, placed_mem}
use Rattle.rules.proofs.Best.{Greatest, greatest_of_right, greatest_none}
use Rattle.rules.proofs.Once.{splits_one}
use Rattle.rules.proofs.Registering.{registered_same}

module _ {A : Type 0} (number : A → ℕ) where
  -- tests that agree on the elements find the same
  greatest_agree : (p q : A → Bool) (xs : List A) → ((y : A) → Mem y xs → p y ≡ q y) → greatest_of number p xs ≡ greatest_of number q xs
  unfolding greatest_of
  greatest_agree p q [] f = refl
  greatest_agree p q (x ∷ xs) f = rw (f x here, greatest_agree p q xs (λ y m. f y (there m)))

  -- where one element alone passes, the greatest is the latest
  module _ (p : A → Bool) (xs : List A) (one : (y z : A) → Mem y xs → Mem z xs → p y ≡ true → p z ≡ true → y ≡ z) where
    one_found : (a b : Option A) → Answer (Greatest number p xs) p xs a → Answer (Latest p xs) p xs b → a ≡ b
    one_found None None f g = refl
    one_found None (Some r) f g = never g.place.passes (f r (placed_mem g.place))
    one_found (Some r) None f g = never f.place.passes (g r (placed_mem f.place))
    one_found (Some r) (Some s) f g = ap Some (one r s (placed_mem f.place) (placed_mem g.place) f.place.passes g.place.passes)

    greatest_latest : greatest_of number p xs ≡ latest_of p xs
    greatest_latest = one_found (greatest_of number p xs) (latest_of p xs) (greatest_of_right number p xs) (latest_of_right p xs)

eqb_turn : (a b : ℕ) → eqb a b ≡ eqb b a
eqb_turn a b = ⊎_elim
    (λ e. e ∙ sym (eq-eqb b a (sym (eqb-true a b e))))
    (λ e. e ∙ sym (ne_eqb b a (λ q. eqb-false a b e (sym q))))
    (decide (eqb a b))

-- a split of the registered ones is registered, by its parent and index
known : (h : History) {s : Registered} → Mem s (registered h) → is_registered s.parent s.index h ≡ true
known h {s} m = any_of_mem (is_split s.parent s.index) m (both (eq-eqb s.parent s.parent refl) (eq-eqb s.index s.index refl))

module _ (node right : ℕ) (x : TraceRecord) (h : History) where
  -- the tests of a split with that right range and the server among its voters: the record makes the node apply it; it has the
  -- record's range and index; it has its range, and an index up to its applied one
  abbrev is_applied : Registered → Bool
  is_applied s = applies node s.parent s.index x h && eqb s.right right && is_voter node h s

  abbrev pub is_own : Registered → Bool
  is_own s = is_split x.a x.b s && eqb s.right right && is_voter node h s

  abbrev pub is_covered : Registered → Bool
  is_covered s = eqb s.parent x.a && leb s.index x.c && eqb s.right right && is_voter node h s

  abbrev pub own_by_kind : Option Registered
  own_by_kind =
      cond (is_kind 7 x || has_effect Took x) (latest_of is_own (registered h))
      (cond (is_kind 2 x && not (is_restated node h)) (greatest_of (λ s. s.index) is_covered (registered (x ∷ h))) None)

  same_test : (s : Registered) {b : Bool} → applies node s.parent s.index x h ≡ b → is_applied s ≡ b && eqb s.right right && is_voter node h s
  same_test s e = ap (λ (v : Bool). v && eqb s.right right && is_voter node h s) e

  own_one : (s t : Registered) → Mem s (registered h) → Mem t (registered h) → is_own s ≡ true → is_own t ≡ true → s ≡ t
  own_one s t m n p q =
      let a = split_of s p in
      let b = split_of t q in
      splits_one h s t m n (a.0 ∙ sym b.0) (a.1 ∙ sym b.1)
    where
      split_of : (u : Registered) → is_own u ≡ true → (u.parent ≡ x.a) × (u.index ≡ x.b)
      split_of u e =
          let w = and_left (is_split x.a x.b u) (eqb u.right right) (and_left _ (is_voter node h u) e) in
          (eqb-true _ _ (and_left (eqb u.parent x.a) _ w), eqb-true _ _ (and_right (eqb u.parent x.a) _ w))

  none_applied : ((s : Registered) → applies node s.parent s.index x h ≡ false) → own_debt node right x h ≡ None
  unfolding own_debt
  none_applied f = greatest_none (λ s. s.index) is_applied (registered (x ∷ h)) (λ s m. same_test s (f s))

  own_other : is_by node x ≡ false → own_debt node right x h ≡ None
  own_other b = none_applied (λ s. rw b)

  module _ (b : is_by node x ≡ true) where
    -- a RangeSplit, or a Took
    module _ (not_1 : is_kind 1 x ≡ false) (not_2 : is_kind 2 x ≡ false)
        (its : (s : Registered) → Mem s (registered h) → applies node s.parent s.index x h ≡ is_split x.a x.b s) where
      own_split : own_debt node right x h ≡ latest_of is_own (registered h)
      unfolding own_debt
      own_split =
          ap (greatest_of (λ s. s.index) is_applied) (registered_same x h not_1 not_2)
          ∙ greatest_agree (λ s. s.index) is_applied is_own (registered h) (λ s m. same_test s (its s m))
          ∙ greatest_latest (λ s. s.index) is_own (registered h) own_one

    turned : (s : Registered) → eqb x.a s.parent && eqb x.b s.index ≡ is_split x.a x.b s
    turned s = rw (eqb_turn x.a s.parent, eqb_turn x.b s.index)

    own_7 : is_kind 7 x ≡ true → own_debt node right x h ≡ latest_of is_own (registered h)
    own_7 k = own_split (apart 1 (λ q. omega arith)) (apart 2 (λ q. omega arith))
        (λ s m. rw (b, k, apart 3 (λ q. omega arith), apart 2 (λ q. omega arith), or-false (eqb x.b s.index), or-false (eqb x.b s.index))
        (turned s))
      where
        apart : (j : ℕ) → (7 ≡ j → ⊥) → is_kind j x ≡ false
        apart j n = kind_apart 7 j x n k

    own_took : has_effect Took x ≡ true → own_debt node right x h ≡ latest_of is_own (registered h)
    own_took t = own_split (apart 1 (λ q. omega arith)) (apart 2 (λ q. omega arith))
        (λ s m. rw (b, t, apart 7 (λ q. omega arith), apart 2 (λ q. omega arith), known h m, and-true (eqb x.b s.index), or-false (eqb x.b s.index))
        (turned s))
      where
        apart : (j : ℕ) → (3 ≡ j → ⊥) → is_kind j x ≡ false
        apart j n = kind_apart 3 j x n (and_left (is_kind 3 x) _ t)

    module _ (not_7 : is_kind 7 x ≡ false) (not_took : has_effect Took x ≡ false) where
      -- a RangeDescriptor, while not restated
      own_2 : is_kind 2 x ≡ true → is_restated node h ≡ false → own_debt node right x h ≡ greatest_of (λ s. s.index) is_covered (registered (x ∷ h))
      unfolding own_debt
      own_2 k n = greatest_agree (λ s. s.index) is_applied is_covered (registered (x ∷ h)) (λ s m. same_test s (its s m))
        where
          its : (s : Registered) → Mem s (registered (x ∷ h)) → applies node s.parent s.index x h ≡ eqb s.parent x.a && leb s.index x.c
          its s m = rw (b, not_7, not_took, k, n, known (x ∷ h) m, eqb_turn x.a s.parent, and-true (leb s.index x.c))

      -- any other record
      own_none : is_kind 2 x && not (is_restated node h) ≡ false → own_debt node right x h ≡ None
      own_none e = none_applied (λ s. rw (not_7, not_took, e) (and-false (is_by node x && eqb x.a s.parent)))

    own_here : (k t d r : Bool) → is_kind 7 x ≡ k → has_effect Took x ≡ t → is_kind 2 x ≡ d → is_restated node h ≡ r
        → own_debt node right x h
        ≡ cond (k || t) (latest_of is_own (registered h)) (cond (d && not r) (greatest_of (λ s. s.index) is_covered (registered (x ∷ h))) None)
    own_here true t d r ek et ed er = own_7 ek
    own_here false true d r ek et ed er = own_took et
    own_here false false true false ek et ed er = own_2 ek et ed er
    own_here false false true true ek et ed er = own_none ek et (rw (ed, er))
    own_here false false false r ek et ed er = own_none ek et (rw ed)

  -- THE LAW OF A NODE'S OWN DEBTS: what it comes to owe by its own record, kind by kind
  pub own_kinds : own_debt node right x h ≡ cond (is_by node x) own_by_kind None
  own_kinds = go (is_by node x) refl
    where
      go : (b : Bool) → is_by node x ≡ b → own_debt node right x h ≡ cond b own_by_kind None
      go true e = own_here e (is_kind 7 x) (has_effect Took x) (is_kind 2 x) (is_restated node h) refl refl refl refl
      go false e = own_other e
