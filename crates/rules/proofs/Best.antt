-- What `greatest_of` and `lowest_of` find: the greatest (the lowest) number among those that pass, the earliest among equals. One law serves both.
use mathlib.Core.Path.{◌≡◌, refl, ap, ◌∙◌}
use mathlib.Core.Bool.{Bool, true, false, cond}
use mathlib.Core.List.{List, [], ◌∷◌, ◌++◌}
use Rattle.std.specs.Prelude.{Option, None, Some}
use Prim.Native.Nat.{ℕ, ◌≤◌, ◌<◌}
use native.Mathlib.Omega.{arith}
use lib.Dec.{ltb}
use borrow.Author.Tests.{ltb-true, ltb-false, lt-ltb, le-ltb}
use Rattle.rules.specs.History.{greater, greatest_of, lower, lowest_of}
use Rattle.record.proofs.Booleans.{never}
use Rattle.rules.proofs.Members.{Mem, here, there, mem_nil, mem_cons, mem_left, NonePasses}
use Rattle.rules.proofs.Placed.{Placed, placed_here, placed_there, placed_mem, Answer, answer_some, answer_passing}

module _ {A : Type 0} where
  -- the best that passes, and the earliest of the best: none that passes is better, and it is better than each that passes before it
  pub record Best (better as_good : A → A → Type 0) (p : A → Bool) (xs : List A) (r : A) : Type 0 where
    pub place : Placed p xs r
    pub most : (y : A) → Mem y xs → p y ≡ true → as_good r y
    pub before : (y : A) → Mem y place.earlier → p y ≡ true → better r y

  -- by the greatest number, and by the lowest
  abbrev pub Greatest : (A → ℕ) → (A → Bool) → List A → A → Type 0
  Greatest number = Best (λ r y. number y < number r) (λ r y. number y ≤ number r)

  abbrev pub Lowest : (A → ℕ) → (A → Bool) → List A → A → Type 0
  Lowest number = Best (λ r y. number r < number y) (λ r y. number r ≤ number y)

  -- a test for being better, with what it has to tell
  pub record Order (better as_good : A → A → Type 0) (test : A → A → Bool) : Type 0 where
    pub tested : (x y : A) → test x y ≡ true → better x y
    pub failed : (x y : A) → test x y ≡ false → as_good y x
    pub itself : (x : A) → as_good x x
    pub further : {x y z : A} → better x y → as_good y z → better x z
    pub weaker : {x y : A} → better x y → as_good x y
    pub apart : (x y : A) → better x y → test x y ≡ true
    pub near : (x y : A) → as_good y x → test x y ≡ false

-- the best of a list by a test for being better: of a list that is newest first, the earliest among equals
module _ {A : Type 0} (test : A → A → Bool) where
  abbrev keep : A → Option A → Option A
  keep x None = Some x
  keep x (Some y) = cond (test x y) (Some x) (Some y)

  unfoldable best_of : (A → Bool) → List A → Option A
  best_of p [] = None
  best_of p (x ∷ xs) = cond (p x) (keep x (best_of p xs)) (best_of p xs)

module _ {A : Type 0} (better as_good : A → A → Type 0) (test : A → A → Bool) (o : Order better as_good test) (p : A → Bool) where
  abbrev IsBest : List A → A → Type 0
  IsBest = Best better as_good p

  best_over : (x m : A) (xs : List A) (b : Bool) → p x ≡ true → test x m ≡ b → IsBest xs m → Answer (IsBest (x ∷ xs)) p (x ∷ xs) (cond b (Some x) (Some m))
  best_over x m xs true e t w =
      let a : (y : A) → Mem y xs → p y ≡ true → better x y = λ y i q. o.further (o.tested x m t) (w.most y i q) in
      record { place = placed_here x xs e; most = mem_cons (λ q. o.itself x) (λ y i q. o.weaker (a y i q)); before = a }
  best_over x m xs false e t w = record { place = placed_there x w.place; most = mem_cons (λ q. o.failed x m t) w.most; before = w.before }

  best_next : (x : A) (xs : List A) (b : Bool) (a : Option A) → p x ≡ b → Answer (IsBest xs) p xs a
      → Answer (IsBest (x ∷ xs)) p (x ∷ xs) (cond b (keep test x a) a)
  best_next x xs true None e h = record {
    place = placed_here x xs e;
    most = mem_cons (λ q. o.itself x) (λ y i q. never q (h y i));
    before = λ y i q. never q (h y i);
  }
  best_next x xs true (Some m) e h = best_over x m xs (test x m) e refl h
  best_next x xs false None e h = mem_cons e h
  best_next x xs false (Some m) e h = record { place = placed_there x h.place; most = mem_cons (λ q. never q e) h.most; before = h.before }

  best_right : (xs : List A) → Answer (IsBest xs) p xs (best_of test p xs)
  unfolding best_of
  best_right [] = λ y m. mem_nil m
  best_right (x ∷ xs) = best_next x xs (p x) (best_of test p xs) refl (best_right xs)

  best_none : (xs : List A) → NonePasses p xs → best_of test p xs ≡ None
  unfolding best_of
  best_none [] h = refl
  best_none (x ∷ xs) h = rw (h x here, best_none xs (λ y m. h y (there m)))

  -- r is better than all that passes before it, and no later one is better
  best_first : (r : A) (earlier : List A) (a : Option A) → Answer (IsBest earlier) p earlier a
      → ((y : A) → Mem y earlier → p y ≡ true → better r y) → keep test r a ≡ Some r
  best_first r earlier None h f = refl
  best_first r earlier (Some m) h f = rw (o.apart r m (f m (placed_mem h.place) h.place.passes))

  best_kept : (x r : A) (b : Bool) → p x ≡ b → (p x ≡ true → as_good r x) → cond b (keep test x (Some r)) (Some r) ≡ Some r
  best_kept x r true e f = rw (o.near x r (f e))
  best_kept x r false e f = refl

  best_at : (r : A) (earlier later : List A) → p r ≡ true → ((y : A) → Mem y earlier → p y ≡ true → better r y)
      → ((y : A) → Mem y later → p y ≡ true → as_good r y) → best_of test p (later ++ (r ∷ earlier)) ≡ Some r
  unfolding best_of
  best_at r earlier [] e f g = rw e (best_first r earlier (best_of test p earlier) (best_right earlier) f)
  best_at r earlier (x ∷ l) e f g = rw (best_at r earlier l e f (λ y m. g y (there m))) (best_kept x r (p x) refl (g x here))

  best_found : {xs : List A} {r : A} → IsBest xs r → best_of test p xs ≡ Some r
  best_found {r = r} w =
      ap (best_of test p) w.place.split
      ∙ best_at r w.place.earlier w.place.later w.place.passes w.before (λ y m. w.most y (rw w.place.split (mem_left _ m)))

module _ {A : Type 0} (number : A → ℕ) where
  abbrev above : A → A → Bool
  above x y = ltb (number y) (number x)

  abbrev below : A → A → Bool
  below x y = ltb (number x) (number y)

  greatest_order : Order (λ (r y : A). number y < number r) (λ (r y : A). number y ≤ number r) above
  greatest_order = record {
    tested = λ x y e. ltb-true (number y) (number x) e;
    failed = λ x y e. ltb-false (number y) (number x) e;
    itself = λ x. omega arith;
    further = λ a b. omega arith;
    weaker = λ a. omega arith;
    apart = λ x y l. lt-ltb (number y) (number x) l;
    near = λ x y l. le-ltb (number y) (number x) l;
  }

  lowest_order : Order (λ (r y : A). number r < number y) (λ (r y : A). number r ≤ number y) below
  lowest_order = record {
    tested = λ x y e. ltb-true (number x) (number y) e;
    failed = λ x y e. ltb-false (number x) (number y) e;
    itself = λ x. omega arith;
    further = λ a b. omega arith;
    weaker = λ a. omega arith;
    apart = λ x y l. lt-ltb (number x) (number y) l;
    near = λ x y l. le-ltb (number x) (number y) l;
  }

  module _ (p : A → Bool) where
    greater_keeps : (x : A) (b : Bool) (o : Option A) → cond b (greater number x o) o ≡ cond b (keep above x o) o
    greater_keeps x b None = refl
    greater_keeps x b (Some y) = refl

    greatest_is : (xs : List A) → greatest_of number p xs ≡ best_of above p xs
    unfolding greatest_of best_of
    greatest_is [] = refl
    greatest_is (x ∷ xs) = rw (greatest_is xs) (greater_keeps x (p x) (best_of above p xs))

    pub greatest_of_right : (xs : List A) → Answer (Greatest number p xs) p xs (greatest_of number p xs)
    greatest_of_right xs = rw (greatest_is xs) (best_right _ _ _ greatest_order p xs)

    pub greatest_found : {xs : List A} {r : A} → Greatest number p xs r → greatest_of number p xs ≡ Some r
    greatest_found {xs} w = greatest_is xs ∙ best_found _ _ _ greatest_order p w

    pub greatest_none : (xs : List A) → NonePasses p xs → greatest_of number p xs ≡ None
    greatest_none xs h = greatest_is xs ∙ best_none _ _ _ greatest_order p xs h

    -- what is found is the greatest, and where one passes one is found that is not lower
    pub greatest_meets : {xs : List A} {r : A} → greatest_of number p xs ≡ Some r → Greatest number p xs r
    greatest_meets {xs} e = answer_some (Greatest number p xs) p xs (greatest_of number p xs) (greatest_of_right xs) e

    pub greatest_above : {xs : List A} {y : A} → Mem y xs → p y ≡ true → (r : A) × ((greatest_of number p xs ≡ Some r) × (number y ≤ number r))
    greatest_above {xs} {y} m e =
        let w = answer_passing (Greatest number p xs) p xs (greatest_of number p xs) (greatest_of_right xs) m e in
        (w.0, (w.1, (greatest_meets w.1).most y m e))

    lower_keeps : (x : A) (b : Bool) (o : Option A) → cond b (lower number x o) o ≡ cond b (keep below x o) o
    lower_keeps x b None = refl
    lower_keeps x b (Some y) = refl

    lowest_is : (xs : List A) → lowest_of number p xs ≡ best_of below p xs
    unfolding lowest_of best_of
    lowest_is [] = refl
    lowest_is (x ∷ xs) = rw (lowest_is xs) (lower_keeps x (p x) (best_of below p xs))

    pub lowest_of_right : (xs : List A) → Answer (Lowest number p xs) p xs (lowest_of number p xs)
    lowest_of_right xs = rw (lowest_is xs) (best_right _ _ _ lowest_order p xs)

    pub lowest_found : {xs : List A} {r : A} → Lowest number p xs r → lowest_of number p xs ≡ Some r
    lowest_found {xs} w = lowest_is xs ∙ best_found _ _ _ lowest_order p w

    pub lowest_none : (xs : List A) → NonePasses p xs → lowest_of number p xs ≡ None
    lowest_none xs h = lowest_is xs ∙ best_none _ _ _ lowest_order p xs h

    pub lowest_meets : {xs : List A} {r : A} → lowest_of number p xs ≡ Some r → Lowest number p xs r
    lowest_meets {xs} e = answer_some (Lowest number p xs) p xs (lowest_of number p xs) (lowest_of_right xs) e

    pub lowest_below : {xs : List A} {y : A} → Mem y xs → p y ≡ true → (r : A) × ((lowest_of number p xs ≡ Some r) × (number r ≤ number y))
    lowest_below {xs} {y} m e =
        let w = answer_passing (Lowest number p xs) p xs (lowest_of number p xs) (lowest_of_right xs) m e in
        (w.0, (w.1, (lowest_meets w.1).most y m e))

-- tests that say the same of every element find the same
module _ {A : Type 0} (number : A → ℕ) (p q : A → Bool) (e : (x : A) → p x ≡ q x) where
  pub greatest_agree : (xs : List A) → greatest_of number p xs ≡ greatest_of number q xs
  unfolding greatest_of
  greatest_agree [] = refl
  greatest_agree (x ∷ xs) = rw (e x, greatest_agree xs)

  pub lowest_agree : (xs : List A) → lowest_of number p xs ≡ lowest_of number q xs
  unfolding lowest_of
  lowest_agree [] = refl
  lowest_agree (x ∷ xs) = rw (e x, lowest_agree xs)
