-- Whether a debt arises at a record: by a test of the registered splits, at the node's own record, or of the one that it registers.
use mathlib.Core.Path.{◌≡◌, refl, sym, ap, ◌∙◌}
use mathlib.Core.Bool.{Bool, true, false, cond, not, ◌&&◌, ◌||◌}
use mathlib.Core.List.{List, [], ◌∷◌}
use mathlib.Core.Logic.{◌⊎◌, inl, inr}
use Rattle.std.specs.Prelude.{Option, None, Some}
use Prim.Native.Nat.{ℕ}
use native.Mathlib.Omega.{arith}
use lib.Dec.{eqb, leb, ltb}
use borrow.Author.Tests.{eq-eqb}
use Rattle.record.specs.declared.named.ApplyEffect.TheVariants.{Took}
use Rattle.record.specs.Records.{TraceRecord}
use Rattle.rules.specs.History.{History, is_kind, is_by, when, or_else, is_some, holds, given, any_of, add_some, latest_of, greater, greatest_of, firsts}
use Rattle.rules.specs.GenerationsRise.{has_effect}
use Rattle.rules.specs.RightHalf.{Registered, is_restated, registered, registers, reaches, has_applied, is_voter, own_debt, owes_by_registering, registering_debt, debt_at}
use Rattle.record.proofs.Booleans.{both, or_left, or_right}
use Rattle.rules.proofs.Marks.{kind_apart}
use Rattle.rules.proofs.Members.{Mem, here, there, any_of_mem}
use Rattle.rules.proofs.Once.{registered_step}
use Rattle.rules.proofs.OwnDebts.{is_own, is_covered, own_by_kind, own_kinds}

-- ---- the registered splits, one record on

pub registered_nil : registered [] ≡ []
unfolding registered firsts
registered_nil = refl

add_cases : {A : Type 0} {s : A} (o : Option A) (ss : List A) → Mem s (add_some o ss) → (o ≡ Some s) ⊎ Mem s ss
add_cases None ss m = inr m
add_cases (Some s) ss here = inl refl
add_cases (Some t) ss (there m) = inr m

pub mem_step : (x : TraceRecord) (h : History) {s : Registered} → Mem s (registered (x ∷ h)) → (registers x h ≡ Some s) ⊎ Mem s (registered h)
mem_step x h m = add_cases (registers x h) (registered h) (rw (registered_step x h) at m)

-- ---- whether anything is found

some_or : {A : Type 0} (a b : Option A) → is_some (or_else a b) ≡ is_some a || is_some b
some_or None b = refl
some_or (Some x) b = refl

cond_some : {A : Type 0} (b : Bool) (x : A) (o : Option A) (t : Bool) → is_some o ≡ t → is_some (cond b (Some x) o) ≡ b || t
cond_some true x o t e = refl
cond_some false x o t e = e

latest_any : {A : Type 0} (p : A → Bool) (xs : List A) → is_some (latest_of p xs) ≡ any_of p xs
unfolding latest_of any_of
latest_any p [] = refl
latest_any p (x ∷ xs) = cond_some (p x) x (latest_of p xs) (any_of p xs) (latest_any p xs)

greater_some : {A : Type 0} (number : A → ℕ) (x : A) (o : Option A) → is_some (greater number x o) ≡ true
greater_some number x None = refl
greater_some number x (Some y) = go (ltb (number y) (number x))
  where
    go : (b : Bool) → is_some (cond b (Some x) (Some y)) ≡ true
    go true = refl
    go false = refl

greatest_step : {A : Type 0} (number : A → ℕ) (b : Bool) (x : A) (o : Option A) (t : Bool) → is_some o ≡ t → is_some (cond b (greater number x o) o) ≡ b || t
greatest_step number true x o t e = greater_some number x o
greatest_step number false x o t e = e

greatest_any : {A : Type 0} (number : A → ℕ) (p : A → Bool) (xs : List A) → is_some (greatest_of number p xs) ≡ any_of p xs
unfolding greatest_of any_of
greatest_any number p [] = refl
greatest_any number p (x ∷ xs) = greatest_step number (p x) x (greatest_of number p xs) (any_of p xs) (greatest_any number p xs)

-- ---- the debt that arises

module _ (node right : ℕ) (x : TraceRecord) (h : History) where
  abbrev pub own_test : Registered → Bool
  own_test = is_own node right x h

  abbrev pub reach_test : Registered → Bool
  reach_test = is_covered node right x h

  own_some : (k m : Bool) → is_some (cond k (latest_of own_test (registered h)) (cond m (greatest_of (λ s. s.index) reach_test (registered (x ∷ h))) None))
      ≡ cond k (any_of own_test (registered h)) (m && any_of reach_test (registered (x ∷ h)))
  own_some true m = latest_any own_test (registered h)
  own_some false true = greatest_any (λ s. s.index) reach_test (registered (x ∷ h))
  own_some false false = refl

  by_some : (b : Bool) (o : Option Registered) → is_some (cond b o None) ≡ b && is_some o
  by_some true o = refl
  by_some false o = refl

  when_some : (p : Registered → Bool) (o : Option Registered) → is_some (given (λ s. when (p s) s) o) ≡ holds p o
  when_some p None = refl
  when_some p (Some s) = go (p s)
    where
      go : (b : Bool) → is_some (when b s) ≡ b
      go true = refl
      go false = refl

  abbrev pub own_part : Bool
  own_part =
      is_by node x && cond (is_kind 7 x || has_effect Took x) (any_of own_test (registered h))
      (is_kind 2 x && not (is_restated node h) && any_of reach_test (registered (x ∷ h)))

  -- a debt arises by the node's own application, or by the registering
  pub debt_some : is_some (debt_at node right x h)
      ≡ own_part || holds (owes_by_registering node right h) (registers x h)
  unfolding debt_at
  debt_some =
      some_or (own_debt node right x h) (registering_debt node right x h)
      ∙ ap (λ (b : Bool). b || is_some (registering_debt node right x h))
      (ap is_some (own_kinds node right x h)
      ∙ by_some (is_by node x) (own_by_kind node right x h)
      ∙ ap (λ (b : Bool). is_by node x && b) (own_some (is_kind 7 x || has_effect Took x) (is_kind 2 x && not (is_restated node h))))
      ∙ ap (λ (b : Bool). is_by node x && cond (is_kind 7 x || has_effect Took x) (any_of own_test (registered h))
      (is_kind 2 x && not (is_restated node h) && any_of reach_test (registered (x ∷ h))) || b)
      (when_some (owes_by_registering node right h) (registers x h))

  -- ---- of the split that the record registers

  module _ (s : Registered) (its : s.right ≡ right) where
    right_is : eqb s.right right ≡ true
    right_is = eq-eqb s.right right its

    -- applied before or reached ..
    pub debt_registering : registers x h ≡ Some s → is_voter node h s ≡ true → has_applied node s.parent s.index h || reaches node s h ≡ true
        → is_some (debt_at node right x h) ≡ true
    debt_registering r v e = debt_some ∙ or_right own_part _ (ap (holds (owes_by_registering node right h)) r ∙ both (both right_is v) e)

    -- .. or by the record itself
    pub debt_itself : registers x h ≡ Some s → is_voter node h s ≡ true → is_by node x ≡ true → is_kind 2 x ≡ true → not (is_restated node h) ≡ true
        → x.a ≡ s.parent
        → leb s.index x.c ≡ true → is_some (debt_at node right x h) ≡ true
    debt_itself r v b k m a e =
        let q : is_kind 7 x || has_effect Took x ≡ false = rw (kind_apart 2 7 x (λ z. omega arith) k, kind_apart 2 3 x (λ z. omega arith) k) in
        debt_some
        ∙ or_left _ _ (both b
        (rw q (both (both k m)
        (any_of_mem reach_test (rw (registered_step x h, r) here) (both (both (both (eq-eqb s.parent x.a (sym a)) e) right_is) v)))))
