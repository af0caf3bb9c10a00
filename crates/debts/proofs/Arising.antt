-- Laws of the debt that arises at a record, by splits: one that is registered and that the node applies, or the one that the
-- record registers.
use mathlib.Core.Path.{◌≡◌, refl, sym, ap, ◌∙◌}
use mathlib.Core.Bool.{Bool, true, false, cond, not, ◌&&◌, ◌||◌}
use mathlib.Core.List.{◌∷◌}
use mathlib.Core.Logic.{⊎_elim}
use Rattle.std.specs.Prelude.{Option, None, Some}
use Prim.Native.Nat.{ℕ}
use native.Mathlib.Omega.{arith}
use lib.Dec.{eqb, leb}
use borrow.Author.Tests.{eqb-true, eq-eqb}
use Rattle.record.specs.declared.named.ApplyEffect.TheVariants.{Took}
use Rattle.record.specs.Records.{TraceRecord}
use Rattle.rules.specs.History.{History, is_kind, is_by, is_some, holds, any_of}
use Rattle.rules.specs.GenerationsRise.{has_effect}
use Rattle.rules.specs.RightHalf.{Registered, is_restated, is_split, registered, registers, reaches, has_applied, is_voter, owes_by_registering, debt_at}
use Rattle.record.proofs.Booleans.{never, and_left, and_right, both, or_cases, or_left, or_right}
use Rattle.rules.proofs.Marks.{kind_apart}
use Rattle.rules.proofs.Members.{Mem, any_of_mem, any_of_some}
use Rattle.rules.proofs.Firsts.{add_mem}
use Rattle.rules.proofs.Once.{registered_step}
use Rattle.rules.proofs.Arising.{mem_step, own_test, reach_test, own_part, debt_some}
use Rattle.debts.specs.Walk.{applying, comes}

module _ (node right : ℕ) (x : TraceRecord) (h : History) where
  -- ---- of one split

  module _ (s : Registered) (its : s.right ≡ right) where
    right_is : eqb s.right right ≡ true
    right_is = eq-eqb s.right right its

    own_way : (k : Bool) → is_kind 7 x || has_effect Took x ≡ k → Mem s (registered h) → is_voter node h s ≡ true → x.a ≡ s.parent
        → applying s.index x (is_restated node h) ≡ true
        → cond k (any_of (own_test node right x h) (registered h))
        (is_kind 2 x && not (is_restated node h) && any_of (reach_test node right x h) (registered (x ∷ h))) ≡ true
    own_way true k m v a e =
        let i : eqb x.b s.index ≡ true = ⊎_elim (λ p. and_right (is_kind 7 x || has_effect Took x) _ p)
        (λ p. never k (took_apart (and_left (is_kind 2 x) _ (and_left (is_kind 2 x && not (is_restated node h)) _ p))))
        (or_cases ((is_kind 7 x || has_effect Took x) && eqb x.b s.index) _ e) in
        any_of_mem (own_test node right x h) m (both
        (both (both (eq-eqb s.parent x.a (sym a)) (eq-eqb s.index x.b (sym (eqb-true x.b s.index i)))) right_is) v)
      where
        took_apart : is_kind 2 x ≡ true → is_kind 7 x || has_effect Took x ≡ false
        took_apart t = rw (kind_apart 2 7 x (λ q. omega arith) t, kind_apart 2 3 x (λ q. omega arith) t)
    own_way false k m v a e =
        let p : is_kind 2 x && not (is_restated node h) && leb s.index x.c ≡ true =
        ap (λ (b : Bool). b && eqb x.b s.index || is_kind 2 x && not (is_restated node h) && leb s.index x.c) (sym k) ∙ e in
        both (and_left (is_kind 2 x && not (is_restated node h)) _ p)
        (any_of_mem (reach_test node right x h) (rw (registered_step x h) (add_mem (registers x h) m))
        (both (both (both (eq-eqb s.parent x.a (sym a)) (and_right (is_kind 2 x && not (is_restated node h)) _ p)) right_is) v))

    -- a registered split that the node applies
    pub debt_own : Mem s (registered h) → comes node s.parent s.index s.voters x h ≡ true → is_some (debt_at node right x h) ≡ true
    unfolding comes
    debt_own m e =
        let w = and_left (is_by node x && eqb x.a s.parent && applying s.index x (is_restated node h)) _ e in
        let u = and_left (is_by node x && eqb x.a s.parent) _ w in
        debt_some node right x h
        ∙ or_left _ _ (both (and_left (is_by node x) _ u)
        (own_way (is_kind 7 x || has_effect Took x) refl m (and_right (is_by node x && eqb x.a s.parent && applying s.index x (is_restated node h)) _ e)
        (eqb-true x.a s.parent (and_right (is_by node x) _ u)) (and_right (is_by node x && eqb x.a s.parent) _ w)))

  -- ---- and by which splits it can arise

  pub data Arisen : Type 0 where
    own : (s : Registered) → s.right ≡ right → Mem s (registered h) → comes node s.parent s.index s.voters x h ≡ true → Arisen
    early : (s : Registered) → s.right ≡ right → registers x h ≡ Some s → is_voter node h s ≡ true
        → has_applied node s.parent s.index h || reaches node s h ≡ true → Arisen
    itself : (s : Registered) → s.right ≡ right → registers x h ≡ Some s → is_voter node h s ≡ true → is_by node x ≡ true → is_kind 2 x ≡ true
        → not (is_restated node h) ≡ true → leb s.index x.c ≡ true → Arisen

  coming : (s : Registered) → is_by node x ≡ true → x.a ≡ s.parent → applying s.index x (is_restated node h) ≡ true → is_voter node h s ≡ true
      → comes node s.parent s.index s.voters x h ≡ true
  unfolding comes
  coming s b a e v = both (both (both b (eq-eqb x.a s.parent a)) e) v

  arisen_own : is_by node x ≡ true → (k : Bool) → is_kind 7 x || has_effect Took x ≡ k
      → cond k (any_of (own_test node right x h) (registered h))
      (is_kind 2 x && not (is_restated node h) && any_of (reach_test node right x h) (registered (x ∷ h))) ≡ true → Arisen
  arisen_own b true k e =
      let w = any_of_some (own_test node right x h) (registered h) e in
      let s = w.it in
      let p = and_left (is_split x.a x.b s && eqb s.right right) (is_voter node h s) w.passes in
      let q = and_left (is_split x.a x.b s) (eqb s.right right) p in
      own s (eqb-true s.right right (and_right (is_split x.a x.b s) _ p)) w.mem
      (coming s b (sym (eqb-true s.parent x.a (and_left (eqb s.parent x.a) _ q)))
      (or_left _ _ (both k (eq-eqb x.b s.index (sym (eqb-true s.index x.b (and_right (eqb s.parent x.a) _ q))))))
      (and_right (is_split x.a x.b s && eqb s.right right) _ w.passes))
  arisen_own b false k e =
      let r = and_left (is_kind 2 x && not (is_restated node h)) _ e in
      let w = any_of_some (reach_test node right x h) (registered (x ∷ h)) (and_right (is_kind 2 x && not (is_restated node h)) _ e) in
      let s = w.it in
      let p = and_left (eqb s.parent x.a && leb s.index x.c && eqb s.right right) (is_voter node h s) w.passes in
      let q = and_left (eqb s.parent x.a && leb s.index x.c) (eqb s.right right) p in
      let its = eqb-true s.right right (and_right (eqb s.parent x.a && leb s.index x.c) _ p) in
      let v = and_right (eqb s.parent x.a && leb s.index x.c && eqb s.right right) _ w.passes in
      let l = and_right (eqb s.parent x.a) _ q in
      ⊎_elim
      (λ g. itself s its g v b (and_left (is_kind 2 x) _ r) (and_right (is_kind 2 x) _ r) l)
      (λ m. own s its m (coming s b (sym (eqb-true s.parent x.a (and_left (eqb s.parent x.a) _ q)))
      (or_right ((is_kind 7 x || has_effect Took x) && eqb x.b s.index) _ (both r l)) v))
      (mem_step x h w.mem)

  arisen_registering : (o : Option Registered) → registers x h ≡ o → holds (owes_by_registering node right h) o ≡ true → Arisen
  arisen_registering None r e = never e refl
  arisen_registering (Some s) r e =
      let p = and_left (eqb s.right right && is_voter node h s) (has_applied node s.parent s.index h || reaches node s h) e in
      early s (eqb-true s.right right (and_left (eqb s.right right) _ p)) r (and_right (eqb s.right right) _ p)
      (and_right (eqb s.right right && is_voter node h s) _ e)

  pub arisen : is_some (debt_at node right x h) ≡ true → Arisen
  arisen e =
      ⊎_elim
      (λ p. arisen_own (and_left (is_by node x) _ p) (is_kind 7 x || has_effect Took x) refl (and_right (is_by node x) _ p))
      (λ p. arisen_registering (registers x h) refl p)
      (or_cases (own_part node right x h) (holds (owes_by_registering node right h) (registers x h)) (sym (debt_some node right x h) ∙ e))
