-- What the look-ups give, from the judge's own promises. Assumes nothing.
use mathlib.Core.Path.{◌≡◌, refl, sym, ap, ◌∙◌, subst}
use mathlib.Core.Bool.{Bool, true, false, cond}
use mathlib.Core.List.{List, [], ◌∷◌}
use mathlib.Core.Logic.{inl, inr, ⊎_elim}
use Prim.Native.Nat.{ℕ}
use native.Mathlib.Omega.{arith}
use lib.ListN.{length}
use lib.Dec.{eqb}
use borrow.Author.Tests.{eq-eqb, ne_eqb}
use Rattle.record.proofs.Booleans.{never}
use Rattle.history.specs.Logs.{hist}
use Rattle.ids_unique.specs.Answers.{too_short}
use Rattle.judge.specs.declared.lookup.Looked.{Looked}
use Rattle.judge.specs.declared.lookup.Question.{Question}
use Rattle.judge.specs.declared.state.Judge.{Judge}
use Rattle.decision.specs.Refusals.{outcome_number}
use Rattle.judge.specs.Lookups.{value_of, words_of, lends, LookedBy}
use Rattle.petalchurn.specs.declared.answer.Answer.{Answer}
use Rattle.state_words.specs.StateWords.{judge_in, is_state}
use Rattle.petalchurn.specs.Lookups.{answer_of, LooksWords}
use Rattle.state_words.proofs.States.{fit_of, some_state, none_state}

pub answer_kept : (n v : ℕ) → n ≡ 0 → ◌≡◌ {A = Answer} (record { refusal = n; value = v }) (answer_of n v)
answer_kept n v h = ap (λ (b : Bool). record { refusal = n; value = cond b v 0 }) (sym (eq-eqb n 0 h))

pub answer_cleared : (n v : ℕ) → (n ≡ 0 → ⊥) → ◌≡◌ {A = Answer} (record { refusal = n; value = 0 }) (answer_of n v)
answer_cleared n v h = ap (λ (b : Bool). record { refusal = n; value = cond b v 0 }) (sym (ne_eqb n 0 h))

-- an answer with the number of no refusal has its value
value_at : {r : Answer} (n v : ℕ) → r ≡ answer_of n v → n ≡ 0 → r.value ≡ v
value_at n v e z = ap (λ (a : Answer). a.value) e ∙ ap (λ (b : Bool). cond b v 0) (eq-eqb n 0 z)

given_value : {r : Answer} (b : Bool) (n v k : ℕ) → n ≡ cond b 8 0 → v ≡ cond b 0 k → r ≡ answer_of n v → r.value ≡ cond b 0 k
given_value true n v k e w x = ap (λ (a : Answer). a.value) x ∙ ap (λ (m : ℕ). cond (eqb m 0) v 0) e
given_value false n v k e w x = value_at n v x e ∙ w

module _ (q : Question) (state log work out : List ℕ) where
  pub looked_unfit : {r : Answer} → is_state state ≡ false → r ≡ answer_of 5 0 → LooksWords q state log work out out r
  looked_unfit t e = record {
    unfit = λ x. e;
    refused = λ j x l. never (some_state state x) t;
    lent = λ j x l. never (some_state state x) t;
    bare = λ j x l w. never (some_state state x) t;
    untouched = λ x. refl;
    answered = λ j x l i. never (some_state state x) t;
  }

  -- refused by 5 or by 8, the judge's look-up leaves the list
  list_left : (p : Looked) (j : Judge) {out' : List ℕ} → LookedBy q j log work out out' p → (outcome_number p.outcome ≡ 0 → ⊥)
      → (b : Bool) → lends j log work ≡ b → out' ≡ out
  list_left p j g z true l = ⊎_elim (λ e. absurd (z e)) (λ s. s.list) (g.lent l)
  list_left p j g z false l = (g.refused l).2

  pub looked_done : (p : Looked) {j : Judge} {out' : List ℕ} {n v : ℕ} {r : Answer} → is_state state ≡ true → j ≡ judge_in state
      → LookedBy q j log work out out' p → n ≡ outcome_number p.outcome → v ≡ p.value → r ≡ answer_of n v
      → LooksWords q state log work out out' r
  looked_done p {j} {out'} {n} {v} {r} t s g e w x =
      let at : (k : Judge) → judge_in state ≡ k → LookedBy q k log work out out' p =
      λ k h. subst (λ (i : Judge). LookedBy q i log work out out' p) (s ∙ h) g in
      let number : r.refusal ≡ outcome_number p.outcome = ap (λ (m : Answer). m.refusal) x ∙ e in
      record {
        unfit = λ y. never t (none_state state y);
        refused = λ k y l. x ∙ ap (λ (m : ℕ). answer_of m v) (e ∙ ((at k (fit_of state t y)).refused l).0);
        lent = λ k y l.
            ⊎_elim (λ z. inl (number ∙ z)) (λ u. inr (x ∙ ap (λ (m : ℕ). answer_of m v) (e ∙ u.refusal))) ((at k (fit_of state t y)).lent l);
        bare = λ k y l b. let u = (at k (fit_of state t y)).bare l b in (number ∙ u.0, u.1);
        untouched = λ z. list_left p j g (λ y. z (number ∙ y)) (lends j log work) refl;
        answered = λ k y l i.
            let u = (at k (fit_of state t y)).answered l i in
            let h = hist log k.count in
            record {
              refusal = number ∙ u.refusal;
              value = given_value (too_short (words_of q h) out) n v (value_of q h) (e ∙ u.refusal) (w ∙ u.value) x;
              list = u.list;
            };
      }

-- of an empty list nothing else can be left
empty_left : (l : List ℕ) → length l ≡ 0 → l ≡ []
empty_left [] e = refl
empty_left (x ∷ l) e = absurd (omega arith)

pub looked_empty : {q : Question} {state log work out' : List ℕ} {r : Answer} → LooksWords q state log work [] out' r → length out' ≡ 0
    → LooksWords q state log work [] [] r
looked_empty {q} {state} {log} {work} {out'} {r} g e = subst (λ (l : List ℕ). LooksWords q state log work [] l r) (empty_left out' e) g
