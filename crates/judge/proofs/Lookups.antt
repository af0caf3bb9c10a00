-- A look-up's ways to answer: refused, of no capacity and so of no records, too long for the list, and given. Assumes nothing.
use Rattle.std.proofs.lemmas.Option.{none-some}
use Rattle.std.specs.Prelude.{None, Some, Ok, Err}
use mathlib.Core.Path.{◌≡◌, refl, sym, ap, ◌∙◌, subst}
use mathlib.Core.Bool.{Bool, true, false, cond}
use mathlib.Core.List.{List, [], ◌++◌}
use mathlib.Core.Logic.{inl, inr}
use Prim.Native.Nat.{ℕ, ◌≤◌}
use native.Mathlib.Omega.{arith}
use lib.ListN.{length, drop}
use borrow.Author.Tests.{le-ltb}
use Rattle.record.proofs.Booleans.{never}
use Rattle.rules.specs.History.{History, told, firsts, those, greatest_of, earliest_of}
use Rattle.rules.specs.Descriptors.{standing, stated, before_in, at_in, first_at_generation_in, before, at, first_at_generation, statements, is_empty}
use Rattle.rules.specs.IdsUnique.{first_grants, blocks_of, in_order, blocks, holders_of}
use Rattle.history.specs.Logs.{hist}
use Rattle.history.proofs.Logs.{hist_none}
use Rattle.ids_unique.specs.Answers.{Listed, too_short, ListedIn, block_words, holder_words}
use Rattle.judge.specs.declared.lookup.Looked.{Looked}
use Rattle.judge.specs.declared.lookup.Question.{Question}
use Rattle.judge.specs.declared.lookup.Question.TheVariants.{Before, At, FirstAtGeneration, Statements, IsEmpty, HoldersOf, Blocks}
use Rattle.judge.specs.declared.state.Judge.{Judge}
use Rattle.decision.specs.declared.refusal.Refusal.TheVariants.{Judge as Unfit, Output}
use Rattle.intake.specs.Words.{Indexed}
use Rattle.judge.specs.Lookups.{value_of, words_of, writes, ListedBy, lends, Answered, LookedBy}
use Rattle.decision.proofs.Suiting.{Suiting, suiting}

-- no words are written of no records
pub none_words : (q : Question) → words_of q [] ≡ []
unfolding block_words holder_words holders_of blocks in_order blocks_of first_grants firsts those
none_words (Before range index) = refl
none_words (At range index) = refl
none_words (FirstAtGeneration range generation) = refl
none_words Statements = refl
none_words IsEmpty = refl
none_words (HoldersOf id) = refl
none_words Blocks = refl

empty_none : value_of IsEmpty [] ≡ 1
unfolding is_empty standing firsts
empty_none = refl

-- the answer of no records: `IsEmpty` holds, and every other is 0
pub none_empty : (q : Question) → q ≡ IsEmpty → 1 ≡ value_of q []
none_empty q e = sym (ap (λ (p : Question). value_of p []) e ∙ empty_none)

pub none_others : (q : Question) → (q ≡ IsEmpty → ⊥) → 0 ≡ value_of q []
unfolding before before_in at at_in first_at_generation first_at_generation_in statements stated told standing firsts greatest_of earliest_of
    holders_of blocks in_order blocks_of first_grants those
none_others (Before range index) k = refl
none_others (At range index) k = refl
none_others (FirstAtGeneration range generation) k = refl
none_others Statements k = refl
none_others IsEmpty k = absurd (k refl)
none_others (HoldersOf id) k = refl
none_others Blocks k = refl

-- a list is never too short for no words
pub none_fit : (out : List ℕ) → too_short [] out ≡ false
none_fit out = le-ltb (length out) 0 (omega arith)

short_by : (t : Bool) (k : ℕ) → None ≡ cond t None (Some k) → t ≡ true
short_by true k e = refl
short_by false k e = absurd (let z : ◌≡◌ {A = ℕ} 0 1 = cc in omega arith)

all_by : (t : Bool) (k m : ℕ) → Some m ≡ cond t None (Some k) → (t ≡ false) × (m ≡ k)
all_by true k m e = absurd (let z : ◌≡◌ {A = ℕ} 0 1 = cc in omega arith)
all_by false k m e = (refl, cc)

-- an answer without words
listed_value : {words out : List ℕ} {n : ℕ} {l : Listed} → words ≡ [] → l ≡ Some n → ListedIn words out out n l
listed_value {words} {out} {n} {l} w e =
    let t : too_short words out ≡ false = ap (λ (ws : List ℕ). too_short ws out) w ∙ none_fit out in
    record {
      list = sym (ap (λ (b : Bool). cond b out (words ++ drop (length words) out)) t ∙ ap (λ (ws : List ℕ). ws ++ drop (length ws) out) w);
      answer = e ∙ sym (ap (λ (b : Bool). cond b None (Some n)) t);
    }

-- a question by one that it is: one that writes a list, and one that writes none
pub listed_as : {q p : Question} {cap n : ℕ} {log work out out' : List ℕ} {l : Listed} → q ≡ p → writes p ≡ true → (l ≡ None → out' ≡ out)
    → (Indexed cap (hist log n) work → ListedIn (words_of p (hist log n)) out out' (value_of p (hist log n)) l)
    → ListedBy q cap log work n out out' l
listed_as {cap = cap} {n = n} {log = log} {work = work} {out = out} {out' = out'} {l = l} e w s g =
    subst (λ (p : Question). ListedBy p cap log work n out out' l) (sym e) (record { short = s; bare = λ x. never w x; listed = g })

pub valued_as : {q p : Question} {cap n v : ℕ} {log work : List ℕ} → q ≡ p → (out : List ℕ) → ((h : History) → words_of p h ≡ [])
    → (Indexed cap (hist log n) work → v ≡ value_of p (hist log n)) → ListedBy q cap log work n out out (Some v)
valued_as {cap = cap} {n = n} {v = v} {log = log} {work = work} e out w g =
    subst (λ (p : Question). ListedBy p cap log work n out out (Some v)) (sym e) (record {
      short = λ s. refl;
      bare = λ x. (λ n. none-some v (sym n), refl);
      listed = λ i. listed_value (w (hist log n)) (ap Some (g i));
    })

-- the judge that a test hands back is the one given
pub lends_by : (j : Judge) (log work : List ℕ) {i : Judge} {holds b : Bool} → holds ≡ lends j log work → i ≡ j → holds ≡ b → lends i log work ≡ b
lends_by j log work h e g = ap (λ (k : Judge). lends k log work) e ∙ sym h ∙ g

pub looked_as : {q : Question} {i j : Judge} {log work out out' : List ℕ} {r : Looked} → i ≡ j → LookedBy q i log work out out' r
    → LookedBy q j log work out out' r
looked_as {q = q} {log = log} {work = work} {out = out} {out' = out'} {r = r} e l = subst (λ (k : Judge). LookedBy q k log work out out' r) e l

module _ (q : Question) (j : Judge) (log work out : List ℕ) where
  abbrev taken : History
  taken = hist log j.count

  pub looked_refused : {v : ℕ} → lends j log work ≡ false → v ≡ value_of q []
      → LookedBy q j log work out out (record { outcome = Err Unfit; judge = j; value = v })
  looked_refused e v = record { judge = refl; refused = λ x. (refl, v, refl); lent = λ x. never x e; bare = λ x w. never x e; answered = λ x i. never x e }

  -- of no capacity there are no records
  pub looked_none : {v : ℕ} → lends j log work ≡ true → j.capacity ≡ 0 → v ≡ value_of q []
      → LookedBy q j log work out out (record { outcome = Ok tt; judge = j; value = v })
  looked_none {v} e z a =
      let s : Suiting j.capacity j.count (length log) (length work) = suiting e in
      let l : j.count ≤ j.capacity = s.within in
      let k : j.count ≡ 0 = omega arith in
      let h : taken ≡ [] = ap (hist log) k ∙ hist_none log in
      let t : too_short (words_of q []) out ≡ false = ap (λ (ws : List ℕ). too_short ws out) (none_words q) ∙ none_fit out in
      let none : Answered q [] out out (record { outcome = Ok tt; judge = j; value = v }) = record {
        refusal = ap (λ (b : Bool). cond b 8 0) (sym t);
        value = a ∙ ap (λ (b : Bool). cond b 0 (value_of q [])) (sym t);
        list = sym (ap (λ (b : Bool). cond b out (words_of q [] ++ drop (length (words_of q [])) out)) t
            ∙ ap (λ (ws : List ℕ). ws ++ drop (length ws) out) (none_words q));
      } in
      record {
        judge = refl;
        refused = λ x. never e x;
        lent = λ x. inl refl;
        bare = λ x w. (refl, refl);
        answered = λ x i. subst (λ (g : History). Answered q g out out (record { outcome = Ok tt; judge = j; value = v })) (sym h) none;
      }

  module _ {out' : List ℕ} {l : Listed} (e : lends j log work ≡ true) (g : ListedBy q j.capacity log work j.count out out' l) where
    pub looked_short : l ≡ None → LookedBy q j log work out out' (record { outcome = Err Output; judge = j; value = 0 })
    looked_short s = record {
      judge = refl;
      refused = λ x. never e x;
      lent = λ x. inr (record { refusal = refl; value = refl; list = g.short s });
      bare = λ x w. absurd ((g.bare w).0 s);
      answered = λ x i.
          let t : too_short (words_of q taken) out ≡ true = short_by _ (value_of q taken) (sym s ∙ (g.listed i).answer) in
          record {
            refusal = ap (λ (b : Bool). cond b 8 0) (sym t);
            value = ap (λ (b : Bool). cond b 0 (value_of q taken)) (sym t);
            list = (g.listed i).list;
          };
    }

    pub looked_given : {k : ℕ} → l ≡ Some k → LookedBy q j log work out out' (record { outcome = Ok tt; judge = j; value = k })
    looked_given {k} s = record {
      judge = refl;
      refused = λ x. never e x;
      lent = λ x. inl refl;
      bare = λ x w. (refl, (g.bare w).1);
      answered = λ x i.
          let t = all_by (too_short (words_of q taken) out) (value_of q taken) k (sym s ∙ (g.listed i).answer) in
          record {
            refusal = ap (λ (b : Bool). cond b 8 0) (sym t.0);
            value = t.1 ∙ ap (λ (b : Bool). cond b 0 (value_of q taken)) (sym t.0);
            list = (g.listed i).list;
          };
    }
