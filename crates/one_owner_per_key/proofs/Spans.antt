-- Laws of a record's spans, counted through: a test of each, and the first case of them; and of the number of eight bytes.
use mathlib.Core.Path.{◌≡◌, refl, sym, ap, subst, ◌∙◌}
use mathlib.Core.Bool.{Bool, true, ◌||◌}
use mathlib.Core.List.{List, [], ◌∷◌, ◌++◌, map, append-nil}
use Prim.Native.Nat.{ℕ, zero, suc, ◌+◌, ◌<◌, ◌≤◌}
use native.Mathlib.Omega.{arith}
use native.Mathlib.Numerals.{add-one}
use denote.Param.Members.{Mut, Called}
use lib.ListN.{length, take, drop, drop_of_length-le, take-append-drop}
use lib.Seq.{drop-cons}
use Rattle.std.specs.Prelude.{Option, None, Some, MatchOption, IfSome, IsTrue, is_some, slice_get}
use Rattle.std.specs.Int.{w64, from_be_bytes}
use Rattle.std.specs.Iterator.{Yields, DrainsIf, FindsMapped}
use Rattle.std.specs.Iterator.Runs.{YieldsRun, SomeRun, AllItemsGive, IsFirstToGive}
use Rattle.std.specs.List.{list_any, range_with_len, FoldsTo}
use Rattle.std.proofs.lemmas.Option.{none-some, IfSome_then}
use Rattle.std.proofs.lemmas.Iterator.{YieldsList}
use Rattle.std.proofs.lemmas.Iterator.Consumers.{YieldsList-so_far, YieldsList-turn, YieldsList-end}
use Rattle.record.specs.Numbers.{part, big_endian, big_endian_from}
use Rattle.record.specs.Records.{Span, TraceRecord}
use Rattle.record.proofs.Numbers.{length_part}
use Rattle.rules.specs.History.{Mem, here, there, any_of}
use Rattle.rules.proofs.Members.{mem_nil, mem_cons}
use Rattle.rules.specs.declared.Fault.{Fault}
use Rattle.rules.specs.Cases.{Case, or_case, first_case}
use Rattle.rules.specs.Descriptors.{span_of}
use Rattle.rules.specs.OneOwnerPerKey.{group_of}
use Rattle.rules.proofs.Groups.{group_other, group_named}
use Rattle.record.specs.Keys.{Key}
use lib.Dec.{eqb}
use borrow.Author.Tests.{eqb-true, eqb-false}

-- ---- the number that std makes of eight bytes, the first counting most

be_eight : (bs : List ℕ) → length bs ≡ 8 → from_be_bytes w64 bs ≡ big_endian bs
unfolding big_endian_from
be_eight [] e = absurd (omega arith)
be_eight (a ∷ []) e = absurd (omega arith)
be_eight (a ∷ b ∷ []) e = absurd (omega arith)
be_eight (a ∷ b ∷ c ∷ []) e = absurd (omega arith)
be_eight (a ∷ b ∷ c ∷ d ∷ []) e = absurd (omega arith)
be_eight (a ∷ b ∷ c ∷ d ∷ f ∷ []) e = absurd (omega arith)
be_eight (a ∷ b ∷ c ∷ d ∷ f ∷ g ∷ []) e = absurd (omega arith)
be_eight (a ∷ b ∷ c ∷ d ∷ f ∷ g ∷ h ∷ []) e = absurd (omega arith)
be_eight (a ∷ b ∷ c ∷ d ∷ f ∷ g ∷ h ∷ i ∷ []) e = omega arith
be_eight (a ∷ b ∷ c ∷ d ∷ f ∷ g ∷ h ∷ i ∷ j ∷ r) e = absurd (omega arith)

pub be_number64 : (p : ℕ) (s bs : List ℕ) (n : ℕ) → p + 8 ≤ length s → bs ≡ part p (p + 8) s → n ≡ from_be_bytes w64 bs → n ≡ big_endian (part p (p + 8) s)
be_number64 p s bs n h e q = q ∙ be_eight bs (ap length e ∙ length_part p (p + 8) s h ∙ omega arith) ∙ ap big_endian e

-- the group, where the tenant is named
pub group_is : (tenant : ℕ) (key : Key) (a : ℕ) (r : Option ℕ) {Gives : ℕ → Type 0} → 16 ≤ length key → a ≡ big_endian (take 8 key)
    → ((b : ℕ) → Gives b → b ≡ big_endian (take 8 (drop 8 key))) → is_some r ≡ eqb a tenant → IfSome r Gives → r ≡ group_of tenant key
group_is tenant key a None l e calls v s = group_other tenant key l e (eqb-false a tenant (sym v))
group_is tenant key a (Some b) l e calls v s = group_named tenant key l e (eqb-true a tenant (sym v)) (calls b s)

-- ---- counted through

module _ (x : TraceRecord) where
  spans_step : (i : ℕ) → i < length x.spans → drop i x.spans ≡ span_of i x ∷ drop (i + 1) x.spans
  spans_step i l = rw add-one (drop-cons x.spans i (record { start = []; end = [] }) l)

  pub any_spans : (p : Span → Bool) (n i : ℕ) → i + n ≡ length x.spans → list_any (λ k. p (span_of k x)) (range_with_len i n) ≡ any_of p (drop i x.spans)
  unfolding any_of
  any_spans p zero i e = rw (drop_of_length-le x.spans {i = i} (omega arith))
  any_spans p (suc n) i e = rw (spans_step i (omega arith)) (ap (λ (t : Bool). p (span_of i x) || t) (any_spans p n (i + 1) (omega arith)))

  pub first_spans : (f : Span → Case) (n i : ℕ) → i + n ≡ length x.spans → first_case (λ k. f (span_of k x)) (range_with_len i n) ≡ first_case f (drop i x.spans)
  unfolding first_case
  first_spans f zero i e = rw (drop_of_length-le x.spans {i = i} (omega arith))
  first_spans f (suc n) i e = rw (spans_step i (omega arith)) (ap (or_case (f (span_of i x))) (first_spans f n (i + 1) (omega arith)))

-- ---- `find_map` gives the first case

or_first : (a b : Case) → None ≡ a → or_case a b ≡ b
or_first a b e = rw (← e)

first_passed : {A B : Type 0} (h : B → Case) (v : A → B) (xs : List A) (ys : List B) → ((x : A) → Mem x xs → None ≡ h (v x))
    → first_case h (map v xs ++ ys) ≡ first_case h ys
unfolding first_case
first_passed h v [] ys e = refl
first_passed h v (x ∷ xs) ys e = or_first (h (v x)) (first_case h (map v xs ++ ys)) (e x here) ∙ first_passed h v xs ys (λ y m. e y (there m))

module _ {A B F : Type 0} (v : A → B) (g : Mut F (A × Unit {0}) Case) (f : F) (h : B → Case)
    (calls : (x : A) (r : Case) (q : F) → Called g f (x, tt) r q → (q ≡ f) × (r ≡ h (v x))) where
  passed : (xs : List A) (j : F) → FoldsTo (λ p x q. Called g p (x, tt) None q) f xs j → (j ≡ f) × ((x : A) → Mem x xs → None ≡ h (v x))
  passed [] j e = (sym e, λ x m. mem_nil m)
  passed (x ∷ xs) j e =
      let k = calls x None e.0 e.1 in
      let r = passed xs j (subst (λ p. FoldsTo (λ p x q. Called g p (x, tt) None q) p xs j) k.0 e.2) in
      (r.0, mem_cons {P = λ (y : A). None ≡ h (v y)} k.1 r.1)

  module _ {S : Type 0} {steps : S → Option A → S → Type 0} {s : S} {all : List B} (road : YieldsList steps v s all) where
    -- all items gave nothing
    first_none : (xs : List A) (t u : S) → Yields steps s xs t → steps t None u → ((x : A) → Mem x xs → None ≡ h (v x)) → None ≡ first_case h all
    unfolding first_case
    first_none xs t u y n e =
        sym (first_passed h v xs [] e) ∙ ap (first_case h) (append-nil (map v xs) ∙ (YieldsList-end road xs t y None u refl n).0)

    -- one gave a case, and those before it nothing
    first_some : (xs : List A) (t u : S) (x : A) → Yields steps s xs t → steps t (Some x) u → ((x : A) → Mem x xs → None ≡ h (v x)) → (c : Fault)
        → Some c ≡ h (v x) → Some c ≡ first_case h all
    unfolding first_case
    first_some xs t u x y n e c q =
        let w = YieldsList-turn road xs t y (Some x) u x refl n in
        let rest : List B = drop (suc (length xs)) all in
        let a : all ≡ map v xs ++ (v x ∷ rest) =
        sym (take-append-drop (length xs) all)
        ∙ ap (λ (l : List B). l ++ drop (length xs) all) (sym (YieldsList-so_far road xs t y))
        ∙ ap (λ (l : List B). map v xs ++ l) (drop-cons all (length xs) (v x) w.0 ∙ ap (λ (z : B). z ∷ rest) (sym w.1)) in
        ap (λ (z : Case). or_case z (first_case h rest)) q
        ∙ sym (first_passed h v xs (v x ∷ rest) e)
        ∙ ap (first_case h) (sym a)

    given_none : (xs : List A) → ((k : ℕ) → IfSome (slice_get xs k) (λ x. None ≡ h (v x))) → (x : A) → Mem x xs → None ≡ h (v x)
    given_none [] e x m = mem_nil m
    given_none (y ∷ xs) e x m = mem_cons {P = λ (z : A). None ≡ h (v z)} (e 0) (given_none xs (λ k. e (suc k))) x m

    stopped : (xs : List A) (t u : S) (j : F) (c : Fault) → Yields steps s xs t → FoldsTo (λ p x q. Called g p (x, tt) None q) f xs j → (o : Option A) → steps t o u
        → MatchOption o (Some c ≡ None) (λ x. (q : F) × Called g j (x, tt) (Some c) q) → Some c ≡ first_case h all
    stopped xs t u j c y e None n m = absurd (none-some c (sym m))
    stopped xs t u j c y e (Some x) n m =
        let p = passed xs j e in
        first_some xs t u x y n p.1 c (calls x (Some c) m.0 (subst (λ p. Called g p (x, tt) (Some c) m.0) p.0 m.1)).1

    pub first_from_find_map : {u : S} (r : Case) → FindsMapped steps g s f r u
        → SomeRun steps s (λ p. MatchOption r (IsTrue p.whole × AllItemsGive p g f None) (λ y. (i : ℕ) × (i < p.len) × (p.len ≡ i + 1) × IsFirstToGive p g f (Some y) None i))
        → r ≡ first_case h all
    unfolding YieldsRun
    first_from_find_map (Some c) ran runs = stopped ran.0 ran.3.0 _ ran.2 c ran.3.1 ran.4 ran.1 ran.3.2 ran.5
    first_from_find_map None ran runs =
        let p = runs.0 in
        let d = subst (λ z. DrainsIf steps (p.whole ≡ true) z p.items) runs.1 p.gave.0 in
        let n = d.2 runs.2.0 in
        first_none p.items d.0 n.0 d.1 n.1
        (given_none p.items
        (λ k. subst (λ o. IfSome o (λ x. None ≡ h (v x))) (p.gave.1 k)
        (IfSome_then (p.at k) (runs.2.1 (λ a r q c. (calls a.0 r q c).0) k) (λ x c. (calls x None f c).1))))
