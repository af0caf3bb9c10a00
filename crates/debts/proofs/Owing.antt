-- What a node owes, by splits: a right range is owed exactly where some registered split with that right range is owed, each by
-- its latest coming against the latest cancel.
use mathlib.Core.Path.{◌≡◌, refl, sym, ap, ◌∙◌}
use mathlib.Core.Bool.{Bool, true, false, cond, not, ◌&&◌, ◌||◌}
use mathlib.Core.List.{List, ◌∷◌}
use mathlib.Core.Logic.{⊎_elim}
use Rattle.std.specs.Prelude.{Option, None, Some}
use Prim.Native.Nat.{ℕ, zero, suc, ◌-◌, ◌≤◌, ◌<◌, max}
use native.Mathlib.Omega.{arith}
use lib.Dec.{eqb, leb, ltb}
use borrow.Author.Tests.{ltb-true, lt-ltb, le-ltb, le-leb, leb-true}
use Rattle.record.specs.Records.{TraceRecord}
use Rattle.rules.specs.History.{History, becomes, ends, lasting, is_kind, is_by, when, or_else, is_some, holds, latest}
use Rattle.rules.specs.RightHalf.{Registered, is_restated, is_registered, registers, tells_recorded, recorded, reaches, has_applied, is_voter, cancels, debt_at, owes}
use Rattle.record.proofs.Booleans.{never, and_left, and_right, both, or_cases, or_left, or_right}
use Rattle.rules.proofs.Marks.{kind_apart}
use Rattle.rules.proofs.Debts.{owes_nil, owes_cancelled, owes_arises, owes_kept}
use Rattle.rules.proofs.Registering.{registers_new}
use Rattle.rules.proofs.Traced.{tells_traced, applied_traced}
use Rattle.history.specs.Logs.{record_at, hist}
use Rattle.history.proofs.Logs.{hist_none, hist_suc}
use Rattle.one_owner_per_key.specs.Numbers.{latest_number}
use Rattle.one_owner_per_key.proofs.Latest.{passes_at, number_none, number_bound, number_is, number_over, at_hit, at_miss}
use Rattle.debts.specs.declared.owed.Asked.TheVariants.{Traced, Recording}
use Rattle.splits.specs.Numbers.{refuses, refused_number, named_number}
use Rattle.debts.specs.Walk.{cancel_number, debt_number, asks, comes, reached, traced, reaches_itself, applied_first, owes_first, owes_split}
use Rattle.splits.specs.Splits.{parent_by, split_with}
use Rattle.debts.proofs.Arising.{Arisen, own, early, itself, arisen, debt_own}
use Rattle.splits.proofs.Registered.{registered_place, place_registered, split_is}
use Rattle.rules.proofs.Arising.{debt_registering, debt_itself}

-- ---- THE DEBT LAW: a right range is owed where the latest debt is later than the latest cancel

module _ (node right : ℕ) (log : List ℕ) where
  abbrev tc : TraceRecord → History → Bool
  tc = λ x _. cancels node right x

  abbrev td : TraceRecord → History → Bool
  td = λ x g. is_some (debt_at node right x g)

  owes_step : (n : ℕ) (c : Bool) (o : Option Registered) → cancels node right (record_at log n) ≡ c → debt_at node right (record_at log n) (hist log n) ≡ o
      → is_some (owes node right (hist log n)) ≡ ltb (cancel_number node right (hist log n)) (debt_number node right (hist log n))
      → is_some (owes node right (record_at log n ∷ hist log n)) ≡ ltb (cancel_number node right (hist log (suc n))) (debt_number node right (hist log (suc n)))
  owes_step n true o e d i =
      rw (owes_cancelled node right (record_at log n) (hist log n) e, at_hit tc log n e)
      (sym (le-ltb (suc n) (debt_number node right (hist log (suc n))) (number_bound td log (suc n))))
  owes_step n false (Some s) e d i =
      let l : cancel_number node right (hist log n) < suc n = omega (arith, number_bound tc log n) in
      rw (owes_arises node right (record_at log n) (hist log n) s e d, at_miss tc log n e, at_hit td log n (ap is_some d))
      (sym (lt-ltb (cancel_number node right (hist log n)) (suc n) l))
  owes_step n false None e d i =
      rw (owes_kept node right (record_at log n) (hist log n) e d, at_miss tc log n e, at_miss td log n (ap is_some d)) i

  pub owes_number : (n : ℕ) → is_some (owes node right (hist log n)) ≡ ltb (cancel_number node right (hist log n)) (debt_number node right (hist log n))
  owes_number zero = rw (hist_none, owes_nil node right, number_none tc, number_none td)
  owes_number (suc n) =
      ap (λ (h : History). is_some (owes node right h)) (hist_suc log n)
      ∙ owes_step n (cancels node right (record_at log n)) (debt_at node right (record_at log n) (hist log n)) refl refl (owes_number n)

-- ---- the recorded index

module _ (node range : ℕ) (log : List ℕ) where
  abbrev tr : TraceRecord → History → Bool
  tr = asks Recording node range

  abbrev tf : TraceRecord → History → Bool
  tf = λ x _. refuses node x

  -- what the code makes of the two numbers
  abbrev recorded_as : ℕ → Option ℕ
  recorded_as n = cond (ltb (refused_number node (hist log n)) (latest_number tr (hist log n)))
      (Some (record_at log (latest_number tr (hist log n) - 1)).c) None

  recording_apart : (x : TraceRecord) → is_kind 2 x ≡ true → is_kind 10 x ≡ false
  recording_apart x = kind_apart 2 10 x (λ q. omega arith)

  recorded_step : (n : ℕ) (b k a m z : Bool) → is_by node (record_at log n) ≡ b → is_kind 2 (record_at log n) ≡ k → eqb (record_at log n).a range ≡ a
      → not (is_restated node (hist log n)) ≡ m → is_kind 10 (record_at log n) ≡ z
      → lasting (latest (tells_recorded node range) (hist log n)) ≡ recorded_as n
      → lasting (or_else (cond b (cond (k && a && m) (Some (becomes (record_at log n).c)) (when z ends)) None)
      (latest (tells_recorded node range) (hist log n))) ≡ recorded_as (suc n)
  unfolding asks
  recorded_step n true true true true z eb ek ea em ez i =
      let p : passes_at tr log n ≡ true = rw (eb, ea, ek, em) in
      let q : passes_at tf log n ≡ false = rw (eb, recording_apart (record_at log n) ek) in
      let l : refused_number node (hist log n) < suc n = omega (arith, number_bound tf log n) in
      let s : suc n - 1 ≡ n = omega arith in
      rw (at_hit tr log n p, at_miss tf log n q, lt-ltb (refused_number node (hist log n)) (suc n) l, s)
  recorded_step n true true true false true eb ek ea em ez i = never ez (recording_apart (record_at log n) ek)
  recorded_step n true true false m true eb ek ea em ez i = never ez (recording_apart (record_at log n) ek)
  recorded_step n true true true false false eb ek ea em ez i = rw (at_miss tr log n (rw (eb, ea, ek, em)), at_miss tf log n (rw (eb, ez))) i
  recorded_step n true true false m false eb ek ea em ez i = rw (at_miss tr log n (rw (eb, ea)), at_miss tf log n (rw (eb, ez))) i
  recorded_step n true false a m true eb ek ea em ez i =
      let p : passes_at tr log n ≡ false = tr_off a ek in
      let l : latest_number tr (hist log n) ≤ suc n = omega (arith, number_bound tr log n) in
      rw (at_miss tr log n p, at_hit tf log n (rw (eb, ez)), le-ltb (suc n) (latest_number tr (hist log n)) l)
    where
      and_off : (u v w : Bool) → u && v && (false && w) ≡ false
      and_off true true w = refl
      and_off true false w = refl
      and_off false v w = refl

      tr_off : (u : Bool) → is_kind 2 (record_at log n) ≡ false
          → is_by node (record_at log n) && eqb (record_at log n).a range && (is_kind 2 (record_at log n) && not (is_restated node (hist log n))) ≡ false
      tr_off u e = rw e (and_off (is_by node (record_at log n)) (eqb (record_at log n).a range) (not (is_restated node (hist log n))))
  recorded_step n true false a m false eb ek ea em ez i =
      rw (at_miss tr log n (tr_off ek), at_miss tf log n (rw (eb, ez))) i
    where
      and_off : (u v w : Bool) → u && v && (false && w) ≡ false
      and_off true true w = refl
      and_off true false w = refl
      and_off false v w = refl

      tr_off : is_kind 2 (record_at log n) ≡ false
          → is_by node (record_at log n) && eqb (record_at log n).a range && (is_kind 2 (record_at log n) && not (is_restated node (hist log n))) ≡ false
      tr_off e = rw e (and_off (is_by node (record_at log n)) (eqb (record_at log n).a range) (not (is_restated node (hist log n))))
  recorded_step n false k a m z eb ek ea em ez i = rw (at_miss tr log n (rw eb), at_miss tf log n (rw eb)) i

  pub recorded_is : (n : ℕ) → recorded node range (hist log n) ≡ recorded_as n
  unfolding recorded latest
  recorded_is zero = rw (hist_none, number_none tr, number_none tf)
  recorded_is (suc n) =
      let x = record_at log n in
      ap (λ (h : History). lasting (latest (tells_recorded node range) h)) (hist_suc log n)
      ∙ recorded_step n (is_by node x) (is_kind 2 x) (eqb x.a range) (not (is_restated node (hist log n))) (is_kind 10 x) refl refl refl refl refl
      (recorded_is n)

-- ---- as of the registering

reach_cases : (b : Bool) (i c : ℕ) → holds (λ (k : ℕ). leb i k) (cond b (Some c) None) ≡ b && leb i c
reach_cases true i c = refl
reach_cases false i c = refl

pub reached_is : (log : List ℕ) (n node : ℕ) (s : Registered) → reaches node s (hist log n) ≡ reached log n node s.parent s.index
unfolding reached
reached_is log n node s =
    ap (holds (λ (k : ℕ). leb s.index k)) (recorded_is node s.parent log n)
    ∙ reach_cases (ltb (refused_number node (hist log n)) (latest_number (asks Recording node s.parent) (hist log n))) s.index
    (record_at log (latest_number (asks Recording node s.parent) (hist log n) - 1)).c

-- a RangeSplit since the latest refusal
module _ (node parent index : ℕ) (log : List ℕ) where
  abbrev tt' : TraceRecord → History → Bool
  tt' = asks (Traced index) node parent

  abbrev tg : TraceRecord → History → Bool
  tg = λ x _. refuses node x

  traced_step : (n : ℕ) (b a k z : Bool) → is_by node (record_at log n) ≡ b → eqb (record_at log n).a parent ≡ a
      → is_kind 7 (record_at log n) && eqb (record_at log n).b index ≡ k
      → is_kind 10 (record_at log n) ≡ z
      → holds (λ (t : Bool). t) (latest (tells_traced node parent index) (hist log n)) ≡ ltb (refused_number node (hist log n)) (latest_number tt' (hist log n))
      → holds (λ (t : Bool). t) (or_else (cond (b && a && k) (Some true) (when (b && z) false)) (latest (tells_traced node parent index) (hist log n)))
      ≡ ltb (refused_number node (hist log (suc n))) (latest_number tt' (hist log (suc n)))
  unfolding asks
  traced_step n true true true z eb ea ek ez i =
      let s : is_kind 7 (record_at log n) ≡ true = and_left (is_kind 7 (record_at log n)) _ ek in
      let q : passes_at tg log n ≡ false = rw (eb, kind_apart 7 10 (record_at log n) (λ q. omega arith) s) in
      let l : refused_number node (hist log n) < suc n = omega (arith, number_bound tg log n) in
      rw (at_hit tt' log n (rw (eb, ea, ek)), at_miss tg log n q, lt-ltb (refused_number node (hist log n)) (suc n) l)
  traced_step n true true false true eb ea ek ez i =
      let l : latest_number tt' (hist log n) ≤ suc n = omega (arith, number_bound tt' log n) in
      rw (at_miss tt' log n (rw (eb, ea, ek)), at_hit tg log n (rw (eb, ez)), le-ltb (suc n) (latest_number tt' (hist log n)) l)
  traced_step n true true false false eb ea ek ez i = rw (at_miss tt' log n (rw (eb, ea, ek)), at_miss tg log n (rw (eb, ez))) i
  traced_step n true false k true eb ea ek ez i =
      let l : latest_number tt' (hist log n) ≤ suc n = omega (arith, number_bound tt' log n) in
      rw (at_miss tt' log n (rw (eb, ea)), at_hit tg log n (rw (eb, ez)), le-ltb (suc n) (latest_number tt' (hist log n)) l)
  traced_step n true false k false eb ea ek ez i = rw (at_miss tt' log n (rw (eb, ea)), at_miss tg log n (rw (eb, ez))) i
  traced_step n false a k z eb ea ek ez i = rw (at_miss tt' log n (rw eb), at_miss tg log n (rw eb)) i

  traced_latest : (n : ℕ)
      → holds (λ (t : Bool). t) (latest (tells_traced node parent index) (hist log n)) ≡ ltb (refused_number node (hist log n)) (latest_number tt' (hist log n))
  unfolding latest
  traced_latest zero = rw (hist_none, number_none tt', number_none tg)
  traced_latest (suc n) =
      let x = record_at log n in
      ap (λ (h : History). holds (λ (t : Bool). t) (latest (tells_traced node parent index) h)) (hist_suc log n)
      ∙ traced_step n (is_by node x) (eqb x.a parent) (is_kind 7 x && eqb x.b index) (is_kind 10 x) refl refl refl refl (traced_latest n)

  pub traced_is : (n : ℕ) → is_registered parent index (hist log n) ≡ false → has_applied node parent index (hist log n) ≡ traced log n node parent index
  unfolding traced
  traced_is n e = applied_traced node parent index (hist log n) e ∙ traced_latest n

-- ---- owed by one split, where it registers

module _ (log : List ℕ) (t node : ℕ) (y : TraceRecord) (m : ℕ) where
  abbrev it : Registered
  it = split_with log y m

  or_swap : (a b : Bool) → a || b ≡ true → b || a ≡ true
  or_swap true true e = refl
  or_swap true false e = refl
  or_swap false b e = rw e

  own_parent : is_kind 2 y ≡ true → y.a ≡ parent_by y
  own_parent k = rw (kind_apart 2 1 y (λ q. omega arith) k)

  module _ (r : registers y (hist log t) ≡ Some it) where
    early_is : has_applied node (parent_by y) y.b (hist log t) || reaches node it (hist log t) ≡ traced log t node (parent_by y) y.b
        || reached log t node (parent_by y) y.b
    early_is = rw (traced_is node (parent_by y) y.b log t (registers_new y (hist log t) it r), reached_is log t node it)

    pub first_debt : owes_first log t node y ≡ true → is_some (debt_at node it.right y (hist log t)) ≡ true
    unfolding owes_first applied_first
    first_debt o =
        let a = and_left (applied_first log t node y) _ o in
        let v = and_right (applied_first log t node y) _ o in
        ⊎_elim
        (λ p. debt_registering node it.right y (hist log t) it refl r v
        (early_is ∙ or_swap (reached log t node (parent_by y) y.b) (traced log t node (parent_by y) y.b) p))
        (λ p.
        let q = and_left (is_by node y && is_kind 2 y && not (is_restated node (hist log t))) (leb y.b y.c) p in
        let w = and_left (is_by node y && is_kind 2 y) (not (is_restated node (hist log t))) q in
        debt_itself node it.right y (hist log t) it refl r v (and_left (is_by node y) _ w) (and_right (is_by node y) _ w)
        (and_right (is_by node y && is_kind 2 y) _ q)
        (own_parent (and_right (is_by node y) _ w)) (and_right (is_by node y && is_kind 2 y && not (is_restated node (hist log t))) _ p))
        (or_cases (reached log t node (parent_by y) y.b || traced log t node (parent_by y) y.b) (reaches_itself node y (is_restated node (hist log t))) a)

    pub first_early : is_voter node (hist log t) it ≡ true → has_applied node (parent_by y) y.b (hist log t) || reaches node it (hist log t) ≡ true
        → owes_first log t node y ≡ true
    unfolding owes_first applied_first
    first_early v e =
        both (or_left (reached log t node (parent_by y) y.b || traced log t node (parent_by y) y.b) _
        (or_swap (traced log t node (parent_by y) y.b) (reached log t node (parent_by y) y.b) (sym early_is ∙ e))) v

    first_itself : is_voter node (hist log t) it ≡ true → is_by node y ≡ true → is_kind 2 y ≡ true → not (is_restated node (hist log t)) ≡ true
        → leb y.b y.c ≡ true
        → owes_first log t node y ≡ true
    unfolding owes_first applied_first
    first_itself v b k n l =
        both (or_right (reached log t node (parent_by y) y.b || traced log t node (parent_by y) y.b) _ (both (both (both b k) n) l)) v

-- ---- owed by one split, after n records

module _ (log : List ℕ) (n node : ℕ) (s : Registered) (t : ℕ) (l : t < n) (r : registers (record_at log t) (hist log t) ≡ Some s) where
  abbrev y : TraceRecord
  y = record_at log t

  e : split_with log y (named_number y (hist log t)) ≡ s
  e = split_is log y t s r

  r' : registers y (hist log t) ≡ Some (split_with log y (named_number y (hist log t)))
  r' = r ∙ ap Some (sym e)

  -- a debt at a place above the latest cancel is owed
  debt_owes : (k : ℕ) → k < n → is_some (debt_at node s.right (record_at log k) (hist log k)) ≡ true → cancel_number node s.right (hist log n) ≤ k
      → is_some (owes node s.right (hist log n)) ≡ true
  debt_owes k m d c =
      let o = number_over (λ x g. is_some (debt_at node s.right x g)) log n k m d in
      owes_number node s.right log n ∙ lt-ltb (cancel_number node s.right (hist log n)) (debt_number node s.right (hist log n)) (omega (arith, o))

  abbrev coming : TraceRecord → History → Bool
  coming = comes node (parent_by y) y.b y.voters

  coming_is : coming ≡ comes node s.parent s.index s.voters
  coming_is = ap (λ (z : Registered). comes node z.parent z.index z.voters) e

  pub split_owes : {c : ℕ} → c ≡ cancel_number node s.right (hist log n) → owes_split log n node t c ≡ true
      → is_some (owes node s.right (hist log n)) ≡ true
  unfolding owes_split
  split_owes {c} ec o =
      ⊎_elim
      (λ p.
      let g : max c (suc t) < latest_number coming (hist log n) = ltb-true (max c (suc t)) (latest_number coming (hist log n)) p in
      let k = latest_number coming (hist log n) - 1 in
      let b = number_bound coming log n in
      let i : comes node s.parent s.index s.voters (record_at log k) (hist log k) ≡ true =
      ap (λ (z : TraceRecord → History → Bool). z (record_at log k) (hist log k)) (sym coming_is) ∙ number_is coming log n (omega arith) in
      debt_owes k (omega arith)
      (debt_own node s.right (record_at log k) (hist log k) s refl (place_registered log k t (omega arith) r) i) (omega (arith, ec)))
      (λ p.
      let c' : c ≤ t = leb-true c t (and_left (leb c t) _ p) in
      let d = first_debt log t node y (named_number y (hist log t)) r' (and_right (leb c t) _ p) in
      debt_owes t l (ap (λ (z : Registered). is_some (debt_at node z.right y (hist log t))) (sym e) ∙ d) (omega (arith, ec)))
      (or_cases (ltb (max c (suc t)) (latest_number coming (hist log n))) (leb c t && owes_first log t node y) o)

  pub coming_owes : (k c : ℕ) → t < k → k < n → c ≤ k → comes node s.parent s.index s.voters (record_at log k) (hist log k) ≡ true
      → owes_split log n node t c ≡ true
  unfolding owes_split
  coming_owes k c i m g h =
      let o = number_over coming log n k m (ap (λ (z : TraceRecord → History → Bool). z (record_at log k) (hist log k)) coming_is ∙ h) in
      or_left _ _ (lt-ltb (max c (suc t)) (latest_number coming (hist log n)) (omega (arith, o)))

  pub first_owes : (c : ℕ) → c ≤ t → owes_first log t node y ≡ true → owes_split log n node t c ≡ true
  unfolding owes_split
  first_owes c g h = or_right (ltb (max c (suc t)) (latest_number coming (hist log n))) _ (both (le-leb c t g) h)

-- ---- all that is owed is owed by some split

pub record SplitOwing (log : List ℕ) (n node right : ℕ) : Type 0 where
  pub split : Registered
  pub at : ℕ
  pub before : at < n
  pub is : registers (record_at log at) (hist log at) ≡ Some split
  pub its : split.right ≡ right
  pub owing : owes_split log n node at (cancel_number node right (hist log n)) ≡ true

module _ (log : List ℕ) (n node right : ℕ) where
  by_arisen : (k : ℕ) → k < n → cancel_number node right (hist log n) ≤ k → Arisen node right (record_at log k) (hist log k) → SplitOwing log n node right
  by_arisen k m c (own s its mem h) =
      let w = registered_place log k mem in
      record {
        split = s;
        at = w.at;
        before = omega (arith, w.before);
        is = w.is;
        its = its;
        owing = coming_owes log n node s w.at (omega (arith, w.before)) w.is k (cancel_number node right (hist log n)) w.before m c h;
      }
  by_arisen k m c (early s its r v h) =
      let e = split_is log (record_at log k) k s r in
      let r' = r ∙ ap Some (sym e) in
      let v' = ap (is_voter node (hist log k)) e ∙ v in
      let h' = ap (λ (z : Registered). has_applied node z.parent z.index (hist log k) || reaches node z (hist log k)) e ∙ h in
      record {
        split = s;
        at = k;
        before = m;
        is = r;
        its = its;
        owing = first_owes log n node s k m r (cancel_number node right (hist log n)) c
            (first_early log k node (record_at log k) (named_number (record_at log k) (hist log k)) r' v' h');
      }
  by_arisen k m c (itself s its r v b q u h) =
      let e = split_is log (record_at log k) k s r in
      let r' = r ∙ ap Some (sym e) in
      let v' = ap (is_voter node (hist log k)) e ∙ v in
      let h' = ap (λ (z : Registered). leb z.index (record_at log k).c) e ∙ h in
      record {
        split = s;
        at = k;
        before = m;
        is = r;
        its = its;
        owing = first_owes log n node s k m r (cancel_number node right (hist log n)) c
            (first_itself log k node (record_at log k) (named_number (record_at log k) (hist log k)) r' v' b q u h');
      }

  pub owes_split_lem : is_some (owes node right (hist log n)) ≡ true → SplitOwing log n node right
  owes_split_lem o =
      let td : TraceRecord → History → Bool = λ x g. is_some (debt_at node right x g) in
      let g : cancel_number node right (hist log n) < debt_number node right (hist log n) =
      ltb-true (cancel_number node right (hist log n)) (debt_number node right (hist log n)) (sym (owes_number node right log n) ∙ o) in
      let b = number_bound td log n in
      let k = debt_number node right (hist log n) - 1 in
      by_arisen k (omega arith) (omega arith) (arisen node right (record_at log k) (hist log k) (number_is td log n (omega arith)))
