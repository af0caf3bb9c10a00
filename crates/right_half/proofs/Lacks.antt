-- Laws of the nodes that a registering finds lacking: whether a right range is owed at all, and with the registering; what was held
-- at the latest RangesRestated.
use mathlib.Core.Path.{◌≡◌, refl, sym, ap, ◌∙◌}
use mathlib.Core.Bool.{Bool, true, false, cond, not, ◌&&◌, ◌||◌, and-true, and-false}
use mathlib.Core.List.{List, ◌∷◌}
use mathlib.Core.Logic.{inl, inr}
use Rattle.std.proofs.lemmas.Option.{same_Some}
use Rattle.std.specs.Prelude.{Option, None, Some}
use Prim.Native.Nat.{ℕ, zero, suc, ◌-◌, ◌≤◌, ◌<◌, ◌*◌}
use native.Mathlib.Omega.{arith}
use lib.Dec.{eqb, leb, ltb}
use borrow.Author.Tests.{eqb-false, ne_eqb, lt-ltb, le-ltb, not-true}
use Rattle.record.specs.Records.{TraceRecord, decode}
use Rattle.rules.specs.History.{History, is_kind, is_by, when, or_else, is_some, holds, any_of, latest}
use Rattle.rules.specs.OneOwnerPerKey.{has_hold}
use Rattle.rules.specs.RightHalf.{Registered, registers, reaches, has_applied, is_voter, is_restated, cancels, debt_at, owes, tells_restated_with, restated_with, lacks}
use Rattle.record.proofs.Booleans.{never, and_left, and_right, or_elim, or_right, decide}
use Rattle.rules.proofs.Marks.{kind_apart}
use Rattle.rules.proofs.Registering.{registers_kind}
use Rattle.rules.proofs.Debts.{owes_arises, owes_kept}
use Rattle.history.specs.declared.past.Past.{Past}
use Rattle.history.specs.Logs.{record_at, hist}
use Rattle.history.specs.Pasts.{taken, Indexed, IsTaken}
use Rattle.history.proofs.Logs.{hist_none, hist_length, hist_suc}
use Rattle.one_owner_per_key.proofs.Latest.{number_bound, at_hit, at_miss}
use Rattle.splits.specs.Numbers.{restated_number, refuses, refused_number, latest_registering}
use Rattle.debts.specs.Walk.{cancel_number, applying, comes, owes_split}
use Rattle.splits.proofs.States.{mark_is, server_is, restated_step, restated_none, restated_bound, restated_mark}
use Rattle.debts.proofs.Arising.{Arisen, own, early, itself, arisen}
use Rattle.rules.proofs.Arising.{debt_registering}
use Rattle.debts.proofs.Owing.{split_owes, owes_split_lem}
use Rattle.splits.specs.declared.split.Split.{Split}
use Rattle.splits.specs.Columns.{Known, server_in}
use Rattle.history.specs.Columns.{number_in}
use Rattle.history.specs.declared.walk.Taken.{Taken}
use Rattle.record.specs.declared.named.ServerId.{ServerId}
use Rattle.one_owner_per_key.specs.Numbers.{latest_by}
use Rattle.splits.specs.Walk.{split_of, IsSplit}
use Rattle.splits.proofs.Finding.{Passed, passed_first, passed_next}

-- ---- a walk over the registered splits for one by which a right range is owed: none that it passed is

abbrev pub Unowed : List ℕ → ℕ → ℕ → ℕ → ℕ → Type 0
Unowed log n node right i =
    Passed (λ t s. s.right ≡ right → owes_split log n node t (cancel_number node right (hist log n)) ≡ false) log n i

module _ (log : List ℕ) (n node right : ℕ) where
  pub owed_first : {i : ℕ} → i ≡ latest_registering (hist log n) → Unowed log n node right i
  owed_first = passed_first (λ t s. s.right ≡ right → owes_split log n node t (cancel_number node right (hist log n)) ≡ false) log n

  pub owed_end : {i : ℕ} → i ≡ 0 → Unowed log n node right i → false ≡ is_some (owes node right (hist log n))
  owed_end {i} z w =
      elim (decide (is_some (owes node right (hist log n)))) [
        | inl e ↦ let o = owes_split_lem log n node right e in never o.owing (w o.at o.split (omega arith) o.before o.is o.its)
        | inr e ↦ sym e
      ]

module _ (p : Past) (node right : ℕ) (ix : Indexed Known p) {x : Split} (z : IsSplit p x) where
  pub owed_here : {c : ℕ} → x.right ≡ right → c ≡ cancel_number node right (taken p) → owes_split p.log.now p.count node (x.number - 1) c ≡ true
      → true ≡ is_some (owes node right (taken p))
  owed_here e ec h =
      sym (ap (λ (k : ℕ). is_some (owes node k (taken p))) (sym e)
      ∙ split_owes p.log.now p.count node (split_of x) (x.number - 1) (omega (arith, z.some, z.within)) (z.is ix)
      (ec ∙ ap (λ (k : ℕ). cancel_number node k (taken p)) (sym e)) h)

  -- a split of another right range, or one by which it is not owed
  pub owed_next : {i j : ℕ} → x.number ≡ i → Unowed p.log.now p.count node right i
      → (x.right ≡ right → owes_split p.log.now p.count node (x.number - 1) (cancel_number node right (taken p)) ≡ false)
      → j ≡ latest_registering (hist p.log.now (i - 1)) → Unowed p.log.now p.count node right j
  owed_next k w not_here e = passed_next p z ix k w (λ t s d. d) not_here e

-- ---- what was held at the latest RangesRestated

module _ (node range : ℕ) (log : List ℕ) where
  abbrev tf : TraceRecord → History → Bool
  tf = λ x _. refuses node x

  abbrev held_as : ℕ → Bool
  held_as n = cond (ltb (refused_number node (hist log n)) (restated_number node (hist log n)))
      (has_hold node range (hist log (restated_number node (hist log n) - 1))) false

  -- the step, where the node stays restated
  with_step : (n : ℕ) (b u v z : Bool) → is_by node (record_at log n) ≡ b → is_kind 5 (record_at log n) ≡ u → is_kind 6 (record_at log n) ≡ v
      → is_kind 10 (record_at log n) ≡ z
      → (0 < restated_number node (hist log n) → restated_with node range (hist log n) ≡ held_as n)
      → 0 < cond b (cond u (suc n) (cond v 0 (restated_number node (hist log n)))) (restated_number node (hist log n))
      → holds (λ (t : Bool). t) (or_else (when (b && (u || z)) (u && has_hold node range (hist log n))) (latest (tells_restated_with node range) (hist log n)))
      ≡ cond (ltb (refused_number node (hist log (suc n)))
      (cond b (cond u (suc n) (cond v 0 (restated_number node (hist log n)))) (restated_number node (hist log n))))
      (has_hold node range (hist log (cond b (cond u (suc n) (cond v 0 (restated_number node (hist log n)))) (restated_number node (hist log n)) - 1))) false
  unfolding restated_with
  with_step n true true v z eb eu ev ez i l =
      let q : refused_number node (hist log (suc n)) ≡ refused_number node (hist log n) =
      at_miss tf log n (rw (eb, kind_apart 5 10 (record_at log n) (λ q. omega arith) eu)) in
      let m : refused_number node (hist log n) < suc n = omega (arith, number_bound tf log n) in
      let s : suc n - 1 ≡ n = omega arith in
      rw (q, lt-ltb (refused_number node (hist log n)) (suc n) m, s)
  with_step n true false true z eb eu ev ez i l = absurd (omega arith)
  with_step n true false false true eb eu ev ez i l =
      let q : refused_number node (hist log (suc n)) ≡ suc n = at_hit tf log n (rw (eb, ez)) in
      rw (q, le-ltb (suc n) (restated_number node (hist log n)) (omega (arith, restated_bound node log n)))
  with_step n true false false false eb eu ev ez i l = rw (at_miss tf log n (rw (eb, ez))) (i l)
  with_step n false u v z eb eu ev ez i l = rw (at_miss tf log n (rw eb)) (i l)

  pub restated_with_lem : (n : ℕ) → 0 < restated_number node (hist log n) → restated_with node range (hist log n) ≡ held_as n
  unfolding restated_with latest
  restated_with_lem zero l = let e : restated_number node (hist log 0) ≡ 0 = rw hist_none (restated_none node) in absurd (omega arith)
  restated_with_lem (suc n) l =
      let x = record_at log n in
      let e : restated_number node (hist log (suc n)) ≡ cond (is_by node x)
      (cond (is_kind 5 x) (suc n) (cond (is_kind 6 x) 0 (restated_number node (hist log n)))) (restated_number node (hist log n)) =
      ap (restated_number node) (hist_suc log n) ∙ restated_step node x (hist log n) ∙ rw hist_length in
      ap (λ (h : History). holds (λ (t : Bool). t) (latest (tells_restated_with node range) h)) (hist_suc log n)
      ∙ with_step n (is_by node x) (is_kind 5 x) (is_kind 6 x) (is_kind 10 x) refl refl refl refl (restated_with_lem n) (rw e at l)
      ∙ ap (λ (k : ℕ). cond (ltb (refused_number node (hist log (suc n))) k) (has_hold node range (hist log (k - 1))) false) (sym e)

-- what the code makes of the two numbers
module _ (node range : ℕ) (log : List ℕ) (n : ℕ) {k f : ℕ} (ek : k ≡ restated_number node (hist log n)) (ef : f ≡ refused_number node (hist log n))
    (is : is_restated node (hist log n) ≡ true) where
  known : 0 < restated_number node (hist log n)
  known =
      let z : restated_number node (hist log n) ≡ 0 → ⊥ =
      eqb-false (restated_number node (hist log n)) 0 (not-true _ (sym (restated_mark node (hist log n)) ∙ is)) in omega arith

  pub with_dropped : k ≤ f → false ≡ restated_with node range (hist log n)
  with_dropped l = sym (restated_with_lem node range log n known
      ∙ rw (le-ltb (refused_number node (hist log n)) (restated_number node (hist log n)) (omega arith)))

  pub with_held : {b : Bool} → f < k → has_hold node range (hist log (k - 1)) ≡ b → b ≡ restated_with node range (hist log n)
  with_held {b} l e =
      sym (restated_with_lem node range log n known
      ∙ rw (lt-ltb (refused_number node (hist log n)) (restated_number node (hist log n)) (omega arith), ← ek) e)

-- ---- what is owed with the registering

module _ (x : TraceRecord) (h : History) (node : ℕ) (s : Registered) (r : registers x h ≡ Some s) where
  other_kind : (k : ℕ) → (1 ≡ k → ⊥) → (2 ≡ k → ⊥) → is_kind k x ≡ false
  other_kind k p q = or_elim (is_kind 1 x) (is_kind 2 x) (registers_kind x h r) (kind_apart 1 k x p) (kind_apart 2 k x q)

  goes_on : cancels node s.right x ≡ false
  goes_on = rw (other_kind 9 (λ q. omega arith) (λ q. omega arith), other_kind 10 (λ q. omega arith) (λ q. omega arith)) (and-false (is_by node x))

  module _ (is : is_restated node h ≡ true) (reach : reaches node s h ≡ true) where
    not_applying : (index : ℕ) → applying index x (is_restated node h) ≡ false
    not_applying index =
        rw (other_kind 7 (λ q. omega arith) (λ q. omega arith), other_kind 3 (λ q. omega arith) (λ q. omega arith), is) (off (is_kind 2 x))
      where
        off : (b : Bool) → b && false && leb index x.c ≡ false
        off true = refl
        off false = refl

    not_coming : (u : Registered) → comes node u.parent u.index u.voters x h ≡ true → ⊥
    unfolding comes
    not_coming u e =
        let w = and_right (is_by node x && eqb x.a u.parent) (applying u.index x (is_restated node h))
        (and_left (is_by node x && eqb x.a u.parent && applying u.index x (is_restated node h)) _ e) in
        never w (not_applying u.index)

    only_voter : Arisen node s.right x h → is_voter node h s ≡ true
    only_voter (own u its m e) = absurd (not_coming u e)
    only_voter (early u its g v e) = ap (is_voter node h) (same_Some _ _ (sym r ∙ g)) ∙ v
    only_voter (itself u its g v b k m l) = never m (ap not is)

    by_debt : (v : Bool) (o : Option Registered) → is_voter node h s ≡ v → debt_at node s.right x h ≡ o
        → is_some (owes node s.right (x ∷ h)) ≡ v || is_some (owes node s.right h)
    by_debt true None e d =
        let q = debt_registering node s.right x h s refl r e (or_right (has_applied node s.parent s.index h) _ reach) in
        never q (ap is_some d)
    by_debt true (Some t) e d = ap is_some (owes_arises node s.right x h t goes_on d)
    by_debt false None e d = ap is_some (owes_kept node s.right x h goes_on d)
    by_debt false (Some t) e d = never (only_voter (arisen node s.right x h (ap is_some d))) e

    -- this registering makes it owed where the server is a voter; else what was owed before
    pub owes_registering : is_some (owes node s.right (x ∷ h)) ≡ is_voter node h s || is_some (owes node s.right h)
    owes_registering = by_debt (is_voter node h s) (debt_at node s.right x h) refl refl

    -- ---- the test, by what the code finds

    pub lacks_held : restated_with node s.right h ≡ true → false ≡ lacks s x h node
    lacks_held e = rw (is, reach, e) (sym (and-false (is_some (owes node s.right (x ∷ h)))))

    pub lacks_owing : {b : Bool} → restated_with node s.right h ≡ false → b ≡ is_voter node h s || is_some (owes node s.right h) → b ≡ lacks s x h node
    lacks_owing e f = f ∙ sym owes_registering ∙ rw (is, reach, e) (sym (and-true (is_some (owes node s.right (x ∷ h)))))

  pub lacks_unrestated : is_restated node h ≡ false → false ≡ lacks s x h node
  lacks_unrestated e = rw e

  pub lacks_unreached : is_restated node h ≡ true → reaches node s h ≡ false → false ≡ lacks s x h node
  lacks_unreached e f = rw (e, f)

-- ---- what the code reads of a node at its latest record

module _ (p : Past) (node : ℕ) {last : ℕ} (upto : p.count ≤ p.count) (e : last ≡ latest_by node (taken p)) (ix : Indexed Known p) where
  -- where its latest RangesRestated is found, it is restated
  pub known_restated : {y : Taken} → IsTaken p y → y.number ≡ number_in (23 * p.cap) p.work.now last → is_restated node (taken p) ≡ true
  known_restated {y} t q =
      sym (mark_is p.log.now node p.within upto e ix.1.restated q) ∙ ap not (ne_eqb y.number 0 (λ z. omega (arith, t.some, z)))

  -- a voter of the record is one of the split that it registers
  pub voter_of : (s : Split) {k : ServerId} {v : Bool} → k.0 ≡ server_in p.work.now p.cap last node → v ≡ any_of (λ u. eqb u k.0) (decode s.record.now).voters
      → is_voter node (taken p) (split_of s) ≡ v
  voter_of s {k} f g = sym (g ∙ ap (λ (j : ℕ). any_of (λ u. eqb u j) (decode s.record.now).voters) (server_is p.log.now node ix.1.servers p.within upto e f))
