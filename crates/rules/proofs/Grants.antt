-- When the ids check passes a history, said of pairs of its grants and without order; and then no id has two holders.
use mathlib.Core.Path.{◌≡◌, refl, sym, ap, ◌∙◌, subst}
use mathlib.Core.Bool.{Bool, true, false, cond, not, ◌&&◌}
use mathlib.Core.List.{List, [], ◌∷◌, map}
use mathlib.Core.Logic.{inl, inr, ⊎_elim, ◌↔◌}
use Rattle.std.specs.Prelude.{Option, None, Some}
use Prim.Native.Nat.{ℕ, ◌≤◌}
use native.Mathlib.Omega.{arith}
use native.Mathlib.Decide.{dec_le}
use lib.ListN.{length}
use lib.Dec.{eqb, leb}
use borrow.Author.Tests.{leb-true, le-leb, eqb-true, eqb-false, eq-eqb}
use Rattle.record.specs.Records.{TraceRecord}
use Rattle.rules.specs.History.{History, is_kind, when, add_some, any_of, those, told, latest_of, greatest_of}
use Rattle.rules.specs.Cases.{is_fault, fault, fault_if, case_of}
use Rattle.rules.specs.IdsUnique.{Grant, grant_by, tells_grant, same_index, first_grants, grant_eqb, nonempty, blocks_of, contains, shares, shared_fault, first_fault, grant_fault, ids_at, holders_of}
use Rattle.rules.specs.Reports.{Arises}
use Rattle.rules.specs.AnyOrder.{leased_of, grants_of, Agree, Unique, AtMostOneHolder}
use Rattle.record.proofs.Booleans.{decide, never, and_left, and_right, both}
use Rattle.rules.proofs.Members.{Mem, here, there, mem_nil, mem_cons, NonePasses, any_of_some, any_of_none, none_any_of, those_mem, mem_those}
use Rattle.rules.proofs.Placed.{placed_mem, Latest, Answer, latest_of_right}
use Rattle.rules.proofs.Best.{Greatest, greatest_of_right}
use Rattle.rules.proofs.Skips.{told_nil, told_hit, told_skip}
use Rattle.rules.proofs.Permutations.{perm_length}
use Rattle.rules.proofs.Firsts.{told_by, Apart, firsts_apart, those_apart, apart_few, told_covered, firsts_told}
use Rattle.rules.proofs.Once.{index_sameness}
use Rattle.rules.proofs.Blocks.{holders_from, holders_mem, holders_perm}

-- ---- the grants are what was told

picked : (x : TraceRecord) (h : History) (b : Bool) → grants_of h ≡ told tells_grant h
    → map grant_by (cond b (x ∷ leased_of h) (leased_of h)) ≡ add_some (when b (grant_by x)) (told tells_grant h)
picked x h true e = ap (λ (gs : List Grant). grant_by x ∷ gs) e
picked x h false e = e

pub grants_told : (h : History) → grants_of h ≡ told tells_grant h
unfolding those told
grants_told [] = refl
grants_told (x ∷ h) = picked x h (is_kind 11 x) (grants_told h)

-- ---- grants and pairs of them

-- a grant that is the same in node, run, first and last, at the same index
pub same_grant : (g o : Grant) → same_index g o ≡ true → grant_eqb g o ≡ true → g ≡ o
unfolding grant_eqb
same_grant g o i e =
    let n = eqb g.node o.node in
    let r = eqb g.run o.run in
    let f = eqb g.first o.first in
    let l = eqb g.last o.last in
    let nrf : n && r && f ≡ true = and_left (n && r && f) l e in
    let nr : n && r ≡ true = and_left (n && r) f nrf in
    let node = eqb-true g.node o.node (and_left n r nr) in
    let index = eqb-true g.index o.index i in
    let run = eqb-true g.run o.run (and_right n r nr) in
    let first = eqb-true g.first o.first (and_right (n && r) f nrf) in
    let last = eqb-true g.last o.last (and_right (n && r && f) l e) in
    λ k. record { node = node k; index = index k; run = run k; first = first k; last = last k }

pub grant_itself : (g : Grant) → grant_eqb g g ≡ true
unfolding grant_eqb
grant_itself g = both (both (both (itself g.node) (itself g.run)) (itself g.first)) (itself g.last)
  where
    itself : (n : ℕ) → eqb n n ≡ true
    itself n = eq-eqb n n refl

-- the tests of two grants and of an id, as facts
leb_both : (a b c d : ℕ) → leb a b && leb c d ≡ true → (a ≤ b) × (c ≤ d)
leb_both a b c d e = (leb-true a b (and_left (leb a b) (leb c d) e), leb-true c d (and_right (leb a b) (leb c d) e))

both_leb : (a b c d : ℕ) → a ≤ b → c ≤ d → leb a b && leb c d ≡ true
both_leb a b c d p q = both (le-leb a b p) (le-leb c d q)

module _ (g o : Grant) where
  pub shares_is : shares g o ≡ true → (o.first ≤ g.last) × (g.first ≤ o.last)
  shares_is e = leb_both o.first g.last g.first o.last e

  pub shares_by : o.first ≤ g.last → g.first ≤ o.last → shares g o ≡ true
  shares_by p q = both_leb o.first g.last g.first o.last p q

  -- two grants with an id in both share one; two nonempty ones that share one have an id in both
  pub both_share : (id : ℕ) → contains id g ≡ true → contains id o ≡ true → shares g o ≡ true
  both_share id p q =
      let a = leb_both g.first id id g.last p in
      let b = leb_both o.first id id o.last q in
      let below : g.first ≤ id = a.0 in
      let above : id ≤ o.last = b.1 in
      shares_by (omega (arith, a.1, b.0)) (omega arith)

  pub shared_id : nonempty g ≡ true → nonempty o ≡ true → shares g o ≡ true → (id : ℕ) × (contains id g ≡ true) × (contains id o ≡ true)
  shared_id m n e =
      let s = shares_is e in
      let full : g.first ≤ g.last = leb-true g.first g.last m in
      let last : o.first ≤ o.last = leb-true o.first o.last n in
      elim (dec_le g.first o.first) [
        | yes l ↦ (
          o.first,
          both_leb g.first o.first o.first g.last l s.0,
          both_leb o.first o.first o.first o.last (omega arith) last,
        )
        | no l ↦ (
          g.first,
          both_leb g.first g.first g.first g.last (omega arith) full,
          both_leb o.first g.first g.first o.last (omega arith) s.1,
        )
      ]

agree_itself : (g : Grant) → Agree g g
agree_itself g = record { one = λ e. refl; apart = λ n. absurd (n refl) }

agree_turned : {g o : Grant} → Agree g o → Agree o g
agree_turned a = record { one = λ e. sym (a.one (sym e)); apart = λ n id p q. a.apart (λ e. n (sym e)) id q p }

-- what holds of all pairs of a list holds of all pairs of one that has no other grants
pub unique_within : {gs os : List Grant} → ((g : Grant) → Mem g os → Mem g gs) → Unique gs → Unique os
unique_within f u = record { some = λ g m. u.some g (f g m); pairs = λ g o m n. u.pairs g o (f g m) (f o n) }

unique_none : Unique []
unique_none = record { some = λ g m. mem_nil m; pairs = λ g o m. mem_nil m }

-- one more, that has an id and agrees with each of the others
unique_more : (g : Grant) {gs : List Grant} → nonempty g ≡ true → ((o : Grant) → Mem o gs → Agree g o) → Unique gs → Unique (g ∷ gs)
unique_more g {gs} n a u = record {
  some = mem_cons n u.some;
  pairs = λ v w i j. mem_cons {P = λ (v : Grant). Agree v w}
      (mem_cons {P = λ (w : Grant). Agree g w} (agree_itself g) a w j)
      (λ y m. mem_cons {P = λ (w : Grant). Agree y w} (agree_turned (a y m)) (λ z k. u.pairs y z m k) w j)
      v i;
}

-- ---- one more record

module _ (x : TraceRecord) (h : History) where
  no_grant : tells_grant x h ≡ None → ids_at x h ≡ None
  unfolding ids_at
  no_grant e = rw e

  by_grant : (g : Grant) → tells_grant x h ≡ Some g → ids_at x h ≡ grant_fault g (latest_of (same_index g) (first_grants h)) (blocks_of h)
  unfolding ids_at
  by_grant g e = rw e

-- the first grants and the blocks are grants that were told
module _ (h : History) where
  pub first_told : {g : Grant} → Mem g (first_grants h) → Mem g (told tells_grant h)
  unfolding first_grants
  first_told m = firsts_told same_index tells_grant h m

  pub block_told : {g : Grant} → Mem g (blocks_of h) → Mem g (first_grants h) × (nonempty g ≡ true)
  unfolding blocks_of
  block_told m = those_mem nonempty (first_grants h) m

  pub told_block : {g : Grant} → Mem g (first_grants h) → nonempty g ≡ true → Mem g (blocks_of h)
  unfolding blocks_of
  told_block m e = mem_those nonempty m e

  -- each has a first grant at its index
  pub first_at : {g : Grant} → Mem g (told tells_grant h) → (f : Grant) × Mem f (first_grants h) × (g.index ≡ f.index)
  unfolding first_grants
  first_at {g} m =
      let p = told_covered same_index tells_grant index_sameness (told_by tells_grant h m) in
      (p.it, p.mem, eqb-true g.index p.it.index p.passes)

  -- where all pairs agree, it is that first grant, and so a block
  pub told_first : Unique (told tells_grant h) → {g : Grant} → Mem g (told tells_grant h) → Mem g (blocks_of h)
  told_first u {g} m =
      let f = first_at m in
      let e : g ≡ f.0 = (u.pairs g f.0 m (first_told f.1)).one f.2 in
      told_block (subst (λ (o : Grant). Mem o (first_grants h)) (sym e) f.1) (u.some g m)

  module _ (g : Grant) where
    abbrev below : Grant → Bool
    below o = leb o.first g.last

    -- a block that shares an id is found, so that there is a fault
    shared_fault_lem : any_of (shares g) (blocks_of h) ≡ true → is_fault (shared_fault g (blocks_of h)) ≡ true
    shared_fault_lem e = found (greatest_of (λ o. o.first) below (blocks_of h)) (greatest_of_right (λ o. o.first) below (blocks_of h))
      where
        found : (a : Option Grant) → Answer (Greatest (λ o. o.first) below (blocks_of h)) below (blocks_of h) a
            → is_fault (case_of (λ (o : Grant). fault 3 (g.index ∷ o.first ∷ [])) a) ≡ true
        found None w =
            let s = any_of_some (shares g) (blocks_of h) e in
            never (and_left (leb s.it.first g.last) (leb g.first s.it.last) s.passes) (w s.it s.mem)
        found (Some o) w = refl

    -- a first grant without a fault: it has an id, and no block shares one
    first_clear : is_fault (first_fault g (blocks_of h)) ≡ false → (nonempty g ≡ true) × (any_of (shares g) (blocks_of h) ≡ false)
    first_clear c = go (nonempty g) (any_of (shares g) (blocks_of h)) refl c
      where
        go : (n s : Bool) → any_of (shares g) (blocks_of h) ≡ s
            → is_fault (cond n (fault_if s (shared_fault g (blocks_of h))) (fault 2 (g.index ∷ []))) ≡ false → (n ≡ true) × (s ≡ false)
        go true true e d = never (shared_fault_lem e) d
        go true false e d = (refl, refl)
        go false s e d = never refl d

    clear_first : nonempty g ≡ true → any_of (shares g) (blocks_of h) ≡ false → is_fault (first_fault g (blocks_of h)) ≡ false
    clear_first n s = rw (n, s)

    -- a grant that comes without a fault agrees with all before it ..
    more_unique : (o : Option Grant) → Answer (Latest (same_index g) (first_grants h)) (same_index g) (first_grants h) o
        → is_fault (grant_fault g o (blocks_of h)) ≡ false → Unique (told tells_grant h) → Unique (g ∷ told tells_grant h)
    more_unique (Some o) w c u =
        let m : Mem o (told tells_grant h) = first_told (placed_mem w.place) in
        let e : g ≡ o = same_grant g o w.place.passes (again (grant_eqb g o) c) in
        unique_within (mem_cons {P = λ (y : Grant). Mem y (told tells_grant h)} (subst (λ (y : Grant). Mem y (told tells_grant h)) (sym e) m) (λ y n. n)) u
      where
        again : (b : Bool) → is_fault (fault_if (not b) (fault 1 (g.index ∷ []))) ≡ false → b ≡ true
        again true d = refl
        again false d = never refl d
    more_unique None w c u =
        let f = first_clear c in
        unique_more g f.0 (λ o m. record {
          one = λ e. let k = first_at m in never (eq-eqb g.index k.0.index (e ∙ k.2)) (w k.0 k.1);
          apart = λ n id p q. never (both_share g o id p q) (any_of_none (shares g) (blocks_of h) f.1 o (told_first u m));
        }) u

    -- .. and one that agrees with all before it comes without a fault
    more_clear : (o : Option Grant) → Answer (Latest (same_index g) (first_grants h)) (same_index g) (first_grants h) o
        → Unique (g ∷ told tells_grant h) → is_fault (grant_fault g o (blocks_of h)) ≡ false
    more_clear (Some o) w u =
        let m : Mem o (told tells_grant h) = first_told (placed_mem w.place) in
        let e : g ≡ o = (u.pairs g o here (there m)).one (eqb-true g.index o.index w.place.passes) in
        let s : grant_eqb g o ≡ true = subst (λ (y : Grant). grant_eqb g y ≡ true) e (grant_itself g) in
        ap (λ (b : Bool). is_fault (fault_if (not b) (fault 1 (g.index ∷ [])))) s
    more_clear None w u =
        clear_first (u.some g here) (none_any_of (shares g) (blocks_of h) (λ o m.
        let b = block_told m in
        ⊎_elim
        (λ s.
        let t = shared_id g o (u.some g here) b.1 s in
        absurd ((u.pairs g o here (there (first_told b.0))).apart (eqb-false g.index o.index (w o b.0)) t.0 t.1 t.2))
        (λ s. s)
        (decide (shares g o))))

-- ---- a history

module _ (x : TraceRecord) (h : History) where
  unique_step : (o : Option Grant) → tells_grant x h ≡ o → is_fault (ids_at x h) ≡ false → Unique (told tells_grant h) → Unique (told tells_grant (x ∷ h))
  unique_step None e c u = rw (told_skip tells_grant x h e) u
  unique_step (Some g) e c u =
      rw (told_hit tells_grant x h g e)
      (more_unique h g (latest_of (same_index g) (first_grants h)) (latest_of_right (same_index g) (first_grants h))
      (ap is_fault (sym (by_grant x h g e)) ∙ c) u)

  clear_step : (o : Option Grant) → tells_grant x h ≡ o → Unique (told tells_grant (x ∷ h)) → is_fault (ids_at x h) ≡ false
  clear_step None e u = ap is_fault (no_grant x h e)
  clear_step (Some g) e u =
      ap is_fault (by_grant x h g e)
      ∙ more_clear h g (latest_of (same_index g) (first_grants h)) (latest_of_right (same_index g) (first_grants h))
      (subst Unique (told_hit tells_grant x h g e) u)

  unique_before : (o : Option Grant) → tells_grant x h ≡ o → Unique (told tells_grant (x ∷ h)) → Unique (told tells_grant h)
  unique_before None e u = subst Unique (told_skip tells_grant x h e) u
  unique_before (Some g) e u = unique_within (λ y m. there m) (subst Unique (told_hit tells_grant x h g e) u)

told_clear : (h : History) → Unique (told tells_grant h) → Arises ids_at h → ⊥
unfolding Arises
told_clear [] u a = a
told_clear (x ∷ h) u a = ⊎_elim
    (λ c. never c (clear_step x h (tells_grant x h) refl u))
    (told_clear h (unique_before x h (tells_grant x h) refl u))
    a

clear_told : (h : History) → (Arises ids_at h → ⊥) → Unique (told tells_grant h)
unfolding Arises
clear_told [] n = rw (told_nil tells_grant) unique_none
clear_told (x ∷ h) n =
    unique_step x h (tells_grant x h) refl
    (⊎_elim (λ c. absurd (n (inl c))) (λ c. c) (decide (is_fault (ids_at x h))))
    (clear_told h (λ a. n (inr a)))

-- WHEN THE IDS CHECK HAS NO FAULT: exactly when every grant taken has an id, those of one index are one grant, and those of different
-- indexes share no id
pub clear_unique : (h : History) → (Arises ids_at h → ⊥) ↔ Unique (grants_of h)
clear_unique h = (
  λ n. subst Unique (sym (grants_told h)) (clear_told h n),
  λ u. told_clear h (subst Unique (grants_told h) u),
)

-- ---- blocks and holders

-- no two blocks have one index
pub blocks_apart : (h : History) → Apart same_index (blocks_of h)
unfolding blocks_of first_grants
blocks_apart h = those_apart nonempty (firsts_apart same_index tells_grant h)

-- while no fault arose, blocks of different indexes share no id
pub blocks_share_none : (h : History) → (Arises ids_at h → ⊥) → (g o : Grant) → Mem g (blocks_of h) → Mem o (blocks_of h) → same_index g o ≡ false
    → shares g o ≡ false
blocks_share_none h n g o m k d =
    let b = block_told h m in
    let c = block_told h k in
    let a = (clear_told h n).pairs g o (first_told h b.0) (first_told h c.0) in
    ⊎_elim
    (λ s. let t = shared_id g o b.1 c.1 s in absurd (a.apart (eqb-false g.index o.index d) t.0 t.1 t.2))
    (λ s. s)
    (decide (shares g o))

-- what has no member, and what has one and no second
empty_of : {xs : List Grant} → ((g : Grant) → Mem g xs → ⊥) → xs ≡ []
empty_of {xs = []} f = refl
empty_of {xs = x ∷ xs} f = absurd (f x here)

single_of : {g : Grant} {xs : List Grant} → length xs ≤ 1 → Mem g xs → xs ≡ g ∷ []
single_of {g = g} {xs = []} l m = elim m [ ]
single_of {xs = x ∷ []} l here = refl
single_of {xs = x ∷ []} l (there m) = mem_nil m
single_of {xs = x ∷ y ∷ ys} l m = absurd (omega arith)

module _ (h : History) (u : Unique (grants_of h)) where
  told_unique : Unique (told tells_grant h)
  told_unique = subst Unique (grants_told h) u

  -- two blocks that contain an id have one index
  one_index : (id : ℕ) (g o : Grant) → Mem g (those (contains id) (blocks_of h)) → Mem o (those (contains id) (blocks_of h)) → same_index g o ≡ true
  one_index id g o m n =
      let v = those_mem (contains id) (blocks_of h) m in
      let w = those_mem (contains id) (blocks_of h) n in
      let a = told_unique.pairs g o (first_told h (block_told h v.0).0) (first_told h (block_told h w.0).0) in
      ⊎_elim (λ e. e) (λ e. absurd (a.apart (eqb-false g.index o.index e) id v.1 w.1)) (decide (same_index g o))

  -- so there is one at most
  pub one_holder : AtMostOneHolder h
  one_holder id =
      let few : length (those (contains id) (blocks_of h)) ≤ 1 = apart_few (those_apart (contains id) (blocks_apart h)) (one_index id) in
      let many : length (holders_of id h) ≡ length (those (contains id) (blocks_of h)) = perm_length (holders_perm id h) in
      omega arith

  -- .. and it is the grant that contains the id, a first one or repeated
  pub holder_is : (id : ℕ) (g : Grant) → Mem g (grants_of h) → contains id g ≡ true → holders_of id h ≡ g ∷ []
  holder_is id g m c =
      let t : Mem g (told tells_grant h) = subst (λ (gs : List Grant). Mem g gs) (grants_told h) m in
      single_of (one_holder id) (holders_mem id h g (told_first h told_unique t) c)

-- an id that no grant contains has no holder
pub holder_none : (h : History) (id : ℕ) → NonePasses (contains id) (grants_of h) → holders_of id h ≡ []
holder_none h id n = empty_of (λ g m.
    let w = holders_from id h g m in
    let t : Mem g (told tells_grant h) = first_told h (block_told h w.0).0 in
    never w.1 (n g (subst (λ (gs : List Grant). Mem g gs) (sym (grants_told h)) t)))
