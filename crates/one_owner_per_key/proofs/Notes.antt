-- Laws of noting a record: each store keeps to its own columns, and what the columns said they say with the record.
use mathlib.Core.Path.{◌≡◌, refl, sym, ap, ◌∙◌}
use mathlib.Core.Bool.{Bool, true, false}
use mathlib.Core.List.{List, [], ◌∷◌}
use mathlib.Core.Logic.{◌⊎◌, inl, inr}
use Rattle.std.specs.Prelude.{None, Some}
use Prim.Native.Nat.{ℕ, ◌+◌, ◌*◌, ◌≤◌, ◌<◌}
use native.Mathlib.Omega.{arith}
use lib.ListN.{length, get_or}
use Rattle.record.specs.declared.named.NodeId.{NodeId}
use Rattle.record.specs.Records.{TraceRecord}
use Rattle.rules.specs.History.{History}
use Rattle.history.specs.Buckets.{bucket_by, bucket_by_two}
use Rattle.history.specs.Columns.{Chained, Put, Entered}
use Rattle.history.proofs.Cells.{Zeros, column_clear, Same, same_then, column_agrees, column_put, column_none}
use Rattle.history.proofs.Chains.{chained_clear, chained_agrees, entered, not_entered}
use Rattle.one_owner_per_key.specs.Columns.{OwnersIndexed, OwnersNoted, EnteredIf, is_chained, by_hold, by_owner, newly_cell, ended_cell}
use Rattle.one_owner_per_key.proofs.Walks.{two_below}

-- ---- no record

-- what an opening leaves says that nothing is held
pub owners_clear : {cap : ℕ} {work : List ℕ} → Zeros work → OwnersIndexed cap [] work
owners_clear z = record {
  held = chained_clear z;
  nodes = chained_clear z;
  newly = column_clear newly_cell z;
  ended = column_clear ended_cell z;
}

-- ---- a record without a node

module _ (cap : ℕ) (h : History) (x : TraceRecord) (m : x.node ≡ None) where
  no_hold : by_hold cap x h ≡ None
  unfolding by_hold
  no_hold = rw m

  no_owner : by_owner cap x h ≡ None
  unfolding by_owner
  no_owner = rw m

  no_newly : newly_cell x h ≡ 0
  unfolding newly_cell
  no_newly = rw m

  no_ended : ended_cell x h ≡ 0
  unfolding ended_cell
  no_ended = rw m

  pub noted_unmarked : (work : List ℕ) → OwnersNoted cap h x work work
  noted_unmarked work = record {
    len = refl;
    below = λ j l. refl;
    above = λ j l. refl;
    indexed = λ ix. record {
      held = not_entered no_hold ix.held;
      nodes = not_entered no_owner ix.nodes;
      newly = column_none newly_cell h x no_newly ix.newly;
      ended = column_none ended_cell h x no_ended ix.ended;
    };
  }

-- ---- stores within bounds

-- only words from lo up to hi change
pub record Kept (lo hi : ℕ) (work work' : List ℕ) : Type 0 where
  pub len : length work' ≡ length work
  pub outside : (j : ℕ) → (j < lo) ⊎ (hi ≤ j) → get_or work' j 0 ≡ get_or work j 0

kept_put : {lo hi at v : ℕ} {work work' : List ℕ} → lo ≤ at → at < hi → Put work work' at v → Kept lo hi work work'
kept_put l m p = record {
  len = p.len;
  outside = λ j s. p.others j (λ e. elim s [ inl u ↦ omega arith | inr u ↦ omega arith ]);
}

kept_entered : {lo hi heads links n b : ℕ} {work work' : List ℕ} → lo ≤ heads → heads + b < links → links + n < hi
    → Entered work work' heads links n b → Kept lo hi work work'
kept_entered l m k p = record {
  len = p.len;
  outside = λ j s. p.others j (λ e. elim s [ inl u ↦ omega arith | inr u ↦ omega arith ]) (λ e. elim s [ inl u ↦ omega arith | inr u ↦ omega arith ]);
}

kept_refl : {lo hi : ℕ} {work work' : List ℕ} → work' ≡ work → Kept lo hi work work'
kept_refl {lo} {hi} {work} e = rw e (record { len = refl; outside = λ j s. refl })

kept_if : (t : Bool) (heads links n b : ℕ) {lo hi : ℕ} {work work' : List ℕ} → lo ≤ heads → heads + b < links → links + n < hi
    → EnteredIf t work work' heads links n b → Kept lo hi work work'
kept_if true heads links n b l m k p = kept_entered l m k p
kept_if false heads links n b l m k p = kept_refl p

same_below : {lo hi base cap : ℕ} {work work' : List ℕ} → base + cap ≤ lo → Kept lo hi work work' → Same base cap work work'
same_below l k = record { word = λ j m. k.outside _ (inl (omega arith)) }

same_above : {lo hi base cap : ℕ} {work work' : List ℕ} → hi ≤ base → Kept lo hi work work' → Same base cap work work'
same_above l k = record { word = λ j m. k.outside _ (inr (omega arith)) }

-- ---- a marked record

-- the share of a mixed number
module _ (cap : ℕ) (h : History) (x : TraceRecord) (n : NodeId) (m : x.node ≡ Some n) where
  hold_in : is_chained x ≡ true → by_hold cap x h ≡ Some (bucket_by_two cap n.0 x.a)
  unfolding by_hold
  hold_in e = rw (m, e)

  hold_out : is_chained x ≡ false → by_hold cap x h ≡ None
  unfolding by_hold
  hold_out e = rw (m, e)

  owner_in : by_owner cap x h ≡ Some (bucket_by cap n.0)
  unfolding by_owner
  owner_in = rw m

  hold_entered : (t : Bool) (count : ℕ) {work work' : List ℕ} → is_chained x ≡ t → length h ≡ count → count < cap
      → EnteredIf t work work' (16 * cap) (17 * cap) count (bucket_by_two cap n.0 x.a)
      → Chained (by_hold cap) (16 * cap) (17 * cap) cap h work → Chained (by_hold cap) (16 * cap) (17 * cap) cap (x ∷ h) work'
  hold_entered true count e len l p c = entered len l (two_below cap n.0 x.a (omega arith)) (omega arith) (hold_in e) p c
  hold_entered false count e len l p c = not_entered (hold_out e) (rw p c)

  pub noted_marked : {count b v w : ℕ} {work work₁ work₂ work₃ work' : List ℕ} → length h ≡ count → count < cap
      → EnteredIf (is_chained x) work work₁ (16 * cap) (17 * cap) count (bucket_by_two cap n.0 x.a)
      → (b ≡ bucket_by cap n.0) × (b < cap) → Entered work₁ work₂ (18 * cap) (19 * cap) count b
      → Put work₂ work₃ (20 * cap + count) v → Put work₃ work' (21 * cap + count) w
      → (OwnersIndexed cap h work → x.node ≡ Some n → (v ≡ newly_cell x h) × (w ≡ ended_cell x h))
      → OwnersNoted cap h x work work'
  noted_marked {count} {b} {v} {w} {work} {work₁} {work₂} {work₃} {work'} len l p0 bb p1 p2 p3 cells =
      let d = two_below cap n.0 x.a (omega arith) in
      let k0 : Kept (16 * cap) (18 * cap) work work₁ =
      kept_if (is_chained x) (16 * cap) (17 * cap) count (bucket_by_two cap n.0 x.a) (omega arith) (omega arith) (omega arith) p0 in
      let k1 : Kept (18 * cap) (20 * cap) work₁ work₂ = kept_entered (omega arith) (omega arith) (omega arith) p1 in
      let k2 : Kept (20 * cap) (21 * cap) work₂ work₃ = kept_put (omega arith) (omega arith) p2 in
      let k3 : Kept (21 * cap) (22 * cap) work₃ work' = kept_put (omega arith) (omega arith) p3 in
      record {
        len = k3.len ∙ k2.len ∙ k1.len ∙ k0.len;
        below =
            λ j u. k3.outside j (inl (omega arith)) ∙ k2.outside j (inl (omega arith)) ∙ k1.outside j (inl (omega arith))
            ∙ k0.outside j (inl (omega arith));
        above =
            λ j u. k3.outside j (inr (omega arith)) ∙ k2.outside j (inr (omega arith)) ∙ k1.outside j (inr (omega arith))
            ∙ k0.outside j (inr (omega arith));
        indexed = λ ix. record {
          held =
              chained_agrees
              (same_then (same_below (omega arith) k1) (same_then (same_below (omega arith) k2) (same_below (omega arith) k3)))
              (same_then (same_below (omega arith) k1) (same_then (same_below (omega arith) k2) (same_below (omega arith) k3)))
              (hold_entered (is_chained x) count refl len l p0 ix.held);
          nodes =
              chained_agrees
              (same_then (same_below (omega arith) k2) (same_below (omega arith) k3))
              (same_then (same_below (omega arith) k2) (same_below (omega arith) k3))
              (entered len l bb.1 (omega arith) (owner_in ∙ ap Some (sym bb.0)) p1
              (chained_agrees (same_above (omega arith) k0) (same_above (omega arith) k0) ix.nodes));
          newly =
              column_agrees (same_below (omega arith) k3)
              (column_put newly_cell h x (column_agrees (same_then (same_above (omega arith) k0) (same_above (omega arith) k1)) ix.newly) len refl
              (cells ix m).0 p2);
          ended =
              column_put ended_cell h x
              (column_agrees (same_then (same_above (omega arith) k0) (same_then (same_above (omega arith) k1) (same_above (omega arith) k2)))
              ix.ended) len refl
              (cells ix m).1 p3;
        };
      }
