-- While no ids fault arose, the greatest older first not above the new last decides whether any block shares an id with the new
-- one. It is what lets the Rust look at that block alone.
use mathlib.Core.Path.{◌≡◌, sym, ◌∙◌, subst}
use mathlib.Core.Bool.{Bool, true, false}
use mathlib.Core.Logic.{⊎_elim}
use Rattle.std.specs.Prelude.{Option, None, Some}
use Prim.Native.Nat.{◌≤◌}
use native.Mathlib.Omega.{arith}
use native.Mathlib.Decide.{dec_le}
use lib.Dec.{leb}
use borrow.Author.Tests.{leb-true, eqb-true, eq-eqb}
use Rattle.record.proofs.Booleans.{decide, never, and_left}
use Rattle.rules.specs.History.{History, holds, any_of, greatest_of}
use Rattle.rules.specs.IdsUnique.{Grant, same_index, shares, blocks_of, ids_at}
use Rattle.rules.specs.Reports.{Arises}
use Rattle.rules.proofs.Members.{Mem, any_of_some, any_of_none, none_any_of}
use Rattle.rules.proofs.Placed.{placed_mem, Answer}
use Rattle.rules.proofs.Best.{Greatest, greatest_of_right}
use Rattle.rules.proofs.Firsts.{apart_one}
use Rattle.rules.proofs.Grants.{shares_is, shares_by, block_told, blocks_apart, blocks_share_none}

module _ (h : History) (clear : Arises ids_at h → ⊥) (g : Grant) where
  -- of two blocks the one with the greater first shares an id with g, where the other does: else they would share one
  greater_shares : (o m : Grant) → Mem o (blocks_of h) → Mem m (blocks_of h) → m.first ≤ g.last → o.first ≤ m.first → shares g o ≡ true → shares g m ≡ true
  greater_shares o m i k l b e = ⊎_elim one two (decide (same_index o m))
    where
      one : same_index o m ≡ true → shares g m ≡ true
      one q =
          let s : o ≡ m = apart_one (blocks_apart h) i k q (eq-eqb m.index o.index (sym (eqb-true o.index m.index q))) in
          subst (λ (v : Grant). shares g v ≡ true) s e

      two : same_index o m ≡ false → shares g m ≡ true
      two q =
          let full : m.first ≤ m.last = leb-true m.first m.last (block_told h k).1 in
          elim (dec_le m.first o.last) [
            | yes a ↦ never (shares_by o m a (omega arith)) (blocks_share_none h clear o m i k q)
            | no a ↦ shares_by g m l (omega (arith, (shares_is g o e).1))
          ]

  abbrev below : Grant → Bool
  below o = leb o.first g.last

  by_greatest : (a : Option Grant) → Answer (Greatest (λ o. o.first) below (blocks_of h)) below (blocks_of h) a
      → any_of (shares g) (blocks_of h) ≡ holds (shares g) a
  by_greatest None w = none_any_of (shares g) (blocks_of h) (λ o m. rw (w o m))
  by_greatest (Some m) w =
      let k : Mem m (blocks_of h) = placed_mem w.place in
      let l : m.first ≤ g.last = leb-true m.first g.last w.place.passes in
      ⊎_elim
      (λ e.
      let s = any_of_some (shares g) (blocks_of h) e in
      let b = w.most s.it s.mem (and_left (below s.it) (leb g.first s.it.last) s.passes) in
      e ∙ sym (greater_shares s.it m s.mem k l b s.passes))
      (λ e. e ∙ sym (any_of_none (shares g) (blocks_of h) e m k))
      (decide (any_of (shares g) (blocks_of h)))

-- THE LAW: while no fault arose, a block shares an id with some older one exactly where it shares one with that of the
-- greatest first not above its last
pub greatest_first_decides : (h : History) → (Arises ids_at h → ⊥) → (g : Grant)
    → any_of (shares g) (blocks_of h) ≡ holds (shares g) (greatest_of (λ o. o.first) (λ o. leb o.first g.last) (blocks_of h))
greatest_first_decides h n g =
    by_greatest h n g (greatest_of (λ o. o.first) (λ o. leb o.first g.last) (blocks_of h))
    (greatest_of_right (λ o. o.first) (λ o. leb o.first g.last) (blocks_of h))
