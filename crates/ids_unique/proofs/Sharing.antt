-- Laws of sharing: what a walk finds of a new block is what the rules ask of all blocks, and none shares an id with a
-- block above the greatest last.
use mathlib.Core.Path.{◌≡◌, refl, sym, ap, ◌∙◌}
use mathlib.Core.Bool.{Bool, true, false, cond, ◌&&◌, ◌||◌, or-false, or_assoc}
use mathlib.Core.List.{List, [], ◌∷◌}
use Prim.Native.Nat.{ℕ, ◌<◌, max}
use native.Mathlib.Omega.{arith}
use lib.Dec.{leb}
use borrow.Author.Tests.{ltb-true, ltb-false, lt-leb}
use Rattle.std.specs.Prelude.{Option, None, Some, ltb}
use Rattle.std.specs.List.{fold}
use Rattle.record.proofs.Booleans.{never}
use Rattle.rules.specs.History.{given, any_of, greater, greatest_of}
use Rattle.rules.specs.Cases.{fault, fault_if, case_of}
use Rattle.rules.specs.IdsUnique.{Grant, grant_by, shares, blocks_of, shared_fault}
use Rattle.history.specs.Logs.{record_at, hist}
use Rattle.ids_unique.specs.declared.block.Shared.{Shared}
use Rattle.ids_unique.specs.Columns.{greatest_of_lasts}
use Rattle.ids_unique.specs.Sharing.{shares_with, weigh, weigh_all, shared_top}
use Rattle.ids_unique.proofs.Walks.{Numbered, numbered, blocks_ind}

-- the greatest first that is not above an id, 0 where there is none
unfoldable top_of : ℕ → List Grant → ℕ
top_of last [] = 0
top_of last (o ∷ os) = cond (leb o.first last) (max o.first (top_of last os)) (top_of last os)

module _ (first last : ℕ) where
  abbrev pub weigh_numbered : Shared → Numbered → Shared
  weigh_numbered s b = weigh first last s b.1

  -- WHAT A WALK FINDS is all blocks weighed
  weigh_walk : (log : List ℕ) (n : ℕ) (s : Shared) → fold weigh_numbered s (numbered (hist log n)) ≡ weigh_all first last s (blocks_of (hist log n))
  unfolding weigh_all
  weigh_walk log =
      blocks_ind log (λ n bs gs. (s : Shared) → fold weigh_numbered s bs ≡ weigh_all first last s gs)
      (λ s. refl)
      (λ n bs gs k s. k (weigh first last s (grant_by (record_at log n))))
      (λ n bs gs k. k)

  pub weighed_all : (log : List ℕ) (n : ℕ) {s : Shared} → s ≡ fold weigh_numbered (record { any = false; top = 0 }) (numbered (hist log n))
      → s ≡ weigh_all first last (record { any = false; top = 0 }) (blocks_of (hist log n))
  weighed_all log n e = e ∙ weigh_walk log n (record { any = false; top = 0 })

  -- and that is what is asked of all blocks
  weigh_any : (bs : List Grant) (s : Shared) → (weigh_all first last s bs).any ≡ s.any || any_of (shares_with first last) bs
  unfolding weigh_all any_of
  weigh_any [] s = sym (or-false s.any)
  weigh_any (o ∷ os) s = weigh_any os (weigh first last s o) ∙ or_assoc s.any (shares_with first last o) (any_of (shares_with first last) os)

  top_step : (from top rest : ℕ) (t u : Bool) → leb from last ≡ t → ltb top from ≡ u
      → max (cond (t && u) from top) rest ≡ max top (cond t (max from rest) rest)
  top_step from top rest true true e d = omega (arith, ltb-true top from d)
  top_step from top rest true false e d = omega (arith, ltb-false top from d)
  top_step from top rest false u e d = refl

  weigh_top : (bs : List Grant) (s : Shared) → (weigh_all first last s bs).top ≡ max s.top (top_of last bs)
  unfolding weigh_all top_of
  weigh_top [] s = omega arith
  weigh_top (o ∷ os) s =
      weigh_top os (weigh first last s o)
      ∙ top_step o.first s.top (top_of last os) (leb o.first last) (ltb s.top o.first) refl refl

  -- the greatest first not above the new last, where some block has one
  abbrev best : List Grant → Option Grant
  best bs = greatest_of (λ o. o.first) (λ o. leb o.first last) bs

  -- its first is that of the walk; where there is none no block shares an id
  abbrev Known : List Grant → Option Grant → Type 0
  Known bs None = (top_of last bs ≡ 0) × (any_of (shares_with first last) bs ≡ false)
  Known bs (Some m) = m.first ≡ top_of last bs

  known_more : (o : Grant) (os : List Grant) (t : Bool) (b : Option Grant) → leb o.first last ≡ t → Known os b
      → Known (o ∷ os) (cond t (greater (λ v. v.first) o b) b)
  unfolding top_of any_of
  known_more o os true None e k = rw e (omega arith)
  known_more o os true (Some m) e k = go (ltb m.first o.first) refl
    where
      go : (u : Bool) → ltb m.first o.first ≡ u → Known (o ∷ os) (cond u (Some o) (Some m))
      go true d = rw e (omega (arith, ltb-true m.first o.first d))
      go false d = rw e (omega (arith, ltb-false m.first o.first d))
  known_more o os false None e k = rw e k
  known_more o os false (Some m) e k = rw e k

  known : (bs : List Grant) → Known bs (best bs)
  unfolding top_of any_of greatest_of
  known [] = (refl, refl)
  known (o ∷ os) = known_more o os (leb o.first last) (best os) refl (known os)

  -- so where a block shares an id
  module _ (bs : List Grant) {s : Shared} (e : s ≡ weigh_all first last (record { any = false; top = 0 }) bs) where
    any_is : any_of (shares_with first last) bs ≡ s.any
    any_is = sym (ap (λ (r : Shared). r.any) e ∙ weigh_any bs (record { any = false; top = 0 }))

    pub shared_none : s.any ≡ false → None ≡ shared_top first last bs
    shared_none a = rw (any_is ∙ a)

    pub shared_some : s.any ≡ true → Some s.top ≡ shared_top first last bs
    shared_some a = let n : any_of (shares_with first last) bs ≡ true = any_is ∙ a in rw n (go (best bs) (known bs) n)
      where
        top_is : s.top ≡ max 0 (top_of last bs)
        top_is = ap (λ (r : Shared). r.top) e ∙ weigh_top bs (record { any = false; top = 0 })

        go : (b : Option Grant) → Known bs b → any_of (shares_with first last) bs ≡ true → Some s.top ≡ given (λ o. Some o.first) b
        go None k n = never n k.1
        go (Some m) k n = ap Some (omega (arith, top_is, k))

module _ (g : Grant) where
  -- the case of a block by what the walk found
  pub shared_case : (bs : List Grant)
      → fault_if (any_of (shares g) bs) (shared_fault g bs) ≡ given (λ top. fault 3 (g.index ∷ top ∷ [])) (shared_top g.first g.last bs)
  shared_case bs = go (any_of (shares g) bs) (greatest_of (λ o. o.first) (λ o. leb o.first g.last) bs)
    where
      go : (t : Bool) (b : Option Grant) → fault_if t (case_of (λ o. fault 3 (g.index ∷ o.first ∷ [])) b)
          ≡ given (λ top. fault 3 (g.index ∷ top ∷ [])) (cond t (given (λ o. Some o.first) b) None)
      go false b = refl
      go true None = refl
      go true (Some m) = refl

  -- a block above the greatest last shares nothing
  pub above_all : (bs : List Grant) → greatest_of_lasts bs < g.first → any_of (shares g) bs ≡ false
  unfolding greatest_of_lasts any_of
  above_all [] l = refl
  above_all (o ∷ os) l =
      let p : leb g.first o.last ≡ false = lt-leb g.first o.last (omega arith) in
      let q : any_of (shares g) os ≡ false = above_all os (omega arith) in
      go (leb o.first g.last) (leb g.first o.last) p q
    where
      go : (t u : Bool) → u ≡ false → any_of (shares g) os ≡ false → (t && u) || any_of (shares g) os ≡ false
      go true u e q = rw (e, q)
      go false u e q = q
