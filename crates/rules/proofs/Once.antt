-- What is told first of each, once: first grants by their index, counted writes by range and index, splits by parent and index.
use mathlib.Core.Path.{◌≡◌, refl, sym, ◌∙◌}
use mathlib.Core.Bool.{Bool, true, false, cond, not, ◌&&◌}
use mathlib.Core.List.{List, ◌∷◌}
use Rattle.std.specs.Prelude.{Option, None, Some}
use Prim.Native.Nat.{ℕ}
use lib.Dec.{eqb}
use borrow.Author.Tests.{eqb-true, eq-eqb}
use Rattle.record.specs.Records.{TraceRecord}
use Rattle.rules.specs.History.{History, when, given, any_of, add_some, add_first, firsts}
use Rattle.rules.specs.IdsUnique.{Grant, same_index, tells_grant, first_grants}
use Rattle.rules.specs.GenerationsRise.{Write, same_write, tells_write, writes}
use Rattle.rules.specs.RightHalf.{Registered, same_split, tells_split, registered, unless_known, registers}
use Rattle.record.proofs.Booleans.{and_left, and_right, both}
use Rattle.rules.proofs.Members.{Mem}
use Rattle.rules.proofs.Firsts.{apart_one, firsts_apart, Sameness, FirstBy, firsts_by, by_firsts}

-- ---- the same by two numbers, or by one

module _ {A : Type 0} (f g : A → ℕ) where
  abbrev pub same_by : A → A → Bool
  same_by a b = eqb (f a) (f b) && eqb (g a) (g b)

  pub by_same : (a b : A) → f a ≡ f b → g a ≡ g b → same_by a b ≡ true
  by_same a b p q = both (eq-eqb _ _ p) (eq-eqb _ _ q)

  pub same_by_sameness : Sameness same_by
  same_by_sameness = record {
    itself = λ a. by_same a a refl refl;
    through = λ a b c p q. by_same a c
        (eqb-true _ _ (and_left _ (eqb (g a) (g b)) p) ∙ eqb-true _ _ (and_left _ (eqb (g b) (g c)) q))
        (eqb-true _ _ (and_right (eqb (f a) (f b)) _ p) ∙ eqb-true _ _ (and_right (eqb (f b) (f c)) _ q));
  }

pub index_sameness : Sameness same_index
index_sameness = record {
  itself = λ a. eq-eqb a.index a.index refl;
  through = λ a b c p q. eq-eqb _ _ (eqb-true a.index b.index p ∙ eqb-true b.index c.index q);
}

pub flip_sameness : {A : Type 0} {same : A → A → Bool} → Sameness same → Sameness (λ a b. same b a)
flip_sameness s = record { itself = s.itself; through = λ a b c p q. s.through c b a q p }

pub split_sameness : Sameness same_split
split_sameness = flip_sameness (same_by_sameness (λ (s : Registered). s.parent) (λ s. s.index))

-- ---- first grants

module _ (h : History) where
  pub grants_one : (g o : Grant) → Mem g (first_grants h) → Mem o (first_grants h) → g.index ≡ o.index → g ≡ o
  unfolding first_grants
  grants_one g o m n e = apart_one (firsts_apart same_index tells_grant h) m n (eq-eqb _ _ e) (eq-eqb _ _ (sym e))

  pub grants_first : {g : Grant} → Mem g (first_grants h) → FirstBy same_index tells_grant g h
  unfolding first_grants
  grants_first m = firsts_by same_index tells_grant index_sameness h m

  pub first_grants_lem : {g : Grant} → FirstBy same_index tells_grant g h → Mem g (first_grants h)
  unfolding first_grants
  first_grants_lem w = by_firsts same_index tells_grant w

  -- ---- counted writes

  pub writes_one : (w o : Write) → Mem w (writes h) → Mem o (writes h) → w.range ≡ o.range → w.index ≡ o.index → w ≡ o
  unfolding writes
  writes_one w o m n r i =
      let k = by_same (λ (w : Write). w.range) (λ w. w.index) in
      apart_one (firsts_apart same_write tells_write h) m n (k w o r i) (k o w (sym r) (sym i))

  pub writes_first : {w : Write} → Mem w (writes h) → FirstBy same_write tells_write w h
  unfolding writes
  writes_first m = firsts_by same_write tells_write (same_by_sameness (λ w. w.range) (λ w. w.index)) h m

  pub first_writes : {w : Write} → FirstBy same_write tells_write w h → Mem w (writes h)
  unfolding writes
  first_writes w = by_firsts same_write tells_write w

  -- ---- registered splits

  pub splits_one : (s t : Registered) → Mem s (registered h) → Mem t (registered h) → s.parent ≡ t.parent → s.index ≡ t.index → s ≡ t
  unfolding registered
  splits_one s t m n p i =
      let k = by_same (λ (s : Registered). s.parent) (λ s. s.index) in
      apart_one (firsts_apart same_split tells_split h) m n (k t s (sym p) (sym i)) (k s t p i)

  pub splits_first : {s : Registered} → Mem s (registered h) → FirstBy same_split tells_split s h
  unfolding registered
  splits_first m = firsts_by same_split tells_split split_sameness h m

-- one more record: what it registers comes in front
by_known : (b : Bool) (s : Registered) (ss : List Registered) → cond b ss (s ∷ ss) ≡ add_some (when (not b) s) ss
by_known true s ss = refl
by_known false s ss = refl

by_tells : (h : History) (o : Option Registered) (ss : List Registered) → registered h ≡ ss
    → add_first same_split o ss ≡ add_some (given (unless_known h) o) ss
by_tells h None ss e = refl
by_tells h (Some s) ss e = rw e (by_known (any_of (same_split s) ss) s ss)

pub registered_step : (x : TraceRecord) (h : History) → registered (x ∷ h) ≡ add_some (registers x h) (registered h)
unfolding registered firsts registers
registered_step x h = by_tells h (tells_split x h) (registered h) refl
