-- What the look-ups find among the standing values: `before` and `at` the greatest index, `first_at_generation` the first put.
use mathlib.Core.Path.{◌≡◌, refl, sym, ap, ◌∙◌}
use mathlib.Core.Bool.{Bool, true, ◌&&◌}
use mathlib.Core.List.{List}
use Rattle.std.specs.Prelude.{Option, None, Some}
use Prim.Native.Nat.{ℕ, ◌-◌, ◌≤◌, ◌<◌}
use native.Mathlib.Decide.{dec_lt}
use native.Mathlib.Omega.{arith}
use lib.Dec.{eqb, ltb, leb}
use borrow.Author.Tests.{ltb-true, leb-true, eqb-true, lt-ltb, le-ltb, le-leb, lt-leb, eq-eqb}
use Rattle.rules.specs.History.{History, greatest_of, earliest_of}
use Rattle.rules.specs.Descriptors.{Entry, standing, before_in, at_in, first_at_generation_in, before, at, first_at_generation}
use Rattle.record.proofs.Booleans.{never, and_left, and_right, both}
use Rattle.rules.proofs.Members.{Mem}
use Rattle.rules.proofs.Placed.{placed_mem, Answer, Earliest, earliest_of_right}
use Rattle.rules.proofs.Best.{Greatest, greatest_of_right, greatest_agree}
use Rattle.rules.proofs.Numbered.{Falling, falling_one, earliest_lowest}
use Rattle.rules.proofs.Standing.{standing_one, standing_falls}

-- an answer to a look-up: nothing where no value suits, else one that meets the relation
abbrev pub Looked : (Entry → Type 0) → (Entry → Type 0) → List Entry → Option Entry → Type 0
Looked suits R vs None = (w : Entry) → Mem w vs → suits w → ⊥
Looked suits R vs (Some v) = R v

-- a value that suits, with the greatest index
pub record Nearest (suits : Entry → Type 0) (vs : List Entry) (v : Entry) : Type 0 where
  pub mem : Mem v vs
  pub suitable : suits v
  pub most : (w : Entry) → Mem w vs → suits w → w.index ≤ v.index

-- one that suits, with the lowest number
pub record Soonest (suits : Entry → Type 0) (vs : List Entry) (v : Entry) : Type 0 where
  pub mem : Mem v vs
  pub suitable : suits v
  pub first : (w : Entry) → Mem w vs → suits w → v.number ≤ w.number

-- a test that says whether a value suits
pub record Tested (suits : Entry → Type 0) (p : Entry → Bool) : Type 0 where
  pub to : (v : Entry) → p v ≡ true → suits v
  pub from : (v : Entry) → suits v → p v ≡ true

module _ {suits : Entry → Type 0} {p : Entry → Bool} (t : Tested suits p) where
  nearest_by : (vs : List Entry) (o : Option Entry) → Answer (Greatest (λ v. v.index) p vs) p vs o → Looked suits (Nearest suits vs) vs o
  nearest_by vs None h = λ w m s. never (t.from w s) (h w m)
  nearest_by vs (Some v) h = record {
    mem = placed_mem h.place;
    suitable = t.to v h.place.passes;
    most = λ w m s. h.most w m (t.from w s);
  }

  nearest_right : (vs : List Entry) → Looked suits (Nearest suits vs) vs (greatest_of (λ v. v.index) p vs)
  nearest_right vs = nearest_by vs (greatest_of (λ v. v.index) p vs) (greatest_of_right (λ v. v.index) p vs)

  soonest_by : (vs : List Entry) (o : Option Entry) → Falling (λ v. v.number) vs → Answer (Earliest p vs) p vs o → Looked suits (Soonest suits vs) vs o
  soonest_by vs None f h = λ w m s. never (t.from w s) (h w m)
  soonest_by vs (Some v) f h = record {
    mem = placed_mem h.place;
    suitable = t.to v h.place.passes;
    first = λ w m s. earliest_lowest (λ v. v.number) p f h w m (t.from w s);
  }

  soonest_right : (vs : List Entry) → Falling (λ v. v.number) vs → Looked suits (Soonest suits vs) vs (earliest_of p vs)
  soonest_right vs f = soonest_by vs (earliest_of p vs) f (earliest_of_right p vs)

-- nothing suits
none_one : {suits R : Entry → Type 0} {vs : List Entry} → ((w : Entry) → Mem w vs → suits w → ⊥)
    → ((v : Entry) → R v → Mem v vs) → ((v : Entry) → R v → suits v)
    → (o : Option Entry) → Looked suits R vs o → o ≡ None
none_one f mem suitable None l = refl
none_one f mem suitable (Some r) l = absurd (f r (mem r l) (suitable r l))

-- there is one such value
module _ {suits : Entry → Type 0} (h : History) {v : Entry} where
  nearest_one : ((r : Entry) → suits r → suits v → r.range ≡ v.range) → Nearest suits (standing h) v
      → (o : Option Entry) → Looked suits (Nearest suits (standing h)) (standing h) o → o ≡ Some v
  nearest_one ranged n None l = absurd (l v n.mem n.suitable)
  nearest_one ranged n (Some r) l =
      let a : v.index ≤ r.index = l.most v n.mem n.suitable in
      let b : r.index ≤ v.index = n.most r l.mem l.suitable in
      ap Some (standing_one h r v l.mem n.mem (ranged r l.suitable n.suitable) (omega arith))

  soonest_one : Soonest suits (standing h) v → (o : Option Entry) → Looked suits (Soonest suits (standing h)) (standing h) o → o ≡ Some v
  soonest_one n None l = absurd (l v n.mem n.suitable)
  soonest_one n (Some r) l =
      let a : r.number ≤ v.number = l.first v n.mem n.suitable in
      let b : v.number ≤ r.number = n.first r l.mem l.suitable in
      ap Some (falling_one (λ w. w.number) (standing_falls h) l.mem n.mem (omega arith))

-- "the greatest index below the one given", "the greatest not above it", "with that generation"
abbrev pub Below : ℕ → ℕ → Entry → Type 0
Below range index v = (v.range ≡ range) × (v.index < index)

abbrev pub UpTo : ℕ → ℕ → Entry → Type 0
UpTo range index v = (v.range ≡ range) × (v.index ≤ index)

abbrev pub Having : ℕ → ℕ → Entry → Type 0
Having range generation v = (v.range ≡ range) × (v.held.generation ≡ generation)

below_tested : (range index : ℕ) → Tested (Below range index) (λ v. eqb v.range range && ltb v.index index)
below_tested range index = record {
  to = λ v e. (eqb-true _ _ (and_left _ (ltb v.index index) e), ltb-true _ _ (and_right (eqb v.range range) _ e));
  from = λ v s. both (eq-eqb _ _ s.0) (lt-ltb _ _ s.1);
}

up_to_tested : (range index : ℕ) → Tested (UpTo range index) (λ v. eqb v.range range && leb v.index index)
up_to_tested range index = record {
  to = λ v e. (eqb-true _ _ (and_left _ (leb v.index index) e), leb-true _ _ (and_right (eqb v.range range) _ e));
  from = λ v s. both (eq-eqb _ _ s.0) (le-leb _ _ s.1);
}

having_tested : (range generation : ℕ) → Tested (Having range generation) (λ v. eqb v.range range && eqb v.held.generation generation)
having_tested range generation = record {
  to = λ v e. (eqb-true _ _ (and_left _ (eqb v.held.generation generation) e), eqb-true _ _ (and_right (eqb v.range range) _ e));
  from = λ v s. both (eq-eqb _ _ s.0) (eq-eqb _ _ s.1);
}

module _ (range index : ℕ) (h : History) where
  -- `before`
  pub before_right : Looked (Below range index) (Nearest (Below range index) (standing h)) (standing h) (before range index h)
  unfolding before before_in
  before_right = nearest_right (below_tested range index) (standing h)

  pub before_found : {v : Entry} → Nearest (Below range index) (standing h) v → before range index h ≡ Some v
  before_found n = nearest_one h (λ r a b. a.0 ∙ sym b.0) n (before range index h) before_right

  pub before_none : ((w : Entry) → Mem w (standing h) → Below range index w → ⊥) → before range index h ≡ None
  before_none f = none_one f (λ v n. n.mem) (λ v n. n.suitable) (before range index h) before_right

  -- `at`
  pub at_right : Looked (UpTo range index) (Nearest (UpTo range index) (standing h)) (standing h) (at range index h)
  unfolding at at_in
  at_right = nearest_right (up_to_tested range index) (standing h)

  pub at_found : {v : Entry} → Nearest (UpTo range index) (standing h) v → at range index h ≡ Some v
  at_found n = nearest_one h (λ r a b. a.0 ∙ sym b.0) n (at range index h) at_right

  pub at_none : ((w : Entry) → Mem w (standing h) → UpTo range index w → ⊥) → at range index h ≡ None
  at_none f = none_one f (λ v n. n.mem) (λ v n. n.suitable) (at range index h) at_right

-- `before` is `at` of the index before
below : (v index : ℕ) → 0 < index → leb v (index - 1) ≡ ltb v index
below v index l = elim (dec_lt v index) [
  | yes h ↦ le-leb v (index - 1) (omega arith) ∙ sym (lt-ltb v index h)
  | no h ↦ lt-leb v (index - 1) (omega arith) ∙ sym (le-ltb v index (omega arith))
]

pub before_at : (range index : ℕ) (h : History) → 0 < index → at range (index - 1) h ≡ before range index h
unfolding at at_in before before_in
before_at range index h l =
    greatest_agree (λ v. v.index) (λ v. eqb v.range range && leb v.index (index - 1)) (λ v. eqb v.range range && ltb v.index index)
    (λ v. ap (λ (b : Bool). eqb v.range range && b) (below v.index index l)) (standing h)

-- and nothing is before 0
pub before_zero : (range index : ℕ) (h : History) → index ≡ 0 → before range index h ≡ None
before_zero range index h e = before_none range index h (λ v m s. omega (arith, e, s.1))

-- `first_at_generation`: the value that was put first
module _ (range generation : ℕ) (h : History) where
  pub first_at_generation_right :
      Looked (Having range generation) (Soonest (Having range generation) (standing h)) (standing h) (first_at_generation range generation h)
  unfolding first_at_generation first_at_generation_in
  first_at_generation_right = soonest_right (having_tested range generation) (standing h) (standing_falls h)

  pub first_at_generation_found : {v : Entry} → Soonest (Having range generation) (standing h) v → first_at_generation range generation h ≡ Some v
  first_at_generation_found n = soonest_one h n (first_at_generation range generation h) first_at_generation_right

  pub first_at_generation_none : ((w : Entry) → Mem w (standing h) → Having range generation w → ⊥) → first_at_generation range generation h ≡ None
  first_at_generation_none f = none_one f (λ v n. n.mem) (λ v n. n.suitable) (first_at_generation range generation h) first_at_generation_right
