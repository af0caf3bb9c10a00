-- Values that rise: where one is marked, nothing earlier of its range can change a walk's answer; and when the mark is set.
-- Assumes nothing.
use mathlib.Core.Path.{◌≡◌, refl, sym, ap, ◌∙◌}
use mathlib.Core.Bool.{Bool, true, false, cond, not, ◌&&◌, ◌||◌}
use mathlib.Core.List.{List, [], ◌∷◌}
use Rattle.std.specs.Prelude.{Option, None, Some}
use mathlib.Core.Logic.{⊎_elim}
use Prim.Native.Nat.{ℕ, suc, ◌+◌, ◌-◌, ◌*◌, ◌≤◌, ◌<◌}
use native.Mathlib.Omega.{arith}
use native.Mathlib.Decide.{dec_lt}
use lib.Dec.{eqb, ltb, leb}
use lib.ListN.{length, get_or}
use borrow.Author.Tests.{eqb-true, eq-eqb, leb-true, leb-false, le-leb, lt-leb, ltb-true, lt-ltb, le-ltb, not-true}
use Rattle.record.proofs.Booleans.{decide, never, and_left, and_right, both}
use Rattle.rules.specs.History.{History, holds, any_of, latest_of, greater, greatest_of, lowest_of, add_some, told}
use Rattle.rules.specs.Descriptors.{Entry, tells_stated, standing, stated, statements, is_empty}
use Rattle.rules.proofs.Members.{any_of_mem, any_of_none, any_of_less}
use Rattle.rules.proofs.Placed.{placed_mem, latest_none as none_latest}
use Rattle.rules.proofs.Best.{greatest_meets, lowest_meets}
use Rattle.history.specs.declared.past.Past.{Past}
use Rattle.history.specs.declared.walk.Taken.{Taken}
use Rattle.history.specs.Pasts.{Indexed, IsTaken}
use Rattle.history.specs.Logs.{record_at, hist}
use Rattle.history.proofs.Logs.{hist_length}
use Rattle.history.proofs.Cells.{cell_at}
use Rattle.history.proofs.Chains.{In}
use Rattle.history.specs.Places.{counts}
use Rattle.history.specs.Weighing.{greater_of, lower_of}
use Rattle.history.proofs.Queries.{greater_none, greater_keep, greater_take}
use Rattle.descriptors.specs.Columns.{not_below, is_rising, counts_of, counts_after, DescriptorsIndexed, standing_bucket, put_entry, put}
use Rattle.descriptors.specs.Answers.{asks, at_place, up_to, greatest_up_to, above}
use Rattle.descriptors.proofs.Roles.{in_standing}
use Rattle.descriptors.proofs.Walks.{Greatest, Lowest, up_to_range, above_range, at_range}

-- ---- the counts are below the mark

pub counts_by : (h : History) → counts_of h ≡ 2 * length (stated h) + cond (eqb (length (standing h)) 0) 0 1
unfolding counts_of statements is_empty
counts_by h = refl

few_go : (o : Option Entry) (ss : List Entry) (n : ℕ) → length ss ≤ n → length (add_some o ss) ≤ suc n
few_go None ss n l = omega arith
few_go (Some v) ss n l = omega arith

few : (h : History) → length (stated h) ≤ length h
unfolding stated told
few [] = omega arith
few (x ∷ h) = few_go (tells_stated x h) (stated h) (length h) (few h)

pub counts_bound : (h : History) → counts_of h ≤ 2 * length h + 1
counts_bound h = ⊎_elim (λ t. go true t) (λ t. go false t) (decide (eqb (length (standing h)) 0))
  where
    go : (b : Bool) → eqb (length (standing h)) 0 ≡ b → counts_of h ≤ 2 * length h + 1
    go true e = rw (counts_by h, e) (omega (arith, few h))
    go false e = rw (counts_by h, e) (omega (arith, few h))

-- ---- a list in which nothing of p's range is at an index not below p's

greater_last : (o : Option Entry) → greater_of (λ v. v.index) o None ≡ o
unfolding greater_of
greater_last None = refl
greater_last (Some v) = refl

lower_last : (o : Option Entry) → lower_of (λ v. v.index) o None ≡ o
unfolding lower_of
lower_last None = refl
lower_last (Some v) = refl

module _ (p : Entry) (vs : List Entry) (n : any_of (not_below p) vs ≡ false) where
  latest_none : (q : Entry → Bool) → ((v : Entry) → q v ≡ true → not_below p v ≡ true) → latest_of q vs ≡ None
  latest_none q i = none_latest q vs (any_of_none q vs (any_of_less (not_below p) q i vs n))

  lowest_none : (q : Entry → Bool) → ((v : Entry) → q v ≡ true → not_below p v ≡ true) → lowest_of (λ v. v.index) q vs ≡ None
  lowest_none q i = go (lowest_of (λ v. v.index) q vs) refl
    where
      go : (o : Option Entry) → lowest_of (λ v. v.index) q vs ≡ o → o ≡ None
      go None e = refl
      go (Some z) e =
          let w = lowest_meets (λ v. v.index) q {xs = vs} {r = z} e in never (any_of_mem (not_below p) (placed_mem w.place) (i z w.place.passes)) n

  -- the greatest of it does not come up to p
  greatest_less : (q : Entry → Bool) → ((v : Entry) → q v ≡ true → v.range ≡ p.range) → (z : Entry) → greatest_of (λ v. v.index) q vs ≡ Some z
      → z.index < p.index
  greatest_less q i z e =
      let w = greatest_meets (λ v. v.index) q {xs = vs} {r = z} e in
      ⊎_elim
      (λ t. never (any_of_mem (not_below p) (placed_mem w.place) (both (eq-eqb z.range p.range (i z w.place.passes)) t)) n)
      (λ t. leb-false p.index z.index t)
      (decide (leb p.index z.index))

  keep_go : (o r : Option Entry) → ((z : Entry) → r ≡ Some z → z.index < p.index)
      → greater_of (λ v. v.index) (greater_of (λ v. v.index) o (Some p)) r ≡ greater_of (λ v. v.index) o (Some p)
  keep_go o None l = greater_last (greater_of (λ v. v.index) o (Some p))
  keep_go None (Some z) l = rw (greater_none (λ v. v.index) (Some p)) (greater_keep (λ v. v.index) {w = p} {v = z} (l z refl))
  keep_go (Some u) (Some z) l =
      elim (dec_lt p.index u.index) [
        | yes m ↦ rw (greater_keep (λ v. v.index) {w = u} {v = p} m) (greater_keep (λ v. v.index) {w = u} {v = z} (omega (arith, l z refl)))
        | no m ↦ rw (greater_take (λ v. v.index) {w = u} {v = p} (omega arith)) (greater_keep (λ v. v.index) {w = p} {v = z} (l z refl))
      ]

  -- the best so far, p among it, stays the greatest
  greatest_kept : (q : Entry → Bool) → ((v : Entry) → q v ≡ true → v.range ≡ p.range) → (o : Option Entry)
      → greater_of (λ v. v.index) (greater_of (λ v. v.index) o (Some p)) (greatest_of (λ v. v.index) q vs) ≡ greater_of (λ v. v.index) o (Some p)
  greatest_kept q i o = keep_go o (greatest_of (λ v. v.index) q vs) (greatest_less q i)

-- ---- a marked record

marked_go : (n : ℕ) (b : Bool) → n < 16384 → leb 16384 (n + cond b 16384 0) ≡ true → b ≡ true
marked_go n true l h = refl
marked_go n false l h = absurd (omega (arith, leb-true 16384 (n + 0) h))

module _ {p : Past} (d : Indexed DescriptorsIndexed p) {y : Taken} (t : IsTaken p y) {b : ℕ} (i : In (standing_bucket p.cap) b p.log.now (y.number - 1)) where
  rising_at : leb 16384 (get_or p.work.now (counts * p.cap + (y.number - 1)) 0) ≡ true
      → is_rising (record_at p.log.now (y.number - 1)) (hist p.log.now (y.number - 1)) ≡ true
  rising_at h =
      let x = record_at p.log.now (y.number - 1) in
      let older = hist p.log.now (y.number - 1) in
      let w : get_or p.work.now (counts * p.cap + (y.number - 1)) 0 ≡ counts_after x older =
      d.counts.word (y.number - 1) (omega (arith, t.some, t.within, p.within))
      ∙ cell_at counts_after p.log.now p.count (y.number - 1) (omega (arith, t.some, t.within)) in
      marked_go (counts_of (x ∷ older)) (is_rising x older)
      (omega (arith, counts_bound (x ∷ older), hist_length p.log.now (y.number - 1), t.some, t.within, p.within, p.small))
      (ap (leb 16384) (sym w) ∙ h)

  -- its value is above every earlier one of its range
  older_below : leb 16384 (get_or p.work.now (counts * p.cap + (y.number - 1)) 0) ≡ true
      → any_of (not_below (put_entry y)) (standing (hist p.log.now (y.number - 1))) ≡ false
  unfolding is_rising
  older_below h =
      let r : holds (λ v. not (any_of (not_below v) (standing (hist p.log.now (y.number - 1))))) (Some (put_entry y)) ≡ true =
      rw (in_standing p.cap t i) at (rising_at h) in
      not-true (any_of (not_below (put_entry y)) (standing (hist p.log.now (y.number - 1)))) r

  -- the walk to the greatest stops at one that passes
  pub greatest_stop : (range : ℕ) (index generation : Option ℕ) (best best' : Option Taken) {x : Option Entry}
      → up_to range index generation (put_entry y) ≡ true → leb 16384 (get_or p.work.now (counts * p.cap + (y.number - 1)) 0) ≡ true
      → put best' ≡ greater_of (λ v. v.index) (put best) (Some (put_entry y)) → x ≡ Greatest p range index generation best' (y.number - 1) → put best' ≡ x
  greatest_stop range index generation best best' e h q w =
      let c : (put_entry y).range ≡ range = up_to_range range index generation (put_entry y) e in
      let test = up_to range index generation in
      let vs = standing (hist p.log.now (y.number - 1)) in
      sym (w ∙ ap (λ (o : Option Entry). greater_of (λ v. v.index) o (greatest_of (λ v. v.index) test vs)) q
      ∙ greatest_kept (put_entry y) vs (older_below h) test (λ v u. up_to_range range index generation v u ∙ sym c) (put best)
      ∙ sym q)

  -- where it is of the range and not above the index, everything earlier of the range is below the index
  module _ (range index : ℕ) (h : leb 16384 (get_or p.work.now (counts * p.cap + (y.number - 1)) 0) && eqb (put_entry y).range range && leb (put_entry y).index index ≡ true) where
    first_two : leb 16384 (get_or p.work.now (counts * p.cap + (y.number - 1)) 0) && eqb (put_entry y).range range ≡ true
    first_two = and_left _ (leb (put_entry y).index index) h

    stop_older : any_of (not_below (put_entry y)) (standing (hist p.log.now (y.number - 1))) ≡ false
    stop_older = older_below (and_left _ (eqb (put_entry y).range range) first_two)

    not_below_lem : (v : Entry) → v.range ≡ range → index ≤ v.index → not_below (put_entry y) v ≡ true
    not_below_lem v r l =
        let a : (put_entry y).range ≡ range = eqb-true _ _ (and_right (leb 16384 (get_or p.work.now (counts * p.cap + (y.number - 1)) 0)) _ first_two) in
        let m : (put_entry y).index ≤ index = leb-true _ _
        (and_right (leb 16384 (get_or p.work.now (counts * p.cap + (y.number - 1)) 0) && eqb (put_entry y).range range) _ h) in
        both (eq-eqb v.range (put_entry y).range (r ∙ sym a)) (le-leb (put_entry y).index v.index (omega arith))

    pub place_stop : latest_of (at_place range index) (standing (hist p.log.now (y.number - 1))) ≡ None
    place_stop =
        latest_none (put_entry y) (standing (hist p.log.now (y.number - 1))) stop_older (at_place range index)
        (λ v u.
        let q : index ≡ v.index = eqb-true _ _ (and_right (eqb range v.range) (eqb index v.index) u) in
        not_below_lem v (at_range range index v u) (omega arith))

    pub lowest_stop : (generation : Option ℕ) (best : Option Taken) {x : Option Entry} → x ≡ Lowest p range index generation best (y.number - 1)
        → put best ≡ x
    lowest_stop generation best w =
        sym (w ∙ ap (lower_of (λ v. v.index) (put best))
        (lowest_none (put_entry y) (standing (hist p.log.now (y.number - 1))) stop_older (above range index generation)
        (λ v u.
        let q : index < v.index = ltb-true _ _
        (and_right (eqb v.range range) (ltb index v.index)
        (and_left (eqb v.range range && ltb index v.index) (asks (λ wanted. eqb v.held.generation wanted) generation) u)) in
        not_below_lem v (above_range range index generation v u) (omega arith)))
        ∙ lower_last (put best))

-- ---- when the mark is set: the greatest of the range is below

pub below_is : (a b : ℕ) → ltb a b ≡ not (leb b a)
below_is a b =
    elim (dec_lt a b) [
      | yes l ↦ rw (lt-ltb a b l, lt-leb b a l)
      | no l ↦ rw (le-ltb a b (omega arith), le-leb b a (omega arith))
    ]

or_lost : (a b : Bool) → (b ≡ true → a ≡ true) → a ≡ a || b
or_lost true b f = refl
or_lost false true f = f refl
or_lost false false f = refl

or_won : (a b : Bool) → (a ≡ true → b ≡ true) → b ≡ a || b
or_won true b f = f refl
or_won false b f = refl

module _ (m : ℕ) where
  reach_go : (v : Entry) (o : Option Entry) → holds (λ w. leb m w.index) (greater (λ w. w.index) v o) ≡ leb m v.index || holds (λ w. leb m w.index) o
  reach_go v None = or_lost (leb m v.index) false (λ t. never t refl)
  reach_go v (Some u) =
      elim (dec_lt u.index v.index) [
        | yes l ↦ rw (lt-ltb u.index v.index l)
            (or_lost (leb m v.index) (leb m u.index) (λ t. le-leb m v.index (omega (arith, leb-true m u.index t))))
        | no l ↦ rw (le-ltb u.index v.index (omega arith))
            (or_won (leb m v.index) (leb m u.index) (λ t. le-leb m u.index (omega (arith, leb-true m v.index t))))
      ]

  reach_step : (b : Bool) (v : Entry) (o : Option Entry) {a : Bool} → holds (λ w. leb m w.index) o ≡ a
      → holds (λ w. leb m w.index) (cond (b && true && true) (greater (λ w. w.index) v o) o) ≡ (b && leb m v.index) || a
  reach_step true v o e = reach_go v o ∙ rw e
  reach_step false v o e = e

pub top_reaches : (p : Entry) (vs : List Entry) → holds (λ v. leb p.index v.index) (greatest_up_to p.range None None vs) ≡ any_of (not_below p) vs
unfolding greatest_of any_of
top_reaches p [] = refl
top_reaches p (v ∷ vs) = reach_step p.index (eqb v.range p.range) v (greatest_up_to p.range None None vs) (top_reaches p vs)
