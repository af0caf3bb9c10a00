-- Laws of the walks along the chains of `Descriptors`: what a record outside the bucket leaves as it was, and what one in it adds.
-- Assumes nothing.
use mathlib.Core.Path.{◌≡◌, refl, sym, ap, ◌∙◌}
use mathlib.Core.Bool.{Bool, true, false, cond, ◌&&◌, ◌||◌}
use mathlib.Core.List.{List, [], ◌∷◌}
use Rattle.std.specs.Prelude.{Option, None, Some, option_map}
use mathlib.Core.Logic.{⊎_elim}
use Prim.Native.Nat.{ℕ, suc, ◌-◌}
use lib.Dec.{eqb, ltb, leb}
use borrow.Author.Tests.{eqb-true}
use Rattle.record.specs.Named.{Node}
use Rattle.record.specs.Records.{TraceRecord, decode}
use Rattle.record.proofs.Booleans.{decide, never, and_left, and_right}
use Rattle.rules.specs.History.{History, is_kind, is_by, by_node, any_of, latest_of, earliest_of, greatest_of, lowest_of}
use Rattle.rules.specs.Descriptors.{Entry, tells_applied, applied, tells_put, same_place, standing, first_at_generation_in, first_at_generation}
use Rattle.history.specs.declared.past.Past.{Past}
use Rattle.history.specs.declared.walk.Chain.{Chain}
use Rattle.history.specs.declared.walk.Taken.{Taken}
use Rattle.history.specs.Pasts.{taken, Indexed, IsTaken, Begins, Goes}
use Rattle.history.specs.Places.{standing_heads, standing_links}
use Rattle.history.specs.Logs.{record_at, hist}
use Rattle.history.proofs.Chains.{In, Stands}
use Rattle.history.proofs.Pasts.{OnPast, taken_on, AtTurn, along_first, along_turn, along_next}
use Rattle.history.proofs.Mixing.{one_below}
use Rattle.rules.proofs.Members.{any_of_some, any_of_none}
use Rattle.rules.proofs.Placed.{earliest_none, earliest_passing}
use Rattle.rules.proofs.Skips.{told_hit, told_skip, latest_of_hit, earliest_of_kept, earliest_of_hit}
use Rattle.rules.proofs.Tellings.{fresh, when_holds, firsts_afresh}
use Rattle.history.specs.Weighing.{greater_of, lower_of}
use Rattle.history.proofs.Queries.{Ignores, ignores_then, Turns, latest_ignores, earliest_ignores, greatest_ignores, lowest_ignores, greater_none, lower_none, greatest_turns, lowest_turns, greatest_end, lowest_end}
use Rattle.history.proofs.Walks.{look_less, look_outside, latest_outside, latest_found, latest_passed, latest_end, firsts_outside, firsts_found, firsts_end}
use Rattle.history.specs.Buckets.{bucket_by, bucket_by_two}
use Rattle.descriptors.specs.Columns.{DescriptorsIndexed, new_value, first_value, same_generation, applied_at, applied_bucket, standing_bucket, generation_bucket, put_entry, put}
use Rattle.descriptors.specs.Answers.{asks, up_to, above, at_place, of_generation}
use Rattle.descriptors.proofs.Roles.{record_taken, put_is, new_puts, new_fresh, first_new, first_free, in_standing, in_generation}

-- ---- the chain of standing values

standing_bucket_lem : (cap range : ℕ) (x : TraceRecord) (h : History) (v : Entry) → fresh same_place tells_put x h ≡ Some v → v.range ≡ range
    → standing_bucket cap x h ≡ Some (bucket_by cap range)
unfolding standing_bucket
standing_bucket_lem cap range x h v e r = rw (new_fresh x h, e, r)

module _ (cap range : ℕ) (log : List ℕ) where
  -- a question to the standing values that only those of the range can change
  standing_skip : {B : Type 0} {p : Entry → Bool} {Q : List Entry → B} → Ignores p Q → ((v : Entry) → p v ≡ true → v.range ≡ range)
      → (k : ℕ) → (In (standing_bucket cap) (bucket_by cap range) log k → ⊥) → Q (standing (hist log (suc k))) ≡ Q (standing (hist log k))
  unfolding standing
  standing_skip q r =
      firsts_outside q same_place tells_put (standing_bucket cap) (bucket_by cap range) log (λ x h v e t. standing_bucket_lem cap range x h v e (r v t))

module _ (cap : ℕ) {p : Past} {b : ℕ} {y : Taken} (t : IsTaken p y) (m : In (standing_bucket cap) b p.log.now (y.number - 1)) where
  standing_hit : standing (hist p.log.now y.number) ≡ put_entry y ∷ standing (hist p.log.now (y.number - 1))
  unfolding standing
  standing_hit =
      firsts_found same_place tells_put p.log.now t.some
      (sym (new_fresh (record_at p.log.now (y.number - 1)) (hist p.log.now (y.number - 1))) ∙ in_standing cap t m)

standing_end : (log : List ℕ) {i : ℕ} → i ≡ 0 → standing (hist log i) ≡ []
unfolding standing
standing_end log e = firsts_end same_place tells_put log e

-- ---- a walk that weighs the values that pass, from the newest on

-- a question to the standing values of the first n records, the best so far beside it
abbrev pub Beside : (Option Entry → Option Entry → Option Entry) → (List Entry → Option Entry) → List ℕ → Option Entry → ℕ → Option Entry
Beside join Q log best n = join best (Q (standing (hist log n)))

-- a question that weighs: none before the first, each that passes against the best so far, no other counts
pub record Weighs (join : Option Entry → Option Entry → Option Entry) (test : Entry → Bool) (Q : List Entry → Option Entry) : Type 0 where
  pub first : (r : Option Entry) → join None r ≡ r
  pub turns : Turns join (λ best v. cond (test v) (join best (Some v)) best) Q
  pub ignores : Ignores test Q
  pub last : (best : Option Entry) → join best (Q []) ≡ best

module _ {join : Option Entry → Option Entry → Option Entry} {test : Entry → Bool} {Q : List Entry → Option Entry} (w : Weighs join test Q)
    {range : ℕ} (within : (v : Entry) → test v ≡ true → v.range ≡ range) (p : Past) (d : Indexed DescriptorsIndexed p) where
  beside_skip : (best : Option Entry) (k : ℕ) → (In (standing_bucket p.cap) (bucket_by p.cap range) p.log.now k → ⊥)
      → Beside join Q p.log.now best (suc k) ≡ Beside join Q p.log.now best k
  beside_skip best = standing_skip p.cap range p.log.now (ignores_then (join best) w.ignores) within

  pub weighs_first : {s : Chain} → Begins p standing_heads standing_links (bucket_by p.cap range) s
      → Stands (standing_bucket p.cap) (bucket_by p.cap range) p.log.now (Beside join Q p.log.now None) (Q (standing (taken p))) s.next
  weighs_first z =
      along_first (Beside join Q p.log.now None) (beside_skip None) d.standing refl (one_below range p.positive)
      (sym (w.first (Q (standing (taken p))))) z

  module _ {s t : Chain} {y : Taken} {x best : Option Entry} (o : OnPast p standing_links s) (e : Goes s y t)
      (a : Stands (standing_bucket p.cap) (bucket_by p.cap range) p.log.now (Beside join Q p.log.now best) x s.next) where
    weighs_turn : x ≡ join (cond (test (put_entry y)) (join best (Some (put_entry y))) best) (Q (standing (hist p.log.now (y.number - 1))))
    weighs_turn =
        (along_turn e a).same
        ∙ ap (λ (vs : List Entry). join best (Q vs)) (standing_hit p.cap (taken_on o e) (along_turn e a).here)
        ∙ w.turns.turn best (put_entry y) (standing (hist p.log.now (y.number - 1)))

    -- one that passes is weighed against the best so far
    pub weighs_taken : {best' : Option Entry} → test (put_entry y) ≡ true → best' ≡ join best (Some (put_entry y))
        → x ≡ Beside join Q p.log.now best' (y.number - 1)
    weighs_taken q u = weighs_turn ∙ rw (q, u)

    pub weighs_passed : test (put_entry y) ≡ false → x ≡ Beside join Q p.log.now best (y.number - 1)
    weighs_passed q = weighs_turn ∙ rw q

    pub weighs_next : {best' : Option Entry} → x ≡ Beside join Q p.log.now best' (y.number - 1)
        → Stands (standing_bucket p.cap) (bucket_by p.cap range) p.log.now (Beside join Q p.log.now best') x t.next
    weighs_next {best' = best'} q = along_next (Beside join Q p.log.now best') (beside_skip best') d.standing o e a q

  pub weighs_done : {x best : Option Entry} {i : ℕ} → i ≡ 0
      → Stands (standing_bucket p.cap) (bucket_by p.cap range) p.log.now (Beside join Q p.log.now best) x i → best ≡ x
  weighs_done {best = best} z a = sym (a.same ∙ ap (λ (vs : List Entry). join best (Q vs)) (standing_end p.log.now z) ∙ w.last best)

-- the two walks that weigh: to the greatest index, and to the lowest
module _ (p : Past) (range : ℕ) (index generation : Option ℕ) where
  abbrev pub Greatest : Option Taken → ℕ → Option Entry
  Greatest best = Beside (greater_of (λ v. v.index)) (greatest_of (λ v. v.index) (up_to range index generation)) p.log.now (put best)

module _ (p : Past) (range index : ℕ) (generation : Option ℕ) where
  abbrev pub Lowest : Option Taken → ℕ → Option Entry
  Lowest best = Beside (lower_of (λ v. v.index)) (lowest_of (λ v. v.index) (above range index generation)) p.log.now (put best)

module _ (test : Entry → Bool) where
  pub greatest_weighs : Weighs (greater_of (λ v. v.index)) test (greatest_of (λ v. v.index) test)
  greatest_weighs = record {
    first = greater_none (λ v. v.index);
    turns = greatest_turns (λ v. v.index) test;
    ignores = greatest_ignores test (λ v. v.index);
    last = greatest_end (λ v. v.index) test;
  }

  pub lowest_weighs : Weighs (lower_of (λ v. v.index)) test (lowest_of (λ v. v.index) test)
  lowest_weighs = record {
    first = lower_none (λ v. v.index);
    turns = lowest_turns (λ v. v.index) test;
    ignores = lowest_ignores test (λ v. v.index);
    last = lowest_end (λ v. v.index) test;
  }

-- ---- what passes is of the range

pub up_to_range : (range : ℕ) (index generation : Option ℕ) (v : Entry) → up_to range index generation v ≡ true → v.range ≡ range
up_to_range range index generation v h =
    eqb-true _ _ (and_left (eqb v.range range) (asks (λ top. leb v.index top) index) (and_left _ (asks (λ wanted. eqb v.held.generation wanted) generation) h))

pub above_range : (range index : ℕ) (generation : Option ℕ) (v : Entry) → above range index generation v ≡ true → v.range ≡ range
above_range range index generation v h =
    eqb-true _ _ (and_left (eqb v.range range) (ltb index v.index) (and_left _ (asks (λ wanted. eqb v.held.generation wanted) generation) h))

pub at_range : (range index : ℕ) (v : Entry) → at_place range index v ≡ true → v.range ≡ range
at_range range index v h = sym (eqb-true _ _ (and_left (eqb range v.range) (eqb index v.index) h))

-- ---- the value at a place

module _ (cap range index : ℕ) where
  pub place_skip : (log : List ℕ) (k : ℕ) → (In (standing_bucket cap) (bucket_by cap range) log k → ⊥)
      → latest_of (at_place range index) (standing (hist log (suc k))) ≡ latest_of (at_place range index) (standing (hist log k))
  place_skip log = standing_skip cap range log (latest_ignores (at_place range index)) (at_range range index)

  module _ {p : Past} {b : ℕ} {y : Taken} {x : Option Entry} (t : IsTaken p y)
      (w : AtTurn (standing_bucket cap) b p.log.now (λ n. latest_of (at_place range index) (standing (hist p.log.now n))) x y) where
    pub place_hit : at_place range index (put_entry y) ≡ true → Some (put_entry y) ≡ x
    place_hit h =
        sym (w.same ∙ ap (latest_of (at_place range index)) (standing_hit cap t w.here)
        ∙ latest_of_hit (at_place range index) (put_entry y) (standing (hist p.log.now (y.number - 1))) h)

    pub place_miss : at_place range index (put_entry y) ≡ false → x ≡ latest_of (at_place range index) (standing (hist p.log.now (y.number - 1)))
    place_miss h =
        w.same ∙ ap (latest_of (at_place range index)) (standing_hit cap t w.here)
        ∙ (latest_ignores (at_place range index)).other (put_entry y) (standing (hist p.log.now (y.number - 1))) h

  pub place_end : (log : List ℕ) {i : ℕ} → i ≡ 0 → latest_of (at_place range index) (standing (hist log i)) ≡ None
  unfolding latest_of
  place_end log e = ap (latest_of (at_place range index)) (standing_end log e)

-- ---- the chain of the first values of generations

standing_more : (x : TraceRecord) (h : History) {v : Entry} → new_value x h ≡ Some v → standing (x ∷ h) ≡ v ∷ standing h
unfolding standing
standing_more x h {v} e =
    firsts_afresh same_place tells_put (x ∷ h) ∙ told_hit (fresh same_place tells_put) x h v (sym (new_fresh x h) ∙ e)
    ∙ ap (λ (vs : List Entry). v ∷ vs) (sym (firsts_afresh same_place tells_put h))

standing_same : (x : TraceRecord) (h : History) → new_value x h ≡ None → standing (x ∷ h) ≡ standing h
unfolding standing
standing_same x h e =
    firsts_afresh same_place tells_put (x ∷ h) ∙ told_skip (fresh same_place tells_put) x h (sym (new_fresh x h) ∙ e)
    ∙ sym (firsts_afresh same_place tells_put h)

-- an earlier one that passes stays the earliest
earliest_stays : (p : Entry → Bool) (v : Entry) (vs : List Entry) → any_of p vs ≡ true → earliest_of p (v ∷ vs) ≡ earliest_of p vs
earliest_stays p v vs h =
    let a = any_of_some p vs h in
    let w = earliest_passing p a.mem a.passes in
    earliest_of_kept p v vs w.0 w.1 ∙ sym w.1

-- of the same range and generation as one that is of both
same_of : (range generation : ℕ) (v : Entry) (vs : List Entry) → of_generation range generation v ≡ true
    → any_of (same_generation v) vs ≡ any_of (of_generation range generation) vs
same_of range generation v vs h =
    let a : v.range ≡ range = eqb-true _ _ (and_left (eqb v.range range) (eqb v.held.generation generation) h) in
    let b : v.held.generation ≡ generation = eqb-true _ _ (and_right (eqb v.range range) (eqb v.held.generation generation) h) in
    rw (a, b)

module _ (cap range generation : ℕ) where
  generation_bucket_lem : (x : TraceRecord) (h : History) (v : Entry) → new_value x h ≡ Some v → of_generation range generation v ≡ true
      → any_of (same_generation v) (standing h) ≡ false → generation_bucket cap x h ≡ Some (bucket_by_two cap range generation)
  unfolding generation_bucket first_value
  generation_bucket_lem x h v e t n =
      let a : v.range ≡ range = eqb-true _ _ (and_left (eqb v.range range) (eqb v.held.generation generation) t) in
      let b : v.held.generation ≡ generation = eqb-true _ _ (and_right (eqb v.range range) (eqb v.held.generation generation) t) in
      rw (e, n, a, b)

  generation_go : (x : TraceRecord) (h : History) → (generation_bucket cap x h ≡ Some (bucket_by_two cap range generation) → ⊥)
      → (o : Option Entry) → new_value x h ≡ o
      → earliest_of (of_generation range generation) (standing (x ∷ h)) ≡ earliest_of (of_generation range generation) (standing h)
  generation_go x h n None e = ap (earliest_of (of_generation range generation)) (standing_same x h e)
  generation_go x h n (Some v) e =
      ap (earliest_of (of_generation range generation)) (standing_more x h e)
      ∙ ⊎_elim
      (λ t. ⊎_elim
      (λ a. earliest_stays (of_generation range generation) v (standing h) (sym (same_of range generation v (standing h) t) ∙ a))
      (λ a. absurd (n (generation_bucket_lem x h v e t a)))
      (decide (any_of (same_generation v) (standing h))))
      (λ t. (earliest_ignores (of_generation range generation)).other v (standing h) t)
      (decide (of_generation range generation v))

  pub generation_skip : (log : List ℕ) (k : ℕ) → (In (generation_bucket cap) (bucket_by_two cap range generation) log k → ⊥)
      → first_at_generation range generation (hist log (suc k)) ≡ first_at_generation range generation (hist log k)
  unfolding first_at_generation first_at_generation_in
  generation_skip log =
      look_outside (first_at_generation range generation) (generation_bucket cap) (bucket_by_two cap range generation) log
      (λ x h n. generation_go x h n (new_value x h) refl)

  module _ {p : Past} {b : ℕ} {y : Taken} (t : IsTaken p y) (m : In (generation_bucket cap) b p.log.now (y.number - 1)) where
    first_at : first_value (record_at p.log.now (y.number - 1)) (hist p.log.now (y.number - 1)) ≡ Some (put_entry y)
    first_at = in_generation cap t m

    generation_at : first_at_generation range generation (hist p.log.now y.number)
        ≡ earliest_of (of_generation range generation) (put_entry y ∷ standing (hist p.log.now (y.number - 1)))
    unfolding first_at_generation first_at_generation_in
    generation_at =
        look_less (first_at_generation range generation) p.log.now y.number t.some
        ∙ ap (earliest_of (of_generation range generation))
        (standing_more (record_at p.log.now (y.number - 1)) (hist p.log.now (y.number - 1))
        (first_new (record_at p.log.now (y.number - 1)) (hist p.log.now (y.number - 1)) first_at))

    pub generation_hit : of_generation range generation (put_entry y) ≡ true → first_at_generation range generation (hist p.log.now y.number) ≡ Some (put_entry y)
    generation_hit h =
        let vs = standing (hist p.log.now (y.number - 1)) in
        generation_at
        ∙ earliest_of_hit (of_generation range generation) (put_entry y) vs
        (earliest_none (of_generation range generation) vs
        (any_of_none (of_generation range generation) vs
        (sym (same_of range generation (put_entry y) vs h) ∙ first_free (record_at p.log.now (y.number - 1)) (hist p.log.now (y.number - 1)) first_at)))
        h

  -- any other leaves the first as it is, whatever its bucket
  miss_go : {p : Past} {y : Taken} → IsTaken p y → of_generation range generation (put_entry y) ≡ false → (o : Option Entry)
      → new_value (record_at p.log.now (y.number - 1)) (hist p.log.now (y.number - 1)) ≡ o
      → earliest_of (of_generation range generation) (standing (record_at p.log.now (y.number - 1) ∷ hist p.log.now (y.number - 1)))
      ≡ earliest_of (of_generation range generation) (standing (hist p.log.now (y.number - 1)))
  miss_go {p} {y} t h None e =
      ap (earliest_of (of_generation range generation)) (standing_same (record_at p.log.now (y.number - 1)) (hist p.log.now (y.number - 1)) e)
  miss_go {p} {y} t h (Some v) e =
      let x = record_at p.log.now (y.number - 1) in
      let older = hist p.log.now (y.number - 1) in
      ap (earliest_of (of_generation range generation)) (standing_more x older e)
      ∙ (earliest_ignores (of_generation range generation)).other v (standing older)
      (ap (of_generation range generation) (put_is t (new_puts x older e)) ∙ h)

  pub generation_miss : {p : Past} {y : Taken} → IsTaken p y → of_generation range generation (put_entry y) ≡ false
      → first_at_generation range generation (hist p.log.now y.number) ≡ first_at_generation range generation (hist p.log.now (y.number - 1))
  unfolding first_at_generation first_at_generation_in
  generation_miss {p} {y} t h =
      look_less (first_at_generation range generation) p.log.now y.number t.some
      ∙ miss_go t h (new_value (record_at p.log.now (y.number - 1)) (hist p.log.now (y.number - 1))) refl

  pub generation_end : (log : List ℕ) → first_at_generation range generation (hist log 0) ≡ None
  unfolding first_at_generation first_at_generation_in earliest_of
  generation_end log = ap (earliest_of (of_generation range generation)) (standing_end log refl)

-- ---- the chain of applied indexes

by_marked : (node : ℕ) (n : Node) (cap : ℕ) (x : TraceRecord) (range : ℕ) → by_node node n ≡ true → is_kind 1 x || is_kind 3 x || is_kind 4 x ≡ true
    → x.a ≡ range
    → applied_at cap x n ≡ Some (bucket_by_two cap node range)
by_marked node None cap x range b k r = never b refl
by_marked node (Some m) cap x range b k r = let e : m.0 ≡ node = eqb-true _ _ b in rw (k, r, e)

module _ (cap node range : ℕ) where
  applied_bucket_lem : (x : TraceRecord) (h : History) (v : ℕ) → tells_applied node range x h ≡ Some v → applied_bucket cap x h
      ≡ Some (bucket_by_two cap node range)
  unfolding applied_bucket
  applied_bucket_lem x h v e =
      let t = when_holds (is_by node x && (is_kind 1 x || is_kind 3 x || is_kind 4 x) && eqb x.a range) x.b e in
      let u : is_by node x && (is_kind 1 x || is_kind 3 x || is_kind 4 x) ≡ true = and_left _ (eqb x.a range) t in
      by_marked node x.node cap x range (and_left (is_by node x) (is_kind 1 x || is_kind 3 x || is_kind 4 x) u)
      (and_right (is_by node x) (is_kind 1 x || is_kind 3 x || is_kind 4 x) u)
      (eqb-true _ _ (and_right (is_by node x && (is_kind 1 x || is_kind 3 x || is_kind 4 x)) (eqb x.a range) t))

  pub applied_skip : (log : List ℕ) (k : ℕ) → (In (applied_bucket cap) (bucket_by_two cap node range) log k → ⊥)
      → applied node range (hist log (suc k)) ≡ applied node range (hist log k)
  unfolding applied
  applied_skip log = latest_outside (tells_applied node range) (applied_bucket cap) (bucket_by_two cap node range) log applied_bucket_lem

-- a record tells the applied index of a node and range
abbrev pub tells_of : ℕ → ℕ → TraceRecord → Bool
tells_of node range x = is_by node x && (is_kind 1 x || is_kind 3 x || is_kind 4 x) && eqb x.a range

-- what the record that is found tells
abbrev pub told_index : Option Taken → Option ℕ
told_index o = option_map (λ y. (decode y.record.now).b) o

module _ (node range : ℕ) {p : Past} {y : Taken} (t : IsTaken p y) where
  tells_at : (b : Bool) → tells_of node range (decode y.record.now) ≡ b → tells_of node range (record_at p.log.now (y.number - 1)) ≡ b
  tells_at b e = ap (tells_of node range) (record_taken t) ∙ e

  pub applied_hit : tells_of node range (decode y.record.now) ≡ true → told_index (Some y) ≡ applied node range (hist p.log.now y.number)
  unfolding applied
  applied_hit h =
      sym (latest_found (tells_applied node range) p.log.now t.some (rw (tells_at true h)) ∙ ap (λ (x : TraceRecord). Some x.b) (record_taken t))

  pub applied_miss : tells_of node range (decode y.record.now) ≡ false
      → applied node range (hist p.log.now y.number) ≡ applied node range (hist p.log.now (y.number - 1))
  unfolding applied
  applied_miss h = latest_passed (tells_applied node range) p.log.now t.some (rw (tells_at false h))

pub applied_end : (node range : ℕ) (log : List ℕ) → applied node range (hist log 0) ≡ None
unfolding applied
applied_end node range log = latest_end (tells_applied node range) log refl
