-- Laws of the split by which a node comes to owe: which registered one it is, kind by kind, and where it is found.
use mathlib.Core.Path.{◌≡◌, refl, sym, ap, ◌∙◌}
use mathlib.Core.Bool.{Bool, true, false, cond, not, ◌&&◌, ◌||◌}
use mathlib.Core.List.{List, ◌∷◌}
use Rattle.std.specs.Prelude.{Option, None, Some, IfSome}
use Rattle.std.specs.Option.{option_map}
use Rattle.std.proofs.lemmas.Option.{same_Some}
use Rattle.std.proofs.lemmas.Map.Entries.{option_filter}
use Prim.Native.Nat.{ℕ, ◌-◌, ◌≤◌, ◌<◌}
use native.Mathlib.Omega.{arith}
use native.Mathlib.Decide.{ℕ_discrete, dec_lt}
use lib.Dec.{eqb, leb}
use borrow.Author.Tests.{eqb-true, ltb-true, ltb-false, le-ltb}
use Rattle.record.specs.declared.named.ServerId.{ServerId}
use Rattle.record.specs.declared.named.ApplyEffect.TheVariants.{Took}
use Rattle.record.specs.Records.{TraceRecord}
use Rattle.rules.specs.History.{is_kind, is_by, when, given, is_some, holds, any_of}
use Rattle.rules.specs.GenerationsRise.{has_effect}
use Rattle.rules.specs.RightHalf.{Registered, server_of, is_restated, is_split, registered, registers, has_applied, reaches, is_voter, own_debt, owes_by_registering, registering_debt, cancels, debt_at, owes}
use Rattle.record.proofs.Booleans.{never, and_left, and_right, both, none_some}
use Rattle.rules.proofs.Members.{Mem, any_of_none}
use Rattle.rules.proofs.OwnDebts.{own_kinds}
use Rattle.rules.proofs.Placed.{Answer, placed_mem, latest_none}
use Rattle.rules.proofs.Best.{Greatest, greatest_of_right}
use Rattle.rules.proofs.Debts.{owes_nil, owes_cancelled, owes_arises, owes_kept}
use Rattle.rules.proofs.Once.{splits_one}
use Rattle.rules.proofs.Applied.{only_split}
use Rattle.history.specs.declared.past.Past.{Past}
use Rattle.history.specs.Logs.{record_at, hist}
use Rattle.history.specs.Pasts.{Indexed}
use Rattle.history.proofs.Logs.{hist_none, hist_less}
use Rattle.one_owner_per_key.proofs.Latest.{number_bound, number_is, number_over}
use Rattle.splits.specs.declared.split.Split.{Split}
use Rattle.splits.specs.declared.walk.Splits.{Splits}
use Rattle.splits.specs.Columns.{Known}
use Rattle.splits.specs.Numbers.{is_registering, latest_registering, registers_as, split_number, named_number}
use Rattle.splits.specs.Splits.{split_with}
use Rattle.splits.specs.Walk.{split_of, number_by, AreSplit, Goes}
use Rattle.splits.proofs.Finding.{OnSplits, split_on, next_is}
use Rattle.splits.proofs.Splits.{known_is}
use Rattle.splits.proofs.Registered.{registered_place, place_registered, split_is}
use Rattle.debts.specs.Walk.{owes_first}
use Rattle.debts.specs.Debts.{is_right, has_voter, is_applied, is_covered, applied_split, covered_split, first_split, is_above}
use Rattle.debts.proofs.Owing.{first_debt, first_early}

-- ---- the split that a RangeSplit or a Took applies: the one registered of its range and index

abbrev pub voted : ℕ → ℕ → Split → Bool
voted right server s = is_right right (split_of s) && has_voter server (split_of s)

module _ (log : List ℕ) (at right server : ℕ) where
  abbrev x : TraceRecord
  x = record_at log at

  applied_none : 0 ≡ split_number x.a x.b (hist log at) → None ≡ applied_split log at right server
  applied_none e =
      let q : any_of (is_split x.a x.b) (registered (hist log at)) ≡ false = known_is x.a x.b (hist log at) ∙ rw (← e) in
      sym (latest_none (is_applied x right server) (registered (hist log at))
      (λ u m. rw (any_of_none (is_split x.a x.b) (registered (hist log at)) q u m)))

  applied_one : {k : ℕ} (s : Registered) → k ≡ split_number x.a x.b (hist log at) → 0 < k → registers (record_at log (k - 1)) (hist log (k - 1)) ≡ Some s
      → applied_split log at right server ≡ cond (is_right right s && has_voter server s) (Some s) None
  applied_one {k} s e l r =
      let h : registers_as x.a x.b (record_at log (k - 1)) (hist log (k - 1)) ≡ true =
      rw e (number_is (registers_as x.a x.b) log at (omega (arith, e, l))) in
      only_split (hist log at) x.a x.b s (place_registered log at (k - 1) (omega (arith, e, number_bound (registers_as x.a x.b) log at)) r)
      (ap (holds (is_split x.a x.b)) (sym r) ∙ h) (is_right right) (has_voter server)

  then_split : (b : Bool) (s : Split) → option_map split_of (cond b (Some s) None) ≡ cond b (Some (split_of s)) None
  then_split true s = refl
  then_split false s = refl

pub applied_is : (p : Past) → Indexed Known p → (at right server : ℕ) (o : Option Split) {r : Option Split} → AreSplit p o
    → number_by o ≡ split_number (record_at p.log.now at).a (record_at p.log.now at).b (hist p.log.now at)
    → r ≡ option_filter (voted right server) o → option_map split_of r ≡ applied_split p.log.now at right server
applied_is p ix at right server None i n e = rw e (applied_none p.log.now at right server n)
applied_is p ix at right server (Some s) i n e =
    rw e (then_split p.log.now at right server (voted right server s) s ∙ sym (applied_one p.log.now at right server (split_of s) n i.some (i.is ix)))

-- ---- the split with the greatest index that a RangeDescriptor x has applied

-- one that is no better than another is not above what that one is above
above_less : (best : Option Registered) (s t : Registered) → is_above best s ≡ true → is_above best t ≡ false → is_above (Some s) t ≡ false
above_less None s t e f = never refl f
above_less (Some b) s t e f =
    let l = ltb-true b.index s.index e in
    let m = ltb-false b.index t.index f in
    le-ltb s.index t.index (omega arith)

not_above : (best : Option Registered) (s : Registered) → is_above best s ≡ false → (b : Registered) × (best ≡ Some b) × (s.index ≤ b.index)
not_above None s e = never refl e
not_above (Some b) s e = (b, refl, ltb-false b.index s.index e)

-- a walk over the splits that the first n records registered stands before place i: best is one of them that x has applied, and of
-- those from i on none is above it
pub record Covering (log : List ℕ) (n : ℕ) (x : TraceRecord) (right server i : ℕ) (best : Option Registered) : Type 0 where
  pub within : i ≤ n
  pub sound : IfSome best (λ s. Mem s (registered (hist log n)) × (is_covered x right server s ≡ true))
  pub done : (t : ℕ) (s : Registered) → i ≤ t → t < n → registers (record_at log t) (hist log t) ≡ Some s → is_covered x right server s ≡ true
      → is_above best s ≡ false

module _ (log : List ℕ) (n : ℕ) (x : TraceRecord) (right server : ℕ) where
  -- a registering record is not above the latest
  over : {k i t : ℕ} {s : Registered} → i ≡ latest_registering (hist log k) → i ≤ t → t < k → registers (record_at log t) (hist log t) ≡ Some s → ⊥
  over {k} {t = t} e a b r = let o = number_over is_registering log k t b (ap is_some r) in omega (arith, o, e)

  pub cover_first : {i : ℕ} → i ≡ latest_registering (hist log n) → Covering log n x right server i None
  cover_first e = record {
    within = omega (arith, e, number_bound is_registering log n);
    sound = tt;
    done = λ t s a b r h. absurd (over e a b r);
  }

  module _ {i j : ℕ} {best : Option Registered} {s : Registered} (o : 0 < i) (w : Covering log n x right server i best)
      (r : registers (record_at log (i - 1)) (hist log (i - 1)) ≡ Some s) (ej : j ≡ latest_registering (hist log (i - 1))) where
    -- those from j on: none is between j and i - 1
    from : (new : Option Registered) → (is_covered x right server s ≡ true → is_above new s ≡ false)
        → ((u : Registered) → is_above best u ≡ false → is_above new u ≡ false)
        → (t : ℕ) (u : Registered) → j ≤ t → t < n → registers (record_at log t) (hist log t) ≡ Some u → is_covered x right server u ≡ true
        → is_above new u ≡ false
    from new f g t u a b q h =
        elim (ℕ_discrete t (i - 1)) [
          | yes z ↦
              let y : s ≡ u = same_Some s u (sym r ∙ (rw z at q)) in
              ap (is_above new) (sym y) ∙ f (ap (is_covered x right server) y ∙ h)
          | no z ↦
              elim (dec_lt t (i - 1)) [
                | yes c ↦ absurd (over ej a c q)
                | no c ↦ g u (w.done t u (omega arith) b q h)
              ]
        ]

    next_within : j ≤ n
    next_within = omega (arith, w.within, ej, number_bound is_registering log (i - 1))

    pub cover_new : is_above best s ≡ true → is_covered x right server s ≡ true → Covering log n x right server j (Some s)
    cover_new e f = record {
      within = next_within;
      sound = (place_registered log n (i - 1) (omega (arith, w.within)) r, f);
      done = from (Some s) (λ h. le-ltb s.index s.index (omega arith)) (λ u. above_less best s u e);
    }

    pub cover_kept : (is_covered x right server s ≡ true → is_above best s ≡ false) → Covering log n x right server j best
    cover_kept f = record { within = next_within; sound = w.sound; done = from best f (λ u e. e) }

-- .. and in a turn of the walk
module _ (p : Past) (ix : Indexed Known p) (n : ℕ) (x : TraceRecord) (right server : ℕ) {best : Option Registered} {w v : Splits} {s : Split} (o : OnSplits p w)
    (e : Goes w s v) (c : Covering p.log.now n x right server w.next best) where
  at_turn : registers (record_at p.log.now (w.next - 1)) (hist p.log.now (w.next - 1)) ≡ Some (split_of s)
  at_turn = rw (← e.number) ((split_on p o e).is ix)

  pub turn_new : true ≡ is_above best (split_of s) → true ≡ is_covered x right server (split_of s)
      → Covering p.log.now n x right server v.next (Some (split_of s))
  turn_new a b = cover_new p.log.now n x right server e.some c at_turn (next_is p o e ix) (sym a) (sym b)

  pub turn_kept : (true ≡ is_covered x right server (split_of s) → false ≡ is_above best (split_of s)) → Covering p.log.now n x right server v.next best
  turn_kept f = cover_kept p.log.now n x right server e.some c at_turn (next_is p o e ix) (λ h. sym (f (sym h)))

-- .. and at its end
module _ (log : List ℕ) (n : ℕ) (x : TraceRecord) (right server : ℕ) where
  -- two that pass and have the same index are one
  covered_parent : (s : Registered) → is_covered x right server s ≡ true → s.parent ≡ x.a
  covered_parent s e =
      eqb-true s.parent x.a
      (and_left (eqb s.parent x.a) _
      (and_left (eqb s.parent x.a && leb s.index x.c) _
      (and_left (eqb s.parent x.a && leb s.index x.c && is_right right s) _ e)))

  abbrev test : Registered → Bool
  test = is_covered x right server

  end_cases : (best g : Option Registered) → Covering log n x right server 0 best
      → Answer (Greatest (λ s. s.index) test (registered (hist log n))) test (registered (hist log n)) g → best ≡ g
  end_cases None None w a = refl
  end_cases (Some b) None w a = never w.sound.1 (a b w.sound.0)
  end_cases best (Some g) w a =
      let m = placed_mem a.place in
      let c = registered_place log n m in
      let d = not_above best g (w.done c.at g (omega arith) c.before c.is a.place.passes) in
      let v : Mem d.0 (registered (hist log n)) × (test d.0 ≡ true) = rw d.1 at w.sound in
      let q = a.most d.0 v.0 v.1 in
      d.1 ∙ ap Some (splits_one (hist log n) d.0 g v.0 m (covered_parent d.0 v.1 ∙ sym (covered_parent g a.place.passes)) (omega (arith, q, d.2)))

pub cover_end : (log : List ℕ) (n right server : ℕ) {x : TraceRecord} {i : ℕ} {best : Option Registered} → 0 < n → x ≡ record_at log (n - 1) → i ≡ 0
    → Covering log n x right server i best → best ≡ covered_split log (n - 1) right server
cover_end log n right server {x} {i} {best} l e z w =
    let w' : Covering log n x right server 0 best = rw z at w in
    rw (← hist_less log n l, ← e) (end_cases log n x right server best _ w'
    (greatest_of_right (λ s. s.index) (is_covered x right server) (registered (hist log n))))

-- ---- a node's own record: a RangeSplit or a Took, or a RangeDescriptor that records

module _ (log : List ℕ) (at node right : ℕ) where
  abbrev own : Option Registered
  own = own_debt node right (record_at log at) (hist log at)

  module _ {x : TraceRecord} (y : x ≡ record_at log at) where
    pub own_other : is_by node x ≡ false → None ≡ own
    own_other b = sym (own_kinds node right (record_at log at) (hist log at) ∙ rw (← y, b))

    module _ (b : is_by node x ≡ true) {server : ServerId} (s : server ≡ server_of node (hist log at)) where
      own_is : (t d : Bool) → is_kind 7 x || has_effect Took x ≡ t → is_kind 2 x && not (is_restated node (hist log at)) ≡ d
          → own ≡ cond t (applied_split log at right server.0) (cond d (covered_split log at right server.0) None)
      own_is t d e f = own_kinds node right (record_at log at) (hist log at) ∙ rw (s, ← y, b, e, f)

      pub own_applied : {o : Option Registered} → is_kind 7 x || has_effect Took x ≡ true → o ≡ applied_split log at right server.0 → o ≡ own
      own_applied e w = w ∙ sym (own_is true _ e refl)

      module _ (e : is_kind 7 x || has_effect Took x ≡ false) where
        pub own_covered : {o : Option Registered} → is_kind 2 x && not (is_restated node (hist log at)) ≡ true
            → o ≡ covered_split log at right server.0 → o ≡ own
        own_covered f w = w ∙ sym (own_is false true e f)

        pub own_neither : is_kind 2 x && not (is_restated node (hist log at)) ≡ false → None ≡ own
        own_neither f = sym (own_is false false e f)

  -- ---- the split s that the record registers

  pub first_is : {x : TraceRecord} {s : Registered} {b : Bool} → x ≡ record_at log at → Some s ≡ registers (record_at log at) (hist log at)
      → is_right right s && owes_first log at node x ≡ b → when b s ≡ first_split log at node right
  first_is y r e = rw (← r, ← y, e)

  -- ---- the debt that arises: the node's own record's, else the registering's

  pub debt_own : {s : Registered} → Some s ≡ own → Some s ≡ debt_at node right (record_at log at) (hist log at)
  unfolding debt_at
  debt_own e = rw (← e)

  -- where the node's own record makes nothing owed, the registering does by `owes_first`
  module _ (no : None ≡ own) where
    debt_is : debt_at node right (record_at log at) (hist log at) ≡ registering_debt node right (record_at log at) (hist log at)
    unfolding debt_at
    debt_is = rw (← no)

    when_on : (b : Bool) (s : Registered) → is_some (when b s) ≡ true → b ≡ true
    when_on true s e = refl
    when_on false s e = e

    -- by owing, of the split that is registered
    module _ (s : Registered) (r : registers (record_at log at) (hist log at) ≡ Some s) where
      abbrev m : ℕ
      m = named_number (record_at log at) (hist log at)

      e : split_with log (record_at log at) m ≡ s
      e = split_is log (record_at log at) at s r

      r' : registers (record_at log at) (hist log at) ≡ Some (split_with log (record_at log at) m)
      r' = r ∙ ap Some (sym e)

      first_by : is_right right s && owes_first log at node (record_at log at) ≡ true → owes_by_registering node right (hist log at) s ≡ true
      first_by q =
          let a : s.right ≡ right = eqb-true s.right right (and_left (is_right right s) _ q) in
          let d = first_debt log at node (record_at log at) m r' (and_right (is_right right s) _ q) in
          let d' : is_some (debt_at node right (record_at log at) (hist log at)) ≡ true =
          ap (λ (k : ℕ). is_some (debt_at node k (record_at log at) (hist log at))) (sym a ∙ ap (λ (z : Registered). z.right) (sym e)) ∙ d in
          when_on (owes_by_registering node right (hist log at) s) s
          (ap (λ (o : Option Registered). is_some (given (λ u. when (owes_by_registering node right (hist log at) u) u) o)) (sym r) ∙ ap is_some (sym debt_is)
          ∙ d')

      by_first : owes_by_registering node right (hist log at) s ≡ true → is_right right s && owes_first log at node (record_at log at) ≡ true
      by_first q =
          let p =
          and_left (eqb s.right right && is_voter node (hist log at) s)
          (has_applied node s.parent s.index (hist log at) || reaches node s (hist log at)) q in
          let h =
          and_right (eqb s.right right && is_voter node (hist log at) s)
          (has_applied node s.parent s.index (hist log at) || reaches node s (hist log at)) q in
          both (and_left (eqb s.right right) _ p)
          (first_early log at node (record_at log at) m r' (ap (is_voter node (hist log at)) e ∙ and_right (eqb s.right right) _ p)
          (ap (λ (z : Registered). has_applied node z.parent z.index (hist log at) || reaches node z (hist log at)) e ∙ h))

      same_test : (a b : Bool) → (a ≡ true → b ≡ true) → (b ≡ true → a ≡ true) → a ≡ b
      same_test true b f g = sym (f refl)
      same_test false true f g = g refl
      same_test false false f g = refl

      by_same : owes_by_registering node right (hist log at) s ≡ is_right right s && owes_first log at node (record_at log at)
      by_same = same_test (owes_by_registering node right (hist log at) s) (is_right right s && owes_first log at node (record_at log at)) by_first first_by

    registering_cases : (o : Option Registered) → registers (record_at log at) (hist log at) ≡ o
        → given (λ s. when (owes_by_registering node right (hist log at) s) s) o
        ≡ given (λ s. when (is_right right s && owes_first log at node (record_at log at)) s) o
    registering_cases None r = refl
    registering_cases (Some s) r = ap (λ (b : Bool). when b s) (by_same s r)

    pub debt_first : {o : Option Registered} → o ≡ first_split log at node right → o ≡ debt_at node right (record_at log at) (hist log at)
    debt_first e = e ∙ sym (debt_is ∙ registering_cases (registers (record_at log at) (hist log at)) refl)

-- ---- what is owed: a walk down stands at i, and what is owed after n records was owed after i

abbrev pub Owes : List ℕ → ℕ → ℕ → ℕ → ℕ → Type 0
Owes log node right n i = (s : Registered) → owes node right (hist log n) ≡ Some s → owes node right (hist log i) ≡ Some s

module _ (log : List ℕ) (node right n : ℕ) where
  -- the record before i, at place k: it cancelled nothing, and what is owed is the debt that arises there, or else was owed before
  module _ {i k : ℕ} (l : 0 < i) (q : k ≡ i - 1) (w : Owes log node right n i) where
    abbrev arising : Option Registered
    arising = debt_at node right (record_at log k) (hist log k)

    owes_here : (s : Registered) → owes node right (hist log n) ≡ Some s → owes node right (record_at log k ∷ hist log k) ≡ Some s
    owes_here s e = rw (q, ← hist_less log i l) (w s e)

    kept : (s : Registered) → owes node right (hist log n) ≡ Some s → (b : Bool) → cancels node right (record_at log k) ≡ b
        → cancels node right (record_at log k) ≡ false
    kept s e true c = none_some (sym (owes_cancelled node right (record_at log k) (hist log k) c) ∙ owes_here s e)
    kept s e false c = c

    pub owes_next : None ≡ arising → Owes log node right n (i - 1)
    owes_next d s e = rw (← q) (sym (owes_kept node right (record_at log k) (hist log k) (kept s e _ refl) (sym d)) ∙ owes_here s e)

    pub owes_found : {t : Registered} → Some t ≡ arising → (s : Registered) → owes node right (hist log n) ≡ Some s → Some t ≡ Some s
    owes_found {t} d s e = sym (owes_arises node right (record_at log k) (hist log k) t (kept s e _ refl) (sym d)) ∙ owes_here s e

  pub owes_end : {i : ℕ} → i ≡ 0 → Owes log node right n i → (s : Registered) → owes node right (hist log n) ≡ Some s → None ≡ Some s
  owes_end z w s e = sym (owes_nil node right) ∙ rw (← hist_none log, ← z) (w s e)
