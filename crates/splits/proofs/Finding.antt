-- Laws of the splits that are found: what is read of the record that registered one, where one is found by its parent and index,
-- and the walk over all of them.
use mathlib.Core.Path.{◌≡◌, refl, sym, ap, subst, ◌∙◌}
use mathlib.Core.Bool.{Bool, true, false, cond, ◌&&◌}
use mathlib.Core.List.{List}
use mathlib.Core.Logic.{inl, inr}
use Prim.Native.Nat.{ℕ, zero, suc, ◌+◌, ◌-◌, ◌*◌, ◌%◌, ◌≤◌, ◌<◌}
use lib.ListN.{get_or}
use native.Mathlib.Omega.{arith}
use native.Mathlib.Decide.{ℕ_discrete, dec_lt}
use lib.Dec.{eqb, leb}
use borrow.Author.Tests.{leb-true, le-leb, lt-ltb, le-ltb}
use denote.Param.Members.{Mut}
use denote.Ref.{Bor}
use Rattle.std.specs.Prelude.{Option, None, Some, IfSome}
use Rattle.std.specs.Option.{option_map}
use Rattle.std.specs.Fn.{CalledAt}
use Rattle.std.specs.Iterator.{FindsItem}
use Rattle.record.specs.Records.{TraceRecord, decode}
use Rattle.std.proofs.lemmas.Option.{same_Some}
use Rattle.record.proofs.Booleans.{none_some, never, decide, and_left, and_right}
use Rattle.rules.specs.Answers.{found_at}
use Rattle.rules.specs.History.{is_some, holds}
use Rattle.rules.specs.RightHalf.{pending_by, uses_up, created_split, Registered, is_split, registers}
use Rattle.history.specs.declared.past.Past.{Past}
use Rattle.history.specs.declared.walk.Chain.{Chain}
use Rattle.history.specs.declared.walk.Taken.{Taken}
use Rattle.history.specs.Columns.{clamp}
use Rattle.history.specs.Logs.{record_at, hist}
use Rattle.history.specs.Pasts.{taken, Indexed, IsTaken, IsFound, Begins, Steps, number_of}
use Rattle.history.specs.Places.{split_heads, split_links}
use Rattle.history.proofs.Finds.{Tests}
use Rattle.history.proofs.Logs.{record_bytes}
use Rattle.one_owner_per_key.proofs.Founds.{up_to_by, find_latest}
use Rattle.one_owner_per_key.proofs.Latest.{passes_at, number_is, number_over}
use Rattle.one_owner_per_key.proofs.Walks.{two_below}
use Rattle.splits.specs.declared.split.Split.{Split}
use Rattle.splits.specs.declared.walk.Splits.{Splits}
use Rattle.splits.specs.Columns.{Known, registering_in, named_in, split_bucket}
use Rattle.splits.specs.Numbers.{pending_number, is_registering, latest_registering, registers_as, split_number, names_number, named_number}
use Rattle.splits.specs.Splits.{parent_by, right_named}
use Rattle.splits.specs.Walk.{split_of, number_by, IsSplit, AreSplit, UpTo, Goes}
use Rattle.splits.specs.Walk as walk
use Rattle.splits.proofs.Noting.{registering_read, named_read}
use Rattle.splits.proofs.Registered.{named_bound, named_split}
use Rattle.splits.proofs.Splits.{names_none, names_pending, by_split_lem, split_passes, split_test, registers_as_lem}
use Rattle.std.proofs.lemmas.Map.Entries.{option_filter}

-- ---- what was found, by its number

pub split_none : (o : Option Split) → is_some o ≡ false → number_by o ≡ 0
split_none None e = refl
split_none (Some s) e = never refl e

pub split_some : (p : Past) (o : Option Split) → AreSplit p o → is_some o ≡ true → number_by o ≡ 0 → ⊥
split_some p None i e z = never e refl
split_some p (Some s) i e z = omega (arith, i.some, z)

-- a number that is answered, and none
pub found_none_is : (k : ℕ) → None ≡ found_at k → k ≡ 0
found_none_is zero e = refl
found_none_is (suc k) e = none_some e

pub found_some_is : (k m : ℕ) → Some m ≡ found_at k → (m ≡ k) × (m ≡ 0 → ⊥)
found_some_is zero m e = none_some (sym e)
found_some_is (suc k) m e = let q : m ≡ suc k = same_Some m (suc k) e in (q, λ z. omega (arith, q, z))

-- ---- what a record registered, by the record that names its right range

module _ (p : Past) {old : Taken} (t : IsTaken p old) {m : ℕ} (em : m ≡ named_in p.work.now p.cap (old.number - 1)) where
  abbrev k : ℕ
  k = old.number - 1

  named_here : Indexed Known p → m ≡ named_number (record_at p.log.now k) (hist p.log.now k)
  named_here ix = em ∙ named_read p.log.now ix.1.registered p.within p.small k (omega (arith, t.some, t.within))

  -- a number of a record taken, or 0
  clamp_is : m ≤ p.count → clamp m p.count ≡ m
  clamp_is l = rw (le-ltb p.count m l)

  clamped : Indexed Known p → clamp m p.count ≡ m
  clamped ix = clamp_is (omega (arith, named_here ix, named_bound p.log.now (record_at p.log.now k) k, t.some, t.within))

  -- where none names it, it registers nothing
  pub none_registered : 0 ≡ clamp m p.count → Indexed Known p → None ≡ registers (record_at p.log.now k) (hist p.log.now k)
  none_registered e ix =
      let z : named_number (record_at p.log.now k) (hist p.log.now k) ≡ 0 = sym (named_here ix) ∙ sym (clamped ix) ∙ sym e in
      sym (registers_as_lem p.log.now (record_at p.log.now k) k ∙ rw (z))

  pub split_registered : {naming : Taken} {right : ℕ} → IsTaken p naming → naming.number ≡ clamp m p.count
      → right ≡ right_named (decode old.record.now) (decode naming.record.now) → Indexed Known p
      → registers (record_at p.log.now k) (hist p.log.now k) ≡ Some (split_of (record { number = old.number; «record» = old.record; right = right }))
  split_registered {naming} u en er ix =
      let n : naming.number ≡ m = en ∙ clamped ix in
      let y = record_bytes p.log.now k t.bytes in
      let z = record_bytes p.log.now (naming.number - 1) u.bytes in
      named_split p.log.now k (record_at p.log.now k) (named_here ix) (λ q. omega (arith, u.some, n, q))
      ∙ rw (er, y, z, n)

-- ---- the split of a parent and an index

abbrev pub is_of : ℕ → ℕ → TraceRecord → Bool
is_of parent index x = eqb (parent_by x) parent && eqb x.b index

module _ {F : Type 0} {g : Mut F (Bor Taken × Unit {0}) Bool} {f : F} (parent index top : ℕ)
    (calls : Tests (CalledAt g) f (up_to_by top (is_of parent index))) (p : Past) (upto : top ≤ p.count) (ix : Indexed Known p) where
  read : (y : Taken) → IsTaken p y → is_of parent index (decode y.record.now) ≡ is_of parent index (record_at p.log.now (y.number - 1))
  read y t = ap (is_of parent index) (record_bytes p.log.now (y.number - 1) t.bytes)

  pub split_found : (r : Option Taken) (u : Chain) {c : Chain} → Begins p split_heads split_links (split_bucket p.cap parent index) c
      → FindsItem Steps g c f r u
      → number_of r ≡ split_number parent index (hist p.log.now top)
  split_found r u z e =
      find_latest calls (by_split_lem parent index p.cap) top upto ix.1.splits
      (λ y t e l.
      let q : is_of parent index (record_at p.log.now (y.number - 1)) ≡ false = sym (read y t) ∙ (rw (le-leb y.number top l) at e) in
      elim (decide (passes_at (registers_as parent index) p.log.now (y.number - 1))) [
        | inl h ↦ never (split_passes parent index p.log.now (y.number - 1) h) q
        | inr h ↦ h
      ])
      (λ y t i e. record {
        within = leb-true y.number top (and_left (leb y.number top) (is_of parent index (decode y.record.now)) e);
        passes = sym (split_test parent index p.cap p.log.now (y.number - 1) i) ∙ sym (read y t)
            ∙ and_right (leb y.number top) (is_of parent index (decode y.record.now)) e;
      })
      r u refl (two_below p.cap parent index p.positive) z e

-- what is read of the record that was found is the split
module _ (p : Past) (parent index top : ℕ) {old : Taken} (t : IsTaken p old) (n : old.number ≡ split_number parent index (hist p.log.now top)) where
  passes : registers_as parent index (record_at p.log.now (old.number - 1)) (hist p.log.now (old.number - 1)) ≡ true
  passes = rw n (number_is (registers_as parent index) p.log.now top (omega (arith, t.some, n)))

  pub number_found : (r : Option Split) → IfSome r (λ s. s.number ≡ old.number)
      → option_map split_of r ≡ registers (record_at p.log.now (old.number - 1)) (hist p.log.now (old.number - 1))
      → number_by r ≡ split_number parent index (hist p.log.now top)
  number_found None here e = never (ap (holds (is_split parent index)) e ∙ passes) refl
  number_found (Some s) here e = here ∙ n

-- ---- what a record names

abbrev pub uses : TraceRecord → Taken → Bool
uses x y = uses_up x (pending_by (decode y.record.now))

-- its node's pending RangeSplit, if it uses that up
module _ (p : Past) (x : TraceRecord) (node : ℕ) {r : Bool} (e : r ≡ is_some (created_split x)) (t : r ≡ false) where
  pub names_found : (o : Option Taken) {f : Option Taken} → IsFound p o → number_of o ≡ pending_number node (taken p) → f ≡ option_filter (uses x) o
      → option_map (λ y. y.number) f ≡ found_at (names_number node x (taken p))
  names_found None i n g = rw g (names_none p.log.now x p.count node e t n refl)
  names_found (Some y) i n g =
      rw g (then_number (uses x y) ∙ names_pending p.log.now x p.count node e t n (λ z. omega (arith, i.some, z))
      (ap (λ (z : TraceRecord). uses_up x (pending_by z)) (record_bytes p.log.now (y.number - 1) i.bytes)))
    where
      then_number : (b : Bool) → option_map (λ (z : Taken). z.number) (option_filter (λ _. b) (Some y)) ≡ cond b (Some y.number) None
      then_number true = refl
      then_number false = refl

-- ---- the walk over all of them

pub record OnSplits (p : Past) (s : Splits) : Type 0 where
  pub past : s.past ≡ p
  pub within : s.next ≤ p.count
  pub here : Indexed Known p → 0 < s.next → is_registering (record_at p.log.now (s.next - 1)) (hist p.log.now (s.next - 1)) ≡ true

clamp_below : (x n : ℕ) → clamp x n ≤ n
clamp_below x n = elim (dec_lt n x) [ yes l ↦ rw (lt-ltb n x l) (omega arith) | no l ↦ rw (le-ltb n x (omega arith)) (omega arith) ]

registering_below : (work : List ℕ) (cap n : ℕ) → registering_in work cap n ≤ n
registering_below work cap n =
    elim (decide (eqb n 0)) [
      | inl e ↦ rw e (omega arith)
      | inr e ↦ rw e (clamp_below (get_or work (26 * cap + (n - 1)) 0 % 8192) n)
    ]

module _ (p : Past) where
  latest_is : Indexed Known p → {n m : ℕ} → n ≤ p.count → m ≡ registering_in p.work.now p.cap n → m ≡ latest_registering (hist p.log.now n)
  latest_is ix {n} l e = e ∙ registering_read p.log.now ix.1.registered p.within p.small n l

  -- from the latest one of the first n records
  stands : {s : Splits} {n : ℕ} → s.past ≡ p → n ≤ p.count → s.next ≡ registering_in p.work.now p.cap n → OnSplits p s
  stands {s} {n} e l q = record {
    past = e;
    within = omega (arith, l, q, registering_below p.work.now p.cap n);
    here = λ ix o. let m = latest_is ix l q in rw m (number_is is_registering p.log.now n (rw m at o));
  }

  pub on_first : {s : Splits} {n : ℕ} → n ≤ p.count → UpTo p n s → OnSplits p s
  on_first l u = stands u.past l u.next

  pub first_is : Indexed Known p → {s : Splits} {n : ℕ} → n ≤ p.count → UpTo p n s → s.next ≡ latest_registering (hist p.log.now n)
  first_is ix l u = latest_is ix l u.next

  module _ {s : Splits} (o : OnSplits p s) where
    module _ {x : Split} {t : Splits} (e : Goes s x t) where
      next_read : t.next ≡ registering_in p.work.now p.cap (s.next - 1)
      next_read = e.next ∙ ap (λ (q : Past). registering_in q.work.now q.cap (s.next - 1)) o.past

      pub on_next : OnSplits p t
      on_next = stands (e.past ∙ o.past) (omega (arith, o.within)) next_read

      pub next_is : Indexed Known p → t.next ≡ latest_registering (hist p.log.now (s.next - 1))
      next_is ix = latest_is ix (omega (arith, o.within)) next_read

      pub split_on : IsSplit p x
      split_on = subst (λ (q : Past). IsSplit q x) o.past e.split

    -- the walk ends where there is no more
    pub walk_over : (t : Splits) → walk.Steps s None t → Indexed Known p → s.next ≡ 0
    walk_over t e ix = (subst (λ (q : Past). Indexed Known q
        → (0 < s.next → is_registering (record_at q.log.now (s.next - 1)) (hist q.log.now (s.next - 1)) ≡ true) → s.next ≡ 0) o.past e) ix (o.here ix)

-- all that was registered from place i on, up to n, was passed: P holds of it
abbrev pub Passed : (ℕ → Registered → Type 0) → List ℕ → ℕ → ℕ → Type 0
Passed P log n i = (t : ℕ) (s : Registered) → i ≤ t → t < n → registers (record_at log t) (hist log t) ≡ Some s → P t s

pub passed_first : (P : ℕ → Registered → Type 0) (log : List ℕ) (n : ℕ) {i : ℕ} → i ≡ latest_registering (hist log n) → Passed P log n i
passed_first P log n e t s a b r = let o = number_over is_registering log n t b (ap is_some r) in absurd (omega (arith, o, e))

-- one split more, and none between it and the one before it
pub passed_next : {P Q : ℕ → Registered → Type 0} (p : Past) {x : Split} {n i j : ℕ} → IsSplit p x → Indexed Known p → x.number ≡ i → Passed P p.log.now n i
    → ((t : ℕ) (s : Registered) → P t s → Q t s) → Q (x.number - 1) (split_of x) → j ≡ latest_registering (hist p.log.now (i - 1)) → Passed Q p.log.now n j
passed_next {Q = Q} p {x} {i = i} z ix k w more here e t s a b r =
    elim (ℕ_discrete t (i - 1)) [
      | yes q ↦
          let m : t ≡ x.number - 1 = omega (arith, q, k) in
          let same : s ≡ split_of x =
          same_Some _ _ (sym r ∙ ap (λ (l : ℕ). registers (record_at p.log.now l) (hist p.log.now l)) m ∙ z.is ix) in
          subst (λ (v : Registered). Q t v) (sym same) (subst (λ (l : ℕ). Q l (split_of x)) (sym m) here)
      | no q ↦
          elim (dec_lt t (i - 1)) [
            | yes c ↦ let o = number_over is_registering p.log.now (i - 1) t c (ap is_some r) in absurd (omega (arith, o, e))
            | no c ↦ more t s (w t s (omega arith) b r)
          ]
    ]
