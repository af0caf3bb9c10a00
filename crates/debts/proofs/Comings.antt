-- Laws of what the walks find: the latest cancel, the recorded index and the traced RangeSplit as of a record, and what a node
-- owes by one split.
use mathlib.Core.Path.{◌≡◌, refl, sym, ap, ◌∙◌}
use mathlib.Core.Bool.{Bool, true, false, not, ◌&&◌, ◌||◌}
use mathlib.Core.List.{List}
use mathlib.Core.Logic.{inl, inr}
use Rattle.std.specs.Prelude.{Option, None, Some, MatchOption}
use Prim.Native.Nat.{ℕ, zero, suc, ◌-◌, ◌≤◌, ◌<◌, max}
use native.Mathlib.Omega.{arith}
use lib.Dec.{eqb, leb, ltb}
use borrow.Author.Tests.{ltb-true, ltb-false, le-ltb, le-leb, lt-leb, ne_eqb}
use Rattle.record.specs.Records.{TraceRecord, decode}
use Rattle.rules.specs.History.{History, is_kind, is_by, is_some, any_of}
use Rattle.rules.specs.RightHalf.{server_of, is_restated, cancels}
use Rattle.history.specs.Logs.{record_at, hist}
use Rattle.history.specs.Pasts.{taken, IsTaken, IsFound, number_of}
use Rattle.history.specs.declared.past.Past.{Past}
use Rattle.history.specs.declared.walk.Taken.{Taken}
use Rattle.history.proofs.Logs.{hist_none, record_bytes}
use Rattle.one_owner_per_key.specs.Numbers.{latest_number}
use Rattle.record.proofs.Booleans.{decide}
use Rattle.one_owner_per_key.proofs.Latest.{passes_at, number_none, number_bound, at_hit, at_miss}
use Rattle.one_owner_per_key.proofs.Checks.{some_number}
use Rattle.debts.specs.declared.owed.Asked.TheVariants.{Removed, Traced, Recording}
use Rattle.splits.specs.Numbers.{refuses, refused_number}
use Rattle.debts.specs.Walk.{cancel_number, asks, comes, above, reached, traced, applied_first, owes_first, owes_split}
use Rattle.splits.specs.Splits.{parent_by}

-- ---- of two tests

module _ (t p q : TraceRecord → History → Bool) (e : (x : TraceRecord) (h : History) → t x h ≡ p x h || q x h) (log : List ℕ) where
  either_step : (n : ℕ) (u v : Bool) → passes_at p log n ≡ u → passes_at q log n ≡ v
      → latest_number t (hist log n) ≡ max (latest_number p (hist log n)) (latest_number q (hist log n))
      → latest_number t (hist log (suc n)) ≡ max (latest_number p (hist log (suc n))) (latest_number q (hist log (suc n)))
  either_step n true v f g i =
      let a = at_hit t log n (e (record_at log n) (hist log n) ∙ ap (λ (b : Bool). b || passes_at q log n) f) in
      omega (arith, a, at_hit p log n f, number_bound q log (suc n))
  either_step n false true f g i =
      let a = at_hit t log n (e (record_at log n) (hist log n) ∙ ap (λ (b : Bool). b || passes_at q log n) f ∙ g) in
      omega (arith, a, at_hit q log n g, number_bound p log (suc n))
  either_step n false false f g i =
      let a = at_miss t log n (e (record_at log n) (hist log n) ∙ ap (λ (b : Bool). b || passes_at q log n) f ∙ g) in
      rw (a, at_miss p log n f, at_miss q log n g) i

  -- the latest that passes either is the later of the two
  pub number_either : (n : ℕ) → latest_number t (hist log n) ≡ max (latest_number p (hist log n)) (latest_number q (hist log n))
  number_either zero = rw (hist_none, number_none t, number_none p, number_none q)
  number_either (suc n) = either_step n (passes_at p log n) (passes_at q log n) refl refl (number_either n)

-- ---- the latest cancel

cancel_cases : (b k a z : Bool) → b && ((k && a) || z) ≡ (b && a && k) || (b && z)
cancel_cases true true true z = refl
cancel_cases true true false z = refl
cancel_cases true false true z = refl
cancel_cases true false false z = refl
cancel_cases false k a z = refl

cancels_either : (node right : ℕ) (x : TraceRecord) (h : History) → cancels node right x ≡ asks Removed node right x h || refuses node x
unfolding asks
cancels_either node right x h = cancel_cases (is_by node x) (is_kind 9 x) (eqb x.a right) (is_kind 10 x)

-- ---- what is found above a floor

above_test : (floor n : ℕ) → not (eqb (above floor n) 0) ≡ ltb floor n
above_test floor n =
    elim (decide (ltb floor n)) [
      | inl t ↦ let z : n ≡ 0 → ⊥ = λ q. omega (arith, q, ltb-true floor n t) in rw (t, ne_eqb n 0 z)
      | inr t ↦ rw t
    ]

-- it is found where the latest is above the floor
pub found_above : (p : Past) (o : Option Taken) → IsFound p o → (floor n : ℕ) → number_of o ≡ above floor n → is_some o ≡ ltb floor n
found_above p o t floor n e = some_number p o t ∙ ap (λ (k : ℕ). not (eqb k 0)) e ∙ above_test floor n

module _ (p : Past) (top node : ℕ) {refused : ℕ} (f : refused ≡ refused_number node (hist p.log.now top)) where
  module _ (right : ℕ) where
    abbrev removed : ℕ
    removed = latest_number (asks Removed node right) (hist p.log.now top)

    cancel_is : cancel_number node right (hist p.log.now top) ≡ max removed (refused_number node (hist p.log.now top))
    cancel_is =
        number_either (λ x _. cancels node right x) (asks Removed node right) (λ x _. refuses node x) (cancels_either node right) p.log.now top

    pub cancel_found : (o : Option Taken) → IsFound p o → number_of o ≡ above refused removed → {k : ℕ} {Gives : Taken → Type 0}
        → ((y : Taken) → Gives y → k ≡ y.number) → MatchOption o (k ≡ refused) Gives → k ≡ cancel_number node right (hist p.log.now top)
    cancel_found None t e calls m = omega (arith, m, cancel_is, f, ltb-false refused removed (sym (found_above p None t refused removed e)))
    cancel_found (Some y) t e calls m =
        let q : ltb refused removed ≡ true = sym (found_above p (Some y) t refused removed e) in
        let i : y.number ≡ removed = rw q at e in
        omega (arith, calls y m, cancel_is, f, ltb-true refused removed q, i)

  -- ---- at the registering record

  module _ (parent index : ℕ) where
    abbrev recording : ℕ
    recording = latest_number (asks Recording node parent) (hist p.log.now top)

    pub reached_found : (o : Option Taken) → IsFound p o → number_of o ≡ above refused recording → {b : Bool} {Gives : Taken → Type 0}
        → ((y : Taken) → Gives y → b ≡ leb index (decode y.record.now).c) → MatchOption o (b ≡ false) Gives
        → b ≡ reached p.log.now top node parent index
    unfolding reached
    reached_found None t e calls m = let q : ltb refused recording ≡ false = sym (found_above p None t refused recording e) in m ∙ rw (← f, q)
    reached_found (Some y) t e calls m =
        let q : ltb refused recording ≡ true = sym (found_above p (Some y) t refused recording e) in
        let i : y.number ≡ recording = rw q at e in
        calls y m ∙ ap (λ (x : TraceRecord). leb index x.c) (record_bytes p.log.now (y.number - 1) t.bytes) ∙ rw (← f, q, ← i)

    pub traced_found : (o : Option Taken) → IsFound p o → number_of o ≡ above refused (latest_number (asks (Traced index) node parent) (hist p.log.now top))
        → is_some o ≡ traced p.log.now top node parent index
    unfolding traced
    traced_found o t e = found_above p o t refused _ e ∙ rw f

module _ (log : List ℕ) (t node : ℕ) (y : TraceRecord) {parent index : ℕ} (ep : parent ≡ parent_by y) (ei : index ≡ y.b) {b : Bool}
    (e : b ≡ reached log t node parent index || traced log t node parent index) where
  by_either : reached log t node (parent_by y) y.b || traced log t node (parent_by y) y.b ≡ b
  by_either = sym (e ∙ rw (ep, ei))

  pub first_early : b ≡ true → b ≡ applied_first log t node y
  unfolding applied_first
  first_early z = rw (by_either, z)

  pub first_itself : b ≡ false → {m v : Bool} → m ≡ is_restated node (hist log t) → v ≡ is_by node y && is_kind 2 y && not m && leb y.b y.c
      → v ≡ applied_first log t node y
  unfolding applied_first
  first_itself z em g = g ∙ rw (em, by_either, z)

-- ---- by one split

module _ (log : List ℕ) (t node : ℕ) (y : TraceRecord) {b : Bool} (e : b ≡ applied_first log t node y) where
  pub owes_first_voter : b ≡ true → {v : Bool} {s : ℕ} → s ≡ (server_of node (hist log t)).0 → v ≡ any_of (λ u. eqb u s) y.voters
      → v ≡ owes_first log t node y
  unfolding owes_first
  owes_first_voter z f g = g ∙ rw (f, ← e, z)

  pub owes_first_none : b ≡ false → b ≡ owes_first log t node y
  unfolding owes_first
  owes_first_none z = rw (← e, z)

pub ruleset owes_first_cases = (owes_first_voter, owes_first_none)

-- s: the record that registers; o: the latest coming above the later of the cancel c and the registering
module _ {p : Past} {s : Taken} (i : IsTaken p s) (node c : ℕ) (o : Option Taken) (found : IsFound p o) {floor : ℕ} (ef : floor ≡ max c s.number)
    (e : number_of o ≡ above floor
    (latest_number (comes node (parent_by (decode s.record.now)) (decode s.record.now).b (decode s.record.now).voters) (taken p))) where
  abbrev t : ℕ
  t = s.number - 1

  abbrev coming : TraceRecord → ℕ
  coming y = latest_number (comes node (parent_by y) y.b y.voters) (taken p)

  here : decode s.record.now ≡ record_at p.log.now t
  here = record_bytes p.log.now t i.bytes

  coming_is : is_some o ≡ ltb (max c (suc t)) (coming (record_at p.log.now t))
  coming_is =
      let q : floor ≡ max c (suc t) = omega (arith, ef, i.some) in
      found_above p o found floor _ e ∙ ap (λ (n : ℕ). ltb n (coming (decode s.record.now))) q ∙ ap (λ (y : TraceRecord). ltb (max c (suc t)) (coming y)) here

  pub owes_coming : {b : Bool} → b ≡ is_some o → b ≡ true → b ≡ owes_split p.log.now p.count node t c
  unfolding owes_split
  owes_coming q z = rw (← coming_is, ← q, z)

  pub owes_cancelled : {b : Bool} → b ≡ is_some o → b ≡ false → s.number ≤ c → ltb c s.number ≡ owes_split p.log.now p.count node t c
  unfolding owes_split
  owes_cancelled q z l = rw (le-ltb c s.number l, ← coming_is, ← q, z, lt-leb c t (omega (arith, i.some)))

  pub owes_at_first : {b v : Bool} → b ≡ is_some o → b ≡ false → c < s.number → v ≡ owes_first p.log.now t node (decode s.record.now)
      → v ≡ owes_split p.log.now p.count node t c
  unfolding owes_split
  owes_at_first q z l g = g ∙ ap (owes_first p.log.now t node) here ∙ rw (← coming_is, ← q, z, le-leb c t (omega arith))
