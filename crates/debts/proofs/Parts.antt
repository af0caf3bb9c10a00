-- Laws of a node that has no part in a registered split: it owes nothing by it, neither at the registering nor after.
use mathlib.Core.Path.{◌≡◌, refl, sym, ap, ◌∙◌}
use mathlib.Core.Bool.{Bool, true, false, not, ◌&&◌, ◌||◌, and-false}
use mathlib.Core.List.{List}
use mathlib.Core.Logic.{◌⊎◌, inl, inr}
use Rattle.std.specs.Prelude.{Option}
use Prim.Native.Nat.{ℕ, suc, ◌-◌, ◌≤◌, ◌<◌, max}
use native.Mathlib.Omega.{arith}
use native.Mathlib.Decide.{ℕ_discrete}
use lib.Dec.{eqb, leb, ltb}
use borrow.Author.Tests.{eqb-true, ltb-false, le-ltb}
use Rattle.record.specs.declared.named.ApplyEffect.TheVariants.{Took}
use Rattle.record.specs.Records.{TraceRecord}
use Rattle.rules.specs.History.{History, is_kind, is_by, is_some}
use Rattle.rules.specs.GenerationsRise.{has_effect}
use Rattle.rules.specs.RightHalf.{is_restated}
use Rattle.record.proofs.Booleans.{never, decide, and_left, and_right, both, or_cases, or_left}
use Rattle.history.specs.Logs.{record_at, hist}
use Rattle.history.specs.Pasts.{IsFound, number_of}
use Rattle.history.specs.declared.past.Past.{Past}
use Rattle.history.specs.declared.walk.Taken.{Taken}
use Rattle.one_owner_per_key.specs.Numbers.{latest_number}
use Rattle.one_owner_per_key.proofs.Latest.{number_bound, number_is, number_over}
use Rattle.debts.specs.declared.owed.Asked.TheVariants.{Traced, Recording, Applying}
use Rattle.splits.specs.Numbers.{refused_number}
use Rattle.splits.specs.Splits.{parent_by}
use Rattle.one_owner_per_key.proofs.Checks.{some_number}
use Rattle.debts.specs.Walk.{asks, applying, comes, above, reached, traced, has_part, applied_first, owes_first, owes_split}

-- ---- what the code makes of the latest record that can apply a split of the parent

above_all : (n : ℕ) → above 0 n ≡ n
above_all n =
    elim (decide (ltb 0 n)) [
      | inl t ↦ rw t
      | inr t ↦ let z : 0 ≡ n = omega (arith, ltb-false 0 n t) in rw t z
    ]

module _ (log : List ℕ) (n node : ℕ) (y : TraceRecord) {b : Bool} (e : b ≡ is_by node y) where
  pub part_own : b ≡ true → b ≡ has_part log n node y
  unfolding has_part
  part_own z = rw (← e, z)

  pub part_found : (p : Past) (o : Option Taken) {parent : ℕ} → b ≡ false → parent ≡ parent_by y → IsFound p o
      → number_of o ≡ above 0 (latest_number (asks Applying node parent) (hist log n)) → is_some o ≡ has_part log n node y
  unfolding has_part
  part_found p o {parent} z f t g =
      some_number p o t
      ∙ ap (λ (k : ℕ). not (eqb k 0)) (g ∙ above_all (latest_number (asks Applying node parent) (hist log n)))
      ∙ rw (← e, z, f)

-- ---- a record that applies is one that can

can_kind : (a b c : Bool) → (a ≡ true) ⊎ (b || c ≡ true) → a || b || c ≡ true
can_kind a b c (inl e) = rw e
can_kind true b c (inr e) = refl
can_kind false b c (inr e) = e

module _ (node parent : ℕ) (x : TraceRecord) (h : History) where
  can : is_by node x && eqb x.a parent ≡ true → (is_kind 2 x ≡ true) ⊎ (is_kind 7 x || has_effect Took x ≡ true) → asks Applying node parent x h ≡ true
  unfolding asks
  can e k = both e (can_kind (is_kind 2 x) (is_kind 7 x) (has_effect Took x) k)

  recording_can : asks Recording node parent x h ≡ true → asks Applying node parent x h ≡ true
  unfolding asks
  recording_can e = can (and_left (is_by node x && eqb x.a parent) _ e) (inl (and_left (is_kind 2 x) _ (and_right (is_by node x && eqb x.a parent) _ e)))

  traced_can : (index : ℕ) → asks (Traced index) node parent x h ≡ true → asks Applying node parent x h ≡ true
  unfolding asks
  traced_can index e =
      can (and_left (is_by node x && eqb x.a parent) _ e)
      (inr (or_left (is_kind 7 x) (has_effect Took x) (and_left (is_kind 7 x) _ (and_right (is_by node x && eqb x.a parent) _ e))))

  applying_can : (index : ℕ) (m : Bool) → applying index x m ≡ true → (is_kind 2 x ≡ true) ⊎ (is_kind 7 x || has_effect Took x ≡ true)
  applying_can index m e =
      elim (or_cases ((is_kind 7 x || has_effect Took x) && eqb x.b index) (is_kind 2 x && not m && leb index x.c) e) [
        | inl t ↦ inr (and_left (is_kind 7 x || has_effect Took x) _ t)
        | inr t ↦ inl (and_left (is_kind 2 x) (not m) (and_left (is_kind 2 x && not m) _ t))
      ]

  comes_can : (index : ℕ) (voters : List ℕ) → comes node parent index voters x h ≡ true → asks Applying node parent x h ≡ true
  unfolding comes
  comes_can index voters e =
      let w = and_left (is_by node x && eqb x.a parent && applying index x (is_restated node h)) _ e in
      can (and_left (is_by node x && eqb x.a parent) _ w) (applying_can index (is_restated node h) (and_right (is_by node x && eqb x.a parent) _ w))

-- ---- a node without a part

nothing_at : (b : Bool) (k : ℕ) → b || not (eqb k 0) ≡ false → (b ≡ false) × (k ≡ 0)
nothing_at true k e = never refl e
nothing_at false k e = (refl, elim (decide (eqb k 0)) [ inl t ↦ eqb-true k 0 t | inr t ↦ never (ap not t) e ])

module _ (log : List ℕ) (n node : ℕ) (y : TraceRecord) (away : has_part log n node y ≡ false) where
  parted : (is_by node y ≡ false) × (latest_number (asks Applying node (parent_by y)) (hist log n) ≡ 0)
  unfolding has_part
  parted = nothing_at (is_by node y) (latest_number (asks Applying node (parent_by y)) (hist log n)) away

  -- what only such records pass finds nothing, up to there and before
  none_passes : (t : TraceRecord → History → Bool) → ((x : TraceRecord) (h : History) → t x h ≡ true → asks Applying node (parent_by y) x h ≡ true)
      → (m : ℕ) → m ≤ n → latest_number t (hist log m) ≡ 0
  none_passes t can_be m l =
      elim (ℕ_discrete (latest_number t (hist log m)) 0) [
        | yes z ↦ z
        | no z ↦
            let k = latest_number t (hist log m) - 1 in
            let b = number_bound t log m in
            let o =
            number_over (asks Applying node (parent_by y)) log n k (omega arith) (can_be (record_at log k) (hist log k) (number_is t log m (omega arith))) in
            absurd (omega (arith, o, parted.1))
      ]

  part_before : (m : ℕ) → m ≤ n → has_part log m node y ≡ false
  unfolding has_part
  part_before m l = rw (parted.0, none_passes (asks Applying node (parent_by y)) (λ x h e. e) m l)

  reached_away : (index : ℕ) → reached log n node (parent_by y) index ≡ false
  unfolding reached
  reached_away index =
      rw (
        none_passes (asks Recording node (parent_by y)) (recording_can node (parent_by y)) n (omega arith),
        le-ltb (refused_number node (hist log n)) 0
            (omega arith),
      )

  traced_away : (index : ℕ) → traced log n node (parent_by y) index ≡ false
  unfolding traced
  traced_away index =
      rw (none_passes (asks (Traced index) node (parent_by y)) (λ x h. traced_can node (parent_by y) x h index) n (omega arith))
      (le-ltb (refused_number node (hist log n)) 0 (omega arith))

  pub first_away : false ≡ owes_first log n node y
  unfolding owes_first applied_first
  first_away = rw (reached_away y.b, traced_away y.b, parted.0)

-- by the split that the record at place t registers
pub owes_away : (log : List ℕ) (n node t c : ℕ) → t < n → has_part log n node (record_at log t) ≡ false → false ≡ owes_split log n node t c
unfolding owes_split
owes_away log n node t c l away =
    let y = record_at log t in
    let q =
    none_passes log n node y away (comes node (parent_by y) y.b y.voters) (λ x h. comes_can node (parent_by y) x h y.b y.voters) n (omega arith) in
    rw (q, le-ltb (max c (suc t)) 0 (omega arith), ← first_away log t node y (part_before log n node y away t (omega arith))) (sym (and-false (leb c t)))
