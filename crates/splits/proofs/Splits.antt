-- Laws of the splits: the one that a record registers, and the chain in which it is found by parent and index.
use mathlib.Core.Path.{◌≡◌, refl, sym, ap, ◌∙◌}
use mathlib.Core.Bool.{Bool, true, false, cond, not, ◌&&◌, ◌||◌}
use mathlib.Core.List.{List, [], ◌∷◌}
use mathlib.Core.Logic.{inl, inr}
use Rattle.std.specs.Prelude.{Option, None, Some}
use Prim.Native.Nat.{ℕ, suc, ◌+◌, ◌-◌}
use native.Mathlib.Omega.{arith}
use native.Mathlib.Numerals.{add-one}
use lib.ListN.{length}
use lib.Dec.{eqb, eqb-suc-zero}
use borrow.Author.Tests.{eqb-true, eq-eqb, ne_eqb}
use Rattle.record.specs.Named.{Node, cause_of, cause_number}
use Rattle.record.specs.declared.named.NodeId.{NodeId}
use Rattle.record.specs.declared.named.RangeCause.TheVariants.{Split}
use Rattle.record.specs.Records.{TraceRecord}
use Rattle.rules.specs.History.{History, is_kind, when, or_else, is_some, holds, given, any_of, add_some, firsts}
use Rattle.rules.specs.RightHalf.{pending_by, uses_up, pending, Registered, created_split, pending_split, split_by, tells_split, is_split, registered, is_registered, unless_known, registers}
use Rattle.rules.proofs.Once.{registered_step}
use Rattle.rules.proofs.Skips.{any_of_nil}
use Rattle.history.specs.Logs.{record_at, hist}
use Rattle.history.proofs.Logs.{hist_length}
use Rattle.history.proofs.Chains.{In}
use Rattle.one_owner_per_key.specs.Columns.{word_by}
use Rattle.rules.specs.Answers.{found_at}
use Rattle.rules.proofs.Answers.{found_none, found_at_lem}
use Rattle.record.proofs.Booleans.{never, decide, and_left, and_right}
use Rattle.rules.proofs.Marks.{kind_apart}
use Rattle.one_owner_per_key.proofs.Latest.{number_none, number_step}
use Rattle.one_owner_per_key.proofs.Walks.{Within}
use Rattle.splits.specs.Numbers.{pending_number, registers_as, split_number, names_number, named_number}
use Rattle.splits.specs.Columns.{split_bucket, by_split}
use Rattle.splits.specs.Splits.{parent_by, split_with, split_as}
use Rattle.record.proofs.Names.{split_code}
use Rattle.splits.proofs.States.{pending_is}

some_when : {A : Type 0} (b : Bool) (a : A) → b ≡ is_some (when b a)
some_when true a = refl
some_when false a = refl

-- ---- tests

pub created_test : {k n f : ℕ} (x : TraceRecord) → k ≡ x.kind → n ≡ x.code → f ≡ x.flag → eqb k 1 && eqb n 2 && eqb f 1 ≡ is_some (created_split x)
created_test x p q r =
    rw (p, q, r)
    (ap (λ (b : Bool). is_kind 1 x && b && eqb x.flag 1) (sym (split_code x.code))
    ∙ some_when {A = Registered} (is_kind 1 x && eqb (cause_number (cause_of x.code)) (cause_number Split) && eqb x.flag 1)
    (record { parent = x.c; index = x.b; right = x.a; voters = x.voters }))

-- ---- the split that a record names

module _ (log : List ℕ) (x : TraceRecord) where
  abbrev itself : Registered
  itself = record { parent = x.c; index = x.b; right = x.a; voters = x.voters }

  abbrev at_pending : ℕ → Registered
  at_pending k = record {
    parent = (record_at log (k - 1)).a;
    index = (record_at log (k - 1)).b;
    right = (record_at log (k - 1)).c;
    voters = x.voters;
  }

  -- by kind 1
  created_cases : (n k : ℕ) (p q r : Bool) → is_kind 1 x ≡ p → (o : Option Registered)
      → (p && q && r ≡ false → o ≡ split_as log x k)
      → or_else (when (p && q && r) itself) o
      ≡ split_as log x (cond (is_some (when (p && q && r) itself)) (suc n) k)
  created_cases n k true true true e o f = rw (eqb-suc-zero, e)
  created_cases n k true true false e o f = f refl
  created_cases n k true false r e o f = f refl
  created_cases n k false q r e o f = f refl

  -- by kind 2, at the pending RangeSplit of the record with the number k
  uses_cases : (k : ℕ) (u : Bool) → uses_up x (pending_by (record_at log (k - 1))) ≡ u → eqb k 0 ≡ false
      → when u (at_pending k) ≡ split_as log x (cond (is_some (when u (at_pending k))) k 0)
  uses_cases k true e z =
      let i : is_kind 2 x && eqb x.a (record_at log (k - 1)).a ≡ true = and_left _ (eqb x.b (record_at log (k - 1)).b) e in
      let t : is_kind 1 x ≡ false = kind_apart 2 1 x (λ q. omega arith) (and_left (is_kind 2 x) _ i) in
      let p : x.a ≡ (record_at log (k - 1)).a = eqb-true _ _ (and_right (is_kind 2 x) _ i) in
      let b : x.b ≡ (record_at log (k - 1)).b = eqb-true _ _ (and_right (is_kind 2 x && eqb x.a (record_at log (k - 1)).a) _ e) in
      rw (z, t, p, b)
  uses_cases k false e z = refl

  pending_cases : (k : ℕ) (t : Bool) → eqb k 0 ≡ t
      → pending_split x (cond t None (Some (pending_by (record_at log (k - 1)))))
      ≡ split_as log x (cond (is_some (pending_split x (cond t None (Some (pending_by (record_at log (k - 1))))))) k 0)
  pending_cases k true e = refl
  pending_cases k false e = uses_cases k (uses_up x (pending_by (record_at log (k - 1)))) refl e

  pending_names : (node n : ℕ) → pending_split x (pending node (hist log n))
      ≡ split_as log x (cond (is_some (pending_split x (pending node (hist log n)))) (pending_number node (hist log n)) 0)
  pending_names node n = rw (pending_is node log n) (pending_cases (pending_number node (hist log n)) (eqb (pending_number node (hist log n)) 0) refl)

  entered_by_node : (n : ℕ) (m : Node) → split_by x (hist log n) m ≡ split_as log x (word_by (λ k. names_number k x (hist log n)) m)
  entered_by_node n None = refl
  entered_by_node n (Some m) =
      created_cases (length (hist log n)) _ (is_kind 1 x) (eqb (cause_number (cause_of x.code)) (cause_number Split)) (eqb x.flag 1) refl
      (pending_split x (pending m.0 (hist log n)))
      (λ e. pending_names m.0 n)

  -- what it names, by what the code finds: n is the number of records taken, r whether it is a RangeCreated by a split
  module _ (n node : ℕ) {r : Bool} (e : r ≡ is_some (created_split x)) where
    pub names_itself : r ≡ true → Some (n + 1) ≡ found_at (names_number node x (hist log n))
    names_itself t = found_at_lem (rw (← e, t, hist_length) (add-one n)) (λ z. omega arith)

    -- .. and k its node's pending RangeSplit, u whether it uses that up
    module _ (t : r ≡ false) {k : ℕ} (f : k ≡ pending_number node (hist log n)) where
      pub names_none : k ≡ 0 → None ≡ found_at (names_number node x (hist log n))
      names_none z = found_none {n = 0} (rw (← e, t, pending_is node log n, ← f, eq-eqb k 0 z)) refl

      pub names_pending : {u : Bool} → (k ≡ 0 → ⊥) → u ≡ uses_up x (pending_by (record_at log (k - 1)))
          → cond u (Some k) None ≡ found_at (names_number node x (hist log n))
      names_pending {u} z g =
          elim (decide u) [
            | inl h ↦ rw h (found_at_lem (rw (← e, t, pending_is node log n, ← f, ne_eqb k 0 z, ← g, h)) z)
            | inr h ↦ rw h (found_none {n = 0} (rw (← e, t, pending_is node log n, ← f, ne_eqb k 0 z, ← g, h)) refl)
          ]

  -- THE NAMING LAW
  pub names_split : (n : ℕ) → tells_split x (hist log n) ≡ split_as log x (word_by (λ k. names_number k x (hist log n)) x.node)
  names_split n = entered_by_node n x.node

  -- ---- the split that it registers

  -- by the record that names it, m, unless it is known
  abbrev pub unless_named : ℕ → Bool → ℕ
  unless_named m known = cond (eqb m 0) 0 (cond known 0 m)

  known_cases : (h : History) (m : ℕ) (t k : Bool) → eqb m 0 ≡ t → is_registered (parent_by x) x.b h ≡ k
      → (given (unless_known h) (cond t None (Some (split_with log x m))) ≡ split_as log x (cond t 0 (cond k 0 m)))
      × (cond (is_some (given (unless_known h) (cond t None (Some (split_with log x m))))) m 0 ≡ cond t 0 (cond k 0 m))
  known_cases h m true k e f = (refl, refl)
  known_cases h m false true e f = (rw f, rw f)
  known_cases h m false false e f = (rw (f, e), rw f)

  by_known : (n : ℕ) → (registers x (hist log n) ≡ split_as log x
      (unless_named (word_by (λ k. names_number k x (hist log n)) x.node) (is_registered (parent_by x) x.b (hist log n))))
      × (named_number x (hist log n) ≡ unless_named (word_by (λ k. names_number k x (hist log n)) x.node) (is_registered (parent_by x) x.b (hist log n)))
  unfolding registers named_number
  by_known n =
      let m = word_by (λ k. names_number k x (hist log n)) x.node in
      rw (names_split n) (known_cases (hist log n) m (eqb m 0) (is_registered (parent_by x) x.b (hist log n)) refl refl)

  pub named_is : (n : ℕ)
      → named_number x (hist log n) ≡ unless_named (word_by (λ k. names_number k x (hist log n)) x.node) (is_registered (parent_by x) x.b (hist log n))
  named_is n = (by_known n).1

  -- THE REGISTERING LAW
  pub registers_as_lem : (n : ℕ) → registers x (hist log n) ≡ split_as log x (named_number x (hist log n))
  registers_as_lem n = (by_known n).0 ∙ ap (split_as log x) (sym (named_is n))

-- ---- registered splits, by parent and index

module _ (parent index : ℕ) where
  any_add : (o : Option Registered) (ss : List Registered)
      → any_of (is_split parent index) (add_some o ss) ≡ holds (is_split parent index) o || any_of (is_split parent index) ss
  unfolding any_of
  any_add None ss = refl
  any_add (Some s) ss = refl

  known_step : (b : Bool) (n k : ℕ) → b || not (eqb k 0) ≡ not (eqb (cond b (suc n) k) 0)
  known_step true n k = rw eqb-suc-zero
  known_step false n k = refl

  -- a split is registered where a record that registers it is found
  pub known_is : (h : History) → is_registered parent index h ≡ not (eqb (split_number parent index h) 0)
  unfolding registered firsts
  known_is [] = rw (number_none (registers_as parent index)) (any_of_nil (is_split parent index))
  known_is (x ∷ h) =
      ap (any_of (is_split parent index)) (registered_step x h)
      ∙ any_add (registers x h) (registered h)
      ∙ ap (λ (b : Bool). registers_as parent index x h || b) (known_is h)
      ∙ known_step (registers_as parent index x h) (length h) (split_number parent index h)
      ∙ ap (λ (k : ℕ). not (eqb k 0)) (sym (number_step (registers_as parent index) x h))

  -- the chain has all that registers it
  as_cases : (cap : ℕ) (o : Option Registered) → holds (is_split parent index) o ≡ true
      → given (λ s. Some (split_bucket cap s.parent s.index)) o ≡ Some (split_bucket cap parent index)
  as_cases cap None e = never e refl
  as_cases cap (Some s) e =
      rw (eqb-true s.parent parent (and_left _ (eqb s.index index) e), eqb-true s.index index (and_right (eqb s.parent parent) _ e))

  pub by_split_lem : (cap : ℕ) → Within (registers_as parent index) (by_split cap) (split_bucket cap parent index)
  unfolding by_split
  by_split_lem cap = record { is = λ x h e. as_cases cap (registers x h) e }

  -- a record of the chain registers, so its parent and index say whether it registers this
  test_cases : (cap b : ℕ) (log : List ℕ) (y : TraceRecord) (m : ℕ) (t : Bool) → eqb m 0 ≡ t
      → given (λ s. Some (split_bucket cap s.parent s.index)) (cond t None (Some (split_with log y m))) ≡ Some b
      → eqb (parent_by y) parent && eqb y.b index ≡ holds (is_split parent index) (cond t None (Some (split_with log y m)))
  test_cases cap b log y m true e h = let z : ◌≡◌ {A = ℕ} 0 1 = cc in absurd (omega arith)
  test_cases cap b log y m false e h = refl

  -- a record that registers it has its parent and index
  pub split_passes : (log : List ℕ) (k : ℕ) → registers_as parent index (record_at log k) (hist log k) ≡ true
      → eqb (parent_by (record_at log k)) parent && eqb (record_at log k).b index ≡ true
  split_passes log k e =
      let m = named_number (record_at log k) (hist log k) in
      go m (eqb m 0) (ap (holds (is_split parent index)) (sym (registers_as_lem log (record_at log k) k)) ∙ e)
    where
      go : (m : ℕ) (t : Bool) → holds (is_split parent index) (cond t None (Some (split_with log (record_at log k) m))) ≡ true
          → eqb (parent_by (record_at log k)) parent && eqb (record_at log k).b index ≡ true
      go m true h = never h refl
      go m false h = h

  pub split_test : (cap : ℕ) {b : ℕ} (log : List ℕ) (k : ℕ) → In (by_split cap) b log k
      → eqb (parent_by (record_at log k)) parent && eqb (record_at log k).b index ≡ registers_as parent index (record_at log k) (hist log k)
  unfolding by_split
  split_test cap {b} log k h =
      let m = named_number (record_at log k) (hist log k) in
      let q : given (λ s. Some (split_bucket cap s.parent s.index)) (split_as log (record_at log k) m) ≡ Some b =
      ap (given (λ s. Some (split_bucket cap s.parent s.index))) (sym (registers_as_lem log (record_at log k) k)) ∙ h in
      test_cases cap b log (record_at log k) m (eqb m 0) refl q ∙ ap (holds (is_split parent index)) (sym (registers_as_lem log (record_at log k) k))

-- ---- what the code makes of them: m names the split of x, k registered one of its parent and index

module _ (log : List ℕ) (x : TraceRecord) (n : ℕ) (node : NodeId) (marked : x.node ≡ Some node) {m : ℕ} (e : m ≡ names_number node.0 x (hist log n)) where
  by_names : named_number x (hist log n) ≡ unless_named log x m (is_registered (parent_by x) x.b (hist log n))
  by_names =
      named_is log x n
      ∙ ap (λ (k : ℕ). unless_named log x k (is_registered (parent_by x) x.b (hist log n)))
      (ap (word_by (λ k. names_number k x (hist log n))) marked ∙ sym e)

  pub registers_none : m ≡ 0 → None ≡ found_at (named_number x (hist log n))
  registers_none z = found_none {n = 0} (sym (by_names ∙ rw (eq-eqb m 0 z))) refl

  pub registers_known : {k : ℕ} → (m ≡ 0 → ⊥) → k ≡ split_number (parent_by x) x.b (hist log n) → (k ≡ 0 → ⊥) → None ≡ found_at (named_number x (hist log n))
  registers_known {k} z f y =
      found_none {n = 0} (sym (by_names ∙ rw (ne_eqb m 0 z, known_is (parent_by x) x.b (hist log n), ← f, ne_eqb k 0 y))) refl

  pub registers_new : {k : ℕ} → (m ≡ 0 → ⊥) → k ≡ split_number (parent_by x) x.b (hist log n) → k ≡ 0 → Some m ≡ found_at (named_number x (hist log n))
  registers_new {k} z f y =
      found_at_lem (sym (by_names ∙ rw (ne_eqb m 0 z, known_is (parent_by x) x.b (hist log n), ← f, eq-eqb k 0 y))) z
