-- The registered splits by the records that registered them: each is registered at one place, and read there and in the record that
-- names its right range.
use mathlib.Core.Path.{◌≡◌, refl, sym, ap, ◌∙◌}
use mathlib.Core.Bool.{Bool, true, false, cond, not}
use mathlib.Core.List.{List}
use mathlib.Core.Logic.{inl, inr}
use Rattle.std.proofs.lemmas.Option.{same_Some}
use Rattle.std.specs.Prelude.{Option, None, Some}
use Prim.Native.Nat.{ℕ, zero, suc, ◌≤◌, ◌<◌}
use native.Mathlib.Omega.{arith}
use native.Mathlib.Decide.{ℕ_discrete}
use lib.Dec.{eqb}
use borrow.Author.Tests.{eqb-false, ne_eqb, not-true}
use Rattle.record.specs.Named.{Node}
use Rattle.record.specs.Records.{TraceRecord}
use Rattle.record.proofs.Booleans.{none_some, never}
use Rattle.rules.specs.History.{number_after, is_kind, is_some}
use Rattle.rules.specs.RightHalf.{Registered, created_split, pending_split, pending, registered, is_registered, registers}
use Rattle.rules.proofs.Members.{Mem, here, mem_nil}
use Rattle.rules.proofs.Firsts.{add_mem}
use Rattle.rules.proofs.Once.{registered_step}
use Rattle.rules.proofs.Arising.{registered_nil, mem_step}
use Rattle.history.specs.Logs.{record_at, hist}
use Rattle.history.proofs.Logs.{hist_none, hist_length, hist_suc}
use Rattle.one_owner_per_key.specs.Columns.{word_by}
use Rattle.splits.specs.Numbers.{is_registering, names_number, named_number, pending_number}
use Rattle.splits.specs.Splits.{parent_by, split_with}
use Rattle.splits.proofs.States.{pending_bound}
use Rattle.splits.proofs.Splits.{unless_named, named_is, registers_as_lem}

-- ---- by place

pub record RegisteredAt (log : List ℕ) (n : ℕ) (s : Registered) : Type 0 where
  pub at : ℕ
  pub before : at < n
  pub is : registers (record_at log at) (hist log at) ≡ Some s

pub registered_place : (log : List ℕ) (n : ℕ) {s : Registered} → Mem s (registered (hist log n)) → RegisteredAt log n s
registered_place log zero m = mem_nil (rw (hist_none, registered_nil) at m)
registered_place log (suc n) m =
    elim (mem_step (record_at log n) (hist log n) (rw hist_suc at m)) [
      | inl e ↦ record { at = n; before = omega arith; is = e }
      | inr k ↦ let w = registered_place log n k in record { at = w.at; before = omega (arith, w.before); is = w.is }
    ]

pub place_registered : (log : List ℕ) (n t : ℕ) {s : Registered} → t < n → registers (record_at log t) (hist log t) ≡ Some s → Mem s (registered (hist log n))
place_registered log zero t l e = absurd (omega arith)
place_registered log (suc n) t {s} l e =
    elim (ℕ_discrete t n) [
      | yes q ↦
          let d : registers (record_at log n) (hist log n) ≡ Some s = ap (λ (k : ℕ). registers (record_at log k) (hist log k)) (sym q) ∙ e in
          rw (hist_suc, registered_step, d) here
      | no q ↦ rw (hist_suc, registered_step) (add_mem (registers (record_at log n) (hist log n)) (place_registered log n t (omega arith) e))
    ]

-- ---- as it is read

some_as : (log : List ℕ) (x : TraceRecord) (m : ℕ) (t : Bool) → is_some (cond t None (Some (split_with log x m))) ≡ not t
some_as log x m true = refl
some_as log x m false = refl

-- a record registers where a record names its right range
pub registering_is : (log : List ℕ) (x : TraceRecord) (n : ℕ) → is_registering x (hist log n) ≡ not (eqb (named_number x (hist log n)) 0)
registering_is log x n =
    ap is_some (registers_as_lem log x n) ∙ some_as log x (named_number x (hist log n)) (eqb (named_number x (hist log n)) 0)

-- its parent, index and voters are those of the record
as_cases : (log : List ℕ) (y : TraceRecord) (m : ℕ) (t : Bool) (s : Registered) → cond t None (Some (split_with log y m)) ≡ Some s → split_with log y m ≡ s
as_cases log y m true s e = none_some e
as_cases log y m false s e = same_Some _ _ e

pub split_is : (log : List ℕ) (y : TraceRecord) (t : ℕ) (s : Registered) → registers y (hist log t) ≡ Some s
    → split_with log y (named_number y (hist log t)) ≡ s
split_is log y t s e =
    as_cases log y (named_number y (hist log t)) (eqb (named_number y (hist log t)) 0) s (sym (registers_as_lem log y t) ∙ e)

-- an answer that is there
pub some_split : (o : Option Registered) → is_some o ≡ true → (s : Registered) × (o ≡ Some s)
some_split None e = never e refl
some_split (Some s) e = (s, refl)

-- ---- the right range of a registering record's split

not_created : (x : TraceRecord) → is_kind 1 x ≡ false → is_some (created_split x) ≡ false
not_created x e = rw e

word_cases : (log : List ℕ) (n : ℕ) (x : TraceRecord) (m : Node) → is_kind 1 x ≡ false → word_by (λ k. names_number k x (hist log n)) m ≤ n
word_cases log n x None e = omega arith
word_cases log n x (Some m) e = rw (not_created x e) (go (is_some (pending_split x (pending m.0 (hist log n)))))
  where
    go : (b : Bool) → cond b (pending_number m.0 (hist log n)) 0 ≤ n
    go true = pending_bound m.0 log n
    go false = omega arith

unless_within : (log : List ℕ) (x : TraceRecord) (m n : ℕ) (k : Bool) → m ≤ n → unless_named log x m k ≤ n
unless_within log x m n k l = go (eqb m 0) k
  where
    go : (t u : Bool) → cond t 0 (cond u 0 m) ≤ n
    go true u = omega arith
    go false true = omega arith
    go false false = l

-- what names a split is the record itself or an earlier one
pub named_bound : (log : List ℕ) (x : TraceRecord) (n : ℕ) → named_number x (hist log n) ≤ suc n
named_bound log x n =
    rw (named_is log x n) (unless_within log x (word_by (λ j. names_number j x (hist log n)) x.node) (suc n) (is_registered (parent_by x) x.b (hist log n))
    (go x.node))
  where
    either : (b u : Bool) (k : ℕ) → k ≤ n → cond b (number_after (hist log n)) (cond u k 0) ≤ suc n
    either true u k l = omega (arith, hist_length log n)
    either false true k l = omega arith
    either false false k l = omega arith

    go : (m : Node) → word_by (λ j. names_number j x (hist log n)) m ≤ suc n
    go None = omega arith
    go (Some m) = either _ _ (pending_number m.0 (hist log n)) (pending_bound m.0 log n)

-- kind 2's right range is named by an earlier record
pub named_range : (log : List ℕ) (x : TraceRecord) (n : ℕ) → is_registering x (hist log n) ≡ true → is_kind 1 x ≡ false
    → (0 < named_number x (hist log n)) × (named_number x (hist log n) ≤ n)
named_range log x n r k =
    let q : eqb (named_number x (hist log n)) 0 ≡ false = not-true _ (sym (registering_is log x n) ∙ r) in
    let z : named_number x (hist log n) ≡ 0 → ⊥ = eqb-false (named_number x (hist log n)) 0 q in
    let l : named_number x (hist log n) ≤ n =
    rw (named_is log x n) (unless_within log x (word_by (λ j. names_number j x (hist log n)) x.node) n (is_registered (parent_by x) x.b (hist log n))
    (word_cases log n x x.node k)) in
    (omega arith, l)

-- ---- what the code makes of it: m names the split of x

module _ (log : List ℕ) (n : ℕ) (x : TraceRecord) {m : ℕ} (e : m ≡ named_number x (hist log n)) (some_named : m ≡ 0 → ⊥) where
  pub named_split : registers x (hist log n) ≡ Some (split_with log x m)
  named_split = registers_as_lem log x n ∙ rw (← e, ne_eqb m 0 some_named)

  pub right_range : is_kind 1 x ≡ false → (0 < m) × (m ≤ n)
  right_range k = let w = named_range log x n (ap is_some named_split) k in (omega arith, omega (arith, w.1))
