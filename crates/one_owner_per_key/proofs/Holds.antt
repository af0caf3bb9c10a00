-- Laws of what a node holds: by the record found, by the latest that says so against the node's latest end, and since when.
use mathlib.Core.Path.{◌≡◌, refl, sym, ap, ◌∙◌}
use mathlib.Core.Bool.{Bool, true, false, cond, not, ◌&&◌, ◌||◌, and-false, or_assoc}
use mathlib.Core.List.{List, [], ◌∷◌}
use mathlib.Core.Logic.{inl, inr}
use Rattle.std.specs.Prelude.{Option, None, Some}
use Prim.Native.Nat.{ℕ, zero, suc, ◌-◌, ◌≤◌, ◌<◌}
use native.Mathlib.Omega.{arith}
use lib.ListN.{length}
use lib.Dec.{eqb, ltb, eqb-suc-zero}
use borrow.Author.Tests.{lt-ltb, le-ltb, eqb-true}
use Rattle.record.specs.Records.{Span, TraceRecord}
use Rattle.rules.specs.History.{History, is_kind, is_by, is_some}
use Rattle.rules.specs.Descriptors.{span_of}
use Rattle.rules.specs.OneOwnerPerKey.{is_holding, is_ending, hold_of, has_hold}
use Rattle.history.specs.Logs.{record_at, hist}
use Rattle.history.proofs.Logs.{hist_none, hist_length, hist_suc}
use Rattle.one_owner_per_key.specs.Numbers.{ends_all, latest_end, newly_holds, says_hold, latest_hold, hold_number}
use Rattle.record.proofs.Booleans.{never, decide, or_elim, or_neither}
use Rattle.rules.proofs.Marks.{kind_apart}
use Rattle.rules.proofs.Holds.{span_none, span_step}
use Rattle.one_owner_per_key.proofs.Latest.{number_none, number_bound, at_hit, at_miss}

-- ---- one record on

module _ (node range : ℕ) where
  pub held_none : hold_number node range [] ≡ 0
  unfolding hold_number
  held_none = refl

  pub held_step : (x : TraceRecord) (h : History) → hold_number node range (x ∷ h)
      ≡ cond (is_by node x)
      (cond (is_holding x && eqb x.a range) (suc (length h)) (cond (is_ending range x) 0 (hold_number node range h))) (hold_number node range h)
  unfolding hold_number
  held_step x h = refl

-- ---- the record found has the span

-- the span of the record with a number, none for 0
abbrev pub span_by : List ℕ → ℕ → Option Span
span_by log k = cond (eqb k 0) None (Some (span_of 0 (record_at log (k - 1))))

by_cases : (log : List ℕ) (n k : ℕ) (b u v : Bool)
    → span_by log (cond b (cond u (suc n) (cond v 0 k)) k)
    ≡ cond b (cond u (Some (span_of 0 (record_at log n))) (cond v None (span_by log k))) (span_by log k)
by_cases log n k true true v = let e : suc n - 1 ≡ n = omega arith in rw (eqb-suc-zero, e)
by_cases log n k true false true = refl
by_cases log n k true false false = refl
by_cases log n k false u v = refl

pub held_span : (node range : ℕ) (log : List ℕ) (n : ℕ) → span_by log (hold_number node range (hist log n)) ≡ hold_of node range (hist log n)
held_span node range log zero = rw (hist_none, held_none, span_none)
held_span node range log (suc n) =
    let x = record_at log n in
    rw (hist_suc, held_step, span_step, hist_length)
    (by_cases log n (hold_number node range (hist log n)) (is_by node x) (is_holding x && eqb x.a range) (is_ending range x)
    ∙ rw (held_span node range log n))

-- a range is held where a record is found
some_cases : (n k : ℕ) (s : Span) (o : Option Span) (b u v : Bool) → is_some o ≡ not (eqb k 0)
    → is_some (cond b (cond u (Some s) (cond v None o)) o) ≡ not (eqb (cond b (cond u (suc n) (cond v 0 k)) k) 0)
some_cases n k s o true true v e = rw eqb-suc-zero
some_cases n k s o true false true e = refl
some_cases n k s o true false false e = e
some_cases n k s o false u v e = e

pub held_some : (node range : ℕ) (h : History) → has_hold node range h ≡ not (eqb (hold_number node range h) 0)
held_some node range [] = rw (span_none, held_none)
held_some node range (x ∷ h) =
    rw (span_step, held_step)
    (some_cases (length h) (hold_number node range h) (span_of 0 x) (hold_of node range h) (is_by node x) (is_holding x && eqb x.a range) (is_ending range x)
    (held_some node range h))

-- ---- the latest that says so, against the node's latest end

-- what the code makes of the two: the latest that says so, where it is later and says that the range is held
abbrev pub held_if : List ℕ → ℕ → ℕ → ℕ
held_if log ended k = cond (ltb ended k) (cond (is_holding (record_at log (k - 1))) k 0) 0

-- kinds 1 and 2 are none of 6, 9 and 10
holding_apart : (k : ℕ) (x : TraceRecord) → (1 ≡ k → ⊥) → (2 ≡ k → ⊥) → is_holding x ≡ true → is_kind k x ≡ false
holding_apart k x n m e = or_elim (is_kind 1 x) (is_kind 2 x) e (kind_apart 1 k x n) (kind_apart 2 k x m)

pub holding_goes_on : (node : ℕ) (x : TraceRecord) → is_holding x ≡ true → ends_all node x ≡ false
holding_goes_on node x e =
    rw (holding_apart 6 x (λ q. omega arith) (λ q. omega arith) e, holding_apart 10 x (λ q. omega arith) (λ q. omega arith) e, and-false)

removal_goes_on : (node : ℕ) (x : TraceRecord) → is_kind 9 x ≡ true → ends_all node x ≡ false
removal_goes_on node x e = rw (kind_apart 9 6 x (λ q. omega arith) e, kind_apart 9 10 x (λ q. omega arith) e, and-false)

module _ (node range : ℕ) (log : List ℕ) where
  by_ends : ℕ → ℕ
  by_ends n = held_if log (latest_end node (hist log n)) (latest_hold node range (hist log n))

  -- a record that tells nothing of the hold leaves both as they were
  pass : (n : ℕ) → says_hold node range (record_at log n) ≡ false → ends_all node (record_at log n) ≡ false
      → hold_number node range (hist log n) ≡ by_ends n → hold_number node range (hist log n) ≡ by_ends (suc n)
  unfolding by_ends
  pass n p q e = rw (at_miss (λ x _. says_hold node range x) log n p, at_miss (λ x _. ends_all node x) log n q) e

  -- the record at n says so, and whether it holds
  says : (n : ℕ) (t : Bool) → is_holding (record_at log n) ≡ t → says_hold node range (record_at log n) ≡ true → ends_all node (record_at log n) ≡ false
      → by_ends (suc n) ≡ cond t (suc n) 0
  unfolding by_ends
  says n t e p q =
      let m : latest_end node (hist log n) < suc n = omega (arith, number_bound (λ x _. ends_all node x) log n) in
      let s : suc n - 1 ≡ n = omega arith in
      rw (at_hit (λ x _. says_hold node range x) log n p, at_miss (λ x _. ends_all node x) log n q, lt-ltb (latest_end node (hist log n)) (suc n) m, s, e)

  -- the record at n ends all
  all_ends : (n : ℕ) → says_hold node range (record_at log n) ≡ false → ends_all node (record_at log n) ≡ true → by_ends (suc n) ≡ 0
  unfolding by_ends
  all_ends n p q =
      let m : latest_hold node range (hist log n) ≤ suc n = omega (arith, number_bound (λ x _. says_hold node range x) log n) in
      rw (at_miss (λ x _. says_hold node range x) log n p, at_hit (λ x _. ends_all node x) log n q, le-ltb (suc n) (latest_hold node range (hist log n)) m)

  -- it does not say so: it ends all, or tells nothing
  other : (n : ℕ) (z : Bool) → is_by node (record_at log n) ≡ true → is_kind 6 (record_at log n) || is_kind 10 (record_at log n) ≡ z
      → says_hold node range (record_at log n) ≡ false → hold_number node range (hist log n) ≡ by_ends n
      → cond z 0 (hold_number node range (hist log n)) ≡ by_ends (suc n)
  other n true eb ez s ih = sym (all_ends n s (rw (eb, ez)))
  other n false eb ez s ih = pass n s (rw (eb, ez)) ih

  -- a step, by what the record is: b its node's, p it holds, q it removes, a its range, z it ends all
  step : (n : ℕ) (b p q a z : Bool) → is_by node (record_at log n) ≡ b → is_holding (record_at log n) ≡ p → is_kind 9 (record_at log n) ≡ q
      → eqb (record_at log n).a range ≡ a → is_kind 6 (record_at log n) || is_kind 10 (record_at log n) ≡ z
      → hold_number node range (hist log n) ≡ by_ends n
      → cond b (cond (p && a) (suc n) (cond (q && a || z) 0 (hold_number node range (hist log n)))) (hold_number node range (hist log n)) ≡ by_ends (suc n)
  step n false p q a z eb ep eq ea ez ih = pass n (rw eb) (rw eb) ih
  step n true true q true z eb ep eq ea ez ih = sym (says n true ep (rw (eb, ep, ea)) (holding_goes_on node (record_at log n) ep))
  step n true true true false z eb ep eq ea ez ih = other n z eb ez (rw (ea, and-false)) ih
  step n true true false false z eb ep eq ea ez ih = other n z eb ez (rw (ea, and-false)) ih
  step n true false true true z eb ep eq ea ez ih = sym (says n false ep (rw (eb, ep, eq, ea)) (removal_goes_on node (record_at log n) eq))
  step n true false true false z eb ep eq ea ez ih = other n z eb ez (rw (ea, and-false)) ih
  step n true false false a z eb ep eq ea ez ih = other n z eb ez (rw (eb, ep, eq)) ih

-- THE HOLD LAW
pub held_by_ends : (node range : ℕ) (log : List ℕ) (n : ℕ)
    → hold_number node range (hist log n) ≡ held_if log (latest_end node (hist log n)) (latest_hold node range (hist log n))
unfolding by_ends
held_by_ends node range log zero =
    rw (hist_none, held_none, number_none (λ x _. ends_all node x), number_none (λ x _. says_hold node range x))
held_by_ends node range log (suc n) =
    let x = record_at log n in
    ap (hold_number node range) (hist_suc log n)
    ∙ held_step node range x (hist log n)
    ∙ rw (hist_length, or_assoc)
    (step node range log n (is_by node x) (is_holding x) (is_kind 9 x) (eqb x.a range) (is_kind 6 x || is_kind 10 x) refl refl refl refl refl
    (held_by_ends node range log n))

-- a record that does not end the hold of a range does not end all
goes_on : (node range : ℕ) (x : TraceRecord) → is_ending range x ≡ false → ends_all node x ≡ false
goes_on node range x e =
    let u = or_neither (is_kind 9 x && eqb x.a range || is_kind 6 x) (is_kind 10 x) e in
    let v = or_neither (is_kind 9 x && eqb x.a range) (is_kind 6 x) u.0 in
    rw (v.1, u.1, and-false)

-- ---- since when

-- the record at a place began a node's hold of a range: the node newly held it there, and nothing ended all since
pub record Began (node range : ℕ) (log : List ℕ) (ended n : ℕ) : Type 0 where
  pub at : ℕ
  pub after : ended ≤ at
  pub before : at < n
  pub newly : newly_holds node (record_at log at) (hist log at) ≡ true
  pub range_is : (record_at log at).a ≡ range

module _ (node range : ℕ) (log : List ℕ) (n : ℕ) where
  -- one record later, which does not end all
  later : ends_all node (record_at log n) ≡ false → Began node range log (latest_end node (hist log n)) n
      → Began node range log (latest_end node (hist log (suc n))) (suc n)
  later e b = rw (at_miss (λ x _. ends_all node x) log n e) (record {
    at = b.at;
    after = b.after;
    before = omega (arith, b.before);
    newly = b.newly;
    range_is = b.range_is;
  })

  -- here, where it was not held before
  here : is_by node (record_at log n) ≡ true → is_holding (record_at log n) ≡ true → eqb (record_at log n).a range ≡ true
      → has_hold node range (hist log n) ≡ false
      → Began node range log (latest_end node (hist log (suc n))) (suc n)
  here b p a h =
      let q : (record_at log n).a ≡ range = eqb-true (record_at log n).a range a in
      rw (at_miss (λ x _. ends_all node x) log n (holding_goes_on node (record_at log n) p)) (record {
        at = n;
        after = number_bound (λ x _. ends_all node x) log n;
        before = omega arith;
        newly = rw (b, p, q, h);
        range_is = q;
      })

  began_step : (b p a v : Bool) → is_by node (record_at log n) ≡ b → is_holding (record_at log n) ≡ p → eqb (record_at log n).a range ≡ a
      → is_ending range (record_at log n) ≡ v
      → (has_hold node range (hist log n) ≡ true → Began node range log (latest_end node (hist log n)) n)
      → is_some (cond b (cond (p && a) (Some (span_of 0 (record_at log n))) (cond v None (hold_of node range (hist log n))))
      (hold_of node range (hist log n))) ≡ true
      → Began node range log (latest_end node (hist log (suc n))) (suc n)
  began_step false p a v eb ep ea ev ih h = later (rw eb) (ih h)
  began_step true true true v eb ep ea ev ih h =
      elim (decide (has_hold node range (hist log n))) [
        | inl k ↦ later (holding_goes_on node (record_at log n) ep) (ih k)
        | inr k ↦ here eb ep ea k
      ]
  began_step true true false true eb ep ea ev ih h = never h refl
  began_step true false a true eb ep ea ev ih h = never h refl
  began_step true true false false eb ep ea ev ih h = later (holding_goes_on node (record_at log n) ep) (ih h)
  began_step true false a false eb ep ea ev ih h = later (goes_on node range (record_at log n) ev) (ih h)

-- THE LAW OF THE LIST: what is held was newly held after the node's latest end
pub began : (node range : ℕ) (log : List ℕ) (n : ℕ) → has_hold node range (hist log n) ≡ true → Began node range log (latest_end node (hist log n)) n
began node range log zero h = never h (rw (hist_none, span_none))
began node range log (suc n) h =
    let x = record_at log n in
    began_step node range log n (is_by node x) (is_holding x) (eqb x.a range) (is_ending range x) refl refl refl refl (began node range log n)
    (rw (hist_suc, span_step) at h)
