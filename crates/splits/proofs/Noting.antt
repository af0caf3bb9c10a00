-- Laws of what a record leaves in the columns: each cell with the record, and the columns one record on.
use Rattle.std.specs.Prelude.{Option, Some, None, IfSome}
use Rattle.std.proofs.lemmas.Map.Entries.{option_filter}
use mathlib.Core.Path.{◌≡◌, refl, sym, ap, ◌∙◌}
use mathlib.Core.Bool.{not-not, Bool, true, false, cond, not, ◌&&◌, ◌||◌}
use mathlib.Core.List.{List, ◌∷◌}
use mathlib.Core.Logic.{◌⊎◌, inl, inr}
use Prim.Native.Nat.{ℕ, zero, suc, ◌+◌, ◌-◌, ◌*◌, ◌/◌, ◌%◌, ◌≤◌, ◌<◌}
use native.Mathlib.Omega.{arith}
use native.Mathlib.Numerals.{add-one}
use lib.ListN.{length, get_or}
use lib.Dec.{eqb, eqb-suc-zero}
use borrow.Author.Tests.{ne_eqb}
use Rattle.record.specs.declared.named.NodeId.{NodeId}
use Rattle.record.specs.Records.{TraceRecord, decode}
use Rattle.record.proofs.Booleans.{never}
use Rattle.rules.specs.Answers.{found_at}
use Rattle.rules.specs.History.{History, is_kind, is_by, is_some, when, holds, given}
use Rattle.rules.specs.RightHalf.{pending_by, uses_up, pending}
use Rattle.history.specs.declared.past.Past.{Past}
use Rattle.history.specs.declared.walk.Taken.{Taken}
use Rattle.history.specs.Logs.{record_at, hist}
use Rattle.history.specs.Pasts.{IsFound, number_of}
use Rattle.history.specs.Columns.{Column, cell_of}
use Rattle.history.proofs.Logs.{hist_none, hist_length, hist_suc, record_bytes}
use Rattle.history.proofs.Cells.{cell_at}
use Rattle.history.proofs.Chains.{clamped}
use Rattle.one_owner_per_key.specs.Columns.{word_by}
use Rattle.one_owner_per_key.proofs.Checks.{some_number}
use Rattle.one_owner_per_key.proofs.Latest.{number_none, number_bound, number_step}
use Rattle.splits.specs.Numbers.{restated_number, refuses, refused_number, pending_number, is_registering, latest_registering, named_number}
use Rattle.splits.specs.Columns.{split_bucket, by_split, recorded_bucket, records_by, by_recording, server_cell, restated_cell, refused_cell, pending_cell, registered_cell, registering_in}
use Rattle.splits.specs.Splits.{parent_by, split_as}
use Rattle.splits.proofs.States.{server_cell_lem, restated_step, pending_step, restated_cell_lem, refused_cell_lem, restated_mark, pending_as, pending_is}
use Rattle.rules.proofs.Servers.{server_number, server_step}
use Rattle.splits.proofs.Splits.{registers_as_lem}
use Rattle.splits.proofs.Registered.{registering_is}

-- ---- a node's state with its record

module _ (node : ℕ) (x : TraceRecord) (h : History) (b : is_by node x ≡ true) where
  pub server_after : {v s : ℕ} → v ≡ cond (is_kind 4 x) x.c s → s ≡ server_number node h → v ≡ server_cell x h
  server_after e f = e ∙ ap (cond (is_kind 4 x) x.c) f ∙ sym (server_step node x h b) ∙ sym (server_cell_lem.own node x h b)

  pub restated_after : {v s n : ℕ} → v ≡ cond (is_kind 5 x) (n + 1) (cond (is_kind 6 x) 0 s) → length h ≡ n → s ≡ restated_number node h → v ≡ restated_cell x h
  restated_after {v} {s} {n} e l f = e ∙ rw (f, add-one, ← l) (sym (restated_cell_lem.own node x h b ∙ restated_step node x h ∙ rw b))

  pub refused_after : {v s n : ℕ} → v ≡ cond (is_kind 10 x) (n + 1) s → length h ≡ n → s ≡ refused_number node h → v ≡ refused_cell x h
  refused_after {v} {s} {n} e l f =
      e ∙ rw (f, add-one, ← l) (sym (refused_cell_lem.own node x h b ∙ number_step (λ y _. refuses node y) x h
      ∙ ap (λ (t : Bool). cond (t && is_kind 10 x) (suc (length h)) (refused_number node h)) b))

-- the pending RangeSplit, by the kind and by what the code finds
module _ (log : List ℕ) (n node : ℕ) (x : TraceRecord) (b : is_by node x ≡ true) {k : ℕ} (ek : k ≡ x.kind) where
  after : pending_number node (x ∷ hist log n)
      ≡ cond (eqb k 7) (suc n) (cond (eqb k 6 || eqb k 10 || holds (uses_up x) (pending node (hist log n))) 0 (pending_number node (hist log n)))
  after = pending_step node x (hist log n) ∙ rw (b, hist_length, ek)

  pub pending_new : k ≡ 7 → n + 1 ≡ pending_number node (x ∷ hist log n)
  pending_new e = sym (after ∙ rw e (sym (add-one n)))

  pub pending_ended : (k ≡ 6) ⊎ (k ≡ 10) → 0 ≡ pending_number node (x ∷ hist log n)
  pending_ended (inl e) = sym (after ∙ rw e)
  pending_ended (inr e) = sym (after ∙ rw e)

  pub pending_left : {v m : ℕ} → (k ≡ 7 → ⊥) → (k ≡ 6 → ⊥) → (k ≡ 10 → ⊥) → m ≡ pending_number node (hist log n)
      → v ≡ cond (holds (uses_up x) (pending_as log m)) 0 m → v ≡ pending_number node (x ∷ hist log n)
  pending_left no_7 no_6 no_10 em e =
      e ∙ sym (after ∙ rw (ne_eqb k 7 no_7, ne_eqb k 6 no_6, ne_eqb k 10 no_10, pending_is node log n, ← em))

-- what is found and not used up
abbrev pub is_left : TraceRecord → Taken → Bool
is_left x y = not (uses_up x (pending_by (decode y.record.now)))

pub left_is : (p : Past) (x : TraceRecord) (o : Option Taken) → IsFound p o
    → number_of (option_filter (is_left x) o) ≡ cond (holds (uses_up x) (pending_as p.log.now (number_of o))) 0 (number_of o)
left_is p x None f = refl
left_is p x (Some y) f =
    rw (record_bytes p.log.now (y.number - 1) f.bytes, ne_eqb y.number 0 (λ z. omega (arith, f.some)))
    (go (uses_up x (pending_by (record_at p.log.now (y.number - 1)))))
  where
    go : (u : Bool) → number_of (cond (not u) (Some y) None) ≡ cond u 0 y.number
    go true = refl
    go false = refl

-- ---- registering

split_cases : (cap : ℕ) (log : List ℕ) (x : TraceRecord) (k : ℕ) → when (is_some (found_at k)) (split_bucket cap (parent_by x) x.b)
    ≡ given (λ s. Some (split_bucket cap s.parent s.index)) (split_as log x k)
split_cases cap log x zero = refl
split_cases cap log x (suc k) = rw eqb-suc-zero

found_case : (k : ℕ) → not (eqb k 0) ≡ is_some (found_at k)
found_case zero = refl
found_case (suc k) = rw eqb-suc-zero

module _ (log : List ℕ) (x : TraceRecord) (n : ℕ) {o : Option ℕ} (e : o ≡ found_at (named_number x (hist log n))) where
  named_some : is_some o ≡ is_registering x (hist log n)
  named_some = ap is_some e ∙ sym (found_case _) ∙ sym (registering_is log x n)

  pub registered_after : {v k : ℕ} → ((m : ℕ) → o ≡ found_at m → v ≡ 8192 * m + cond (is_some o) (n + 1) k) → k ≡ latest_registering (hist log n)
      → v ≡ registered_cell x (hist log n)
  unfolding registered_cell
  registered_after {v} {k} f g =
      f _ e ∙ ap (λ (j : ℕ). 8192 * named_number x (hist log n) + j) (rw (named_some, g, add-one, number_step is_registering x (hist log n), hist_length))

  -- its bucket is that of its parent and index
  pub in_splits : (cap : ℕ) {r : Option ℕ} → r ≡ when (is_some o) (split_bucket cap (parent_by x) x.b) → r ≡ by_split cap x (hist log n)
  unfolding by_split
  in_splits cap f =
      f ∙ ap (λ (o : Option ℕ). when (is_some o) (split_bucket cap (parent_by x) x.b)) e ∙ split_cases cap log x (named_number x (hist log n))
      ∙ ap (given (λ s. Some (split_bucket cap s.parent s.index))) (sym (registers_as_lem log x n))

module _ (log : List ℕ) {count cap : ℕ} {work : List ℕ} (col : Column (cell_of registered_cell (hist log count)) (26 * cap) cap work) (taken : count ≤ cap)
    (few : cap ≤ 4096) where
  -- the word of the record at place k
  registered_word : (k : ℕ) → k < count → get_or work (26 * cap + k) 0
      ≡ 8192 * named_number (record_at log k) (hist log k) + latest_registering (hist log (suc k))
  unfolding registered_cell
  registered_word k l =
      col.word k (omega arith) ∙ cell_at registered_cell log count k l
      ∙ ap (λ (h : History). 8192 * named_number (record_at log k) (hist log k) + latest_registering h) (sym (hist_suc log k))

  pub registering_read : (k : ℕ) → k ≤ count → registering_in work cap k ≡ latest_registering (hist log k)
  registering_read zero l = sym (rw (hist_none, number_none is_registering))
  registering_read (suc k) l =
      let s : suc k - 1 ≡ k = omega arith in
      let w = registered_word k (omega arith) in
      let b : latest_registering (hist log (suc k)) ≤ suc k = number_bound is_registering log (suc k) in
      let q : get_or work (26 * cap + k) 0 % 8192 ≡ latest_registering (hist log (suc k)) = omega (arith, w, b) in
      rw (eqb-suc-zero, s) (clamped (get_or work (26 * cap + k) 0 % 8192) (latest_registering (hist log (suc k))) (suc k) q b)

  pub named_read : (k : ℕ) → k < count → get_or work (26 * cap + k) 0 / 8192 ≡ named_number (record_at log k) (hist log k)
  named_read k l =
      let w = registered_word k l in
      let b : latest_registering (hist log (suc k)) ≤ suc k = number_bound is_registering log (suc k) in
      omega (arith, w, b)

-- ---- recording

-- nothing is found where the number is 0
pub none_found : (p : Past) (o : Option Taken) {t : Bool} → IsFound p o → is_some o ≡ not t → t ≡ eqb (number_of o) 0
none_found p o {t} f e = sym (not-not t) ∙ ap not (sym e ∙ some_number p o f) ∙ not-not (eqb (number_of o) 0)

-- what a closure gives, called where a test holds
pub gives_when : (v : ℕ) (b : Bool) (r : Option ℕ) → is_some r ≡ b → IfSome r (λ k. k ≡ v) → r ≡ when b v
gives_when v true None e s = never refl (sym e)
gives_when v true (Some k) e s = ap Some s
gives_when v false None e s = refl
gives_when v false (Some k) e s = never refl e

in_recordings : (cap : ℕ) (x : TraceRecord) (h : History) {t : Bool} → t ≡ records_by x h x.node → when t (recorded_bucket cap x.a) ≡ by_recording cap x h
unfolding by_recording
in_recordings cap x h e = rw e

pub recording_after : (cap : ℕ) (x : TraceRecord) (h : History) (node : NodeId) {r : Option ℕ} {s : ℕ} → x.node ≡ Some node
    → r ≡ when (is_kind 2 x && eqb s 0) (recorded_bucket cap x.a) → s ≡ restated_number node.0 h → r ≡ by_recording cap x h
recording_after cap x h node {s = s} m e f = e ∙ in_recordings cap x h (rw (m, restated_mark node.0 h, ← f, not-not (eqb s 0)))

-- ---- a record without a node

either : (t : Bool) → ◌≡◌ {A = ℕ} 0 (cond t 0 0)
either true = refl
either false = refl

pub named_unmarked : (x : TraceRecord) (h : History) → x.node ≡ None → 0 ≡ named_number x h
unfolding named_number
named_unmarked x h e = either (is_registering x h) ∙ ap (λ (k : ℕ). cond (is_registering x h) k 0) (sym (ap (word_by _) e))

module _ (x : TraceRecord) (h : History) (e : x.node ≡ None) where
  pub server_unmarked : 0 ≡ server_cell x h
  unfolding server_cell
  server_unmarked = sym (ap (word_by _) e)

  pub restated_unmarked : 0 ≡ restated_cell x h
  unfolding restated_cell
  restated_unmarked = sym (ap (word_by _) e)

  pub refused_unmarked : 0 ≡ refused_cell x h
  unfolding refused_cell
  refused_unmarked = sym (ap (word_by _) e)

  pub pending_unmarked : 0 ≡ pending_cell x h
  unfolding pending_cell
  pending_unmarked = sym (ap (word_by _) e)

  pub recording_unmarked : (cap : ℕ) → None ≡ by_recording cap x h
  recording_unmarked cap = in_recordings cap x h (sym (ap (records_by x h) e))
