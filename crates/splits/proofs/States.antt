-- Laws of what only a node's own records change: its server, its restated mark, its latest refusal, its pending RangeSplit.
-- Read in a column at the node's latest record, it is as of all the records up to there.
use mathlib.Core.Path.{◌≡◌, refl, sym, ap, ◌∙◌}
use mathlib.Core.Bool.{Bool, true, false, cond, not, ◌&&◌, ◌||◌}
use mathlib.Core.List.{List, [], ◌∷◌}
use Rattle.std.specs.Prelude.{Option, None, Some}
use Prim.Native.Nat.{ℕ, zero, suc, ◌+◌, ◌-◌, ◌*◌, ◌≤◌, ◌<◌}
use native.Mathlib.Omega.{arith}
use native.Mathlib.Decide.{ℕ_discrete}
use lib.ListN.{length, get_or}
use lib.Dec.{eqb, eqb-suc-zero}
use borrow.Author.Tests.{eq-eqb, ne_eqb}
use Rattle.record.specs.declared.named.ServerId.{ServerId}
use Rattle.record.specs.Records.{TraceRecord}
use Rattle.rules.specs.History.{History, is_kind, is_by, when, or_else, holds, latest}
use Rattle.rules.specs.RightHalf.{tells_restated, is_restated, uses_up, Pending, pending_by, pending}
use Rattle.history.specs.Logs.{record_at, hist}
use Rattle.history.specs.Columns.{Column, cell_of}
use Rattle.history.proofs.Logs.{hist_none, hist_length, hist_suc}
use Rattle.history.proofs.Cells.{cell_at}
use Rattle.history.proofs.Chains.{clamped}
use Rattle.one_owner_per_key.specs.Numbers.{latest_by}
use Rattle.one_owner_per_key.specs.Columns.{word_by}
use Rattle.rules.proofs.Marks.{by_marked}
use Rattle.rules.proofs.Servers.{server_number, server_other, server_none}
use Rattle.one_owner_per_key.proofs.Latest.{number_none, number_bound, number_is, number_miss, as_of}
use Rattle.splits.specs.Numbers.{restated_number, refuses, refused_number, pending_number}
use Rattle.splits.specs.Columns.{server_cell, restated_cell, refused_cell, pending_cell, server_in}
use Rattle.history.specs.Columns.{number_in}

-- a value by node that only the node's own records change, and the cell that has it
pub record State (F : ℕ → History → ℕ) (cell : TraceRecord → History → ℕ) : Type 0 where
  pub own : (node : ℕ) (x : TraceRecord) (h : History) → is_by node x ≡ true → cell x h ≡ F node (x ∷ h)
  pub other : (node : ℕ) (x : TraceRecord) (h : History) → is_by node x ≡ false → F node (x ∷ h) ≡ F node h

module _ {F : ℕ → History → ℕ} {cell : TraceRecord → History → ℕ} (st : State F cell) (log : List ℕ) (node : ℕ) where
  -- it is as of the node's latest record
  as_of_latest : (top : ℕ) → F node (hist log top) ≡ F node (hist log (latest_by node (hist log top)))
  as_of_latest =
      as_of (λ x _. is_by node x) log (λ n. F node (hist log n)) (λ k m. ap (F node) (hist_suc log k) ∙ st.other node (record_at log k) (hist log k) m)

  module _ {count base cap : ℕ} {work : List ℕ} (col : Column (cell_of cell (hist log count)) base cap work) (taken : count ≤ cap) where
    -- the word of a node's record
    pub word_is : (k : ℕ) → k < count → is_by node (record_at log k) ≡ true → get_or work (base + k) 0 ≡ F node (hist log (suc k))
    word_is k l e =
        col.word k (omega arith) ∙ cell_at cell log count k l ∙ st.own node (record_at log k) (hist log k) e ∙ ap (F node) (sym (hist_suc log k))

    module _ {top last : ℕ} (upto : top ≤ count) (e : last ≡ latest_by node (hist log top)) where
      pub state_some : (last ≡ 0 → ⊥) → get_or work (base + (last - 1)) 0 ≡ F node (hist log top)
      state_some n =
          let p : 0 < last = omega arith in
          let b : is_by node (record_at log (last - 1)) ≡ true = rw (← e) at (number_is (λ x _. is_by node x) log top (rw e at p)) in
          let l : last ≤ top = rw e (number_bound (λ x _. is_by node x) log top) in
          let s : suc (last - 1) ≡ last = omega arith in
          word_is (last - 1) (omega arith) b ∙ ap (λ (n : ℕ). F node (hist log n)) (s ∙ e) ∙ sym (as_of_latest top)

      pub state_none : last ≡ 0 → F node [] ≡ F node (hist log top)
      state_none z = sym (as_of_latest top ∙ ap (λ (n : ℕ). F node (hist log n)) (sym e ∙ z) ∙ ap (F node) (hist_none log))

      -- a number, which is never above the records taken
      pub number_state : F node [] ≡ 0 → ((n : ℕ) → F node (hist log n) ≤ n) → number_in base work last ≡ F node (hist log top)
      number_state z bound =
          elim (ℕ_discrete last 0) [
            | yes q ↦ rw (eq-eqb last 0 q) (sym z ∙ state_none q)
            | no q ↦
                let l : F node (hist log top) ≤ last = rw (as_of_latest top, ← e) (bound last) in
                rw (ne_eqb last 0 q) (clamped (get_or work (base + (last - 1)) 0) (F node (hist log top)) last (state_some q) l)
          ]

-- ---- the server

entered_by_node : (F : ℕ → ℕ) (node : ℕ) (x : TraceRecord) → is_by node x ≡ true → word_by F x.node ≡ F node
entered_by_node F node x e = by_marked F (word_by F) (λ n. refl) node x.node e

pub server_cell_lem : State server_number server_cell
unfolding server_cell
server_cell_lem = record {
  own = λ node x h e. entered_by_node (λ n. server_number n (x ∷ h)) node x e;
  other = λ node x h e. ap (λ (s : ServerId). s.0) (server_other node x h e);
}

-- read at the node's latest record
pub server_is : (log : List ℕ) (node : ℕ) {count cap top last v : ℕ} {work : List ℕ} → Column (cell_of server_cell (hist log count)) (22 * cap) cap work
    → count ≤ cap → top ≤ count → last ≡ latest_by node (hist log top) → v ≡ server_in work cap last node → v ≡ server_number node (hist log top)
server_is log node {count} {cap} {top} {last} {v} {work} col taken upto e q =
    q
    ∙ elim (ℕ_discrete last 0) [
      | yes z ↦ rw (eq-eqb last 0 z) (sym (server_none node) ∙ state_none server_cell_lem log node col taken upto e z)
      | no z ↦ rw (ne_eqb last 0 z) (state_some server_cell_lem log node col taken upto e z)
    ]

-- ---- the restated mark

module _ (node : ℕ) (x : TraceRecord) (h : History) where
  pub restated_step : restated_number node (x ∷ h)
      ≡ cond (is_by node x) (cond (is_kind 5 x) (suc (length h)) (cond (is_kind 6 x) 0 (restated_number node h))) (restated_number node h)
  unfolding restated_number
  restated_step = refl

  pub pending_step : pending_number node (x ∷ h)
      ≡ cond (is_by node x) (cond (is_kind 7 x) (suc (length h))
      (cond (is_kind 6 x || is_kind 10 x || holds (uses_up x) (pending node h)) 0 (pending_number node h))) (pending_number node h)
  unfolding pending_number
  pending_step = refl

pub restated_none : (node : ℕ) → restated_number node [] ≡ 0
unfolding restated_number
restated_none node = refl

pub pending_none : (node : ℕ) → pending_number node [] ≡ 0
unfolding pending_number
pending_none node = refl

pub restated_cell_lem : State restated_number restated_cell
unfolding restated_cell
restated_cell_lem = record {
  own = λ node x h e. entered_by_node (λ n. restated_number n (x ∷ h)) node x e;
  other = λ node x h e. restated_step node x h ∙ rw e;
}

pub pending_cell_lem : State pending_number pending_cell
unfolding pending_cell
pending_cell_lem = record {
  own = λ node x h e. entered_by_node (λ n. pending_number n (x ∷ h)) node x e;
  other = λ node x h e. pending_step node x h ∙ rw e;
}

pub refused_cell_lem : State refused_number refused_cell
unfolding refused_cell
refused_cell_lem = record {
  own = λ node x h e. entered_by_node (λ n. refused_number n (x ∷ h)) node x e;
  other = λ node x h e. number_miss (λ y _. refuses node y) x h (rw e);
}

cond_within : (b u v : Bool) (n k : ℕ) → k ≤ n → cond b (cond u (suc n) (cond v 0 k)) k ≤ suc n
cond_within true true v n k l = omega arith
cond_within true false true n k l = omega arith
cond_within true false false n k l = omega arith
cond_within false u v n k l = omega arith

within : (F : ℕ → History → ℕ) (node : ℕ) (log : List ℕ) → ((h : History) → F node h ≤ length h) → (n : ℕ) → F node (hist log n) ≤ n
within F node log b n = omega (arith, b (hist log n), hist_length log n)

restated_below : (node : ℕ) (h : History) → restated_number node h ≤ length h
restated_below node [] = rw (restated_none node) (omega arith)
restated_below node (x ∷ h) =
    rw (restated_step node x h) (cond_within (is_by node x) (is_kind 5 x) (is_kind 6 x) (length h) (restated_number node h) (restated_below node h))

pending_below : (node : ℕ) (h : History) → pending_number node h ≤ length h
pending_below node [] = rw (pending_none node) (omega arith)
pending_below node (x ∷ h) =
    rw (pending_step node x h)
    (cond_within (is_by node x) (is_kind 7 x) (is_kind 6 x || is_kind 10 x || holds (uses_up x) (pending node h)) (length h) (pending_number node h)
    (pending_below node h))

pub restated_bound : (node : ℕ) (log : List ℕ) (n : ℕ) → restated_number node (hist log n) ≤ n
restated_bound node log = within restated_number node log (restated_below node)

pub pending_bound : (node : ℕ) (log : List ℕ) (n : ℕ) → pending_number node (hist log n) ≤ n
pending_bound node log = within pending_number node log (pending_below node)

pub refused_bound : (node : ℕ) (log : List ℕ) (n : ℕ) → refused_number node (hist log n) ≤ n
refused_bound node log = number_bound (λ x _. refuses node x) log

-- ---- what the numbers say

-- a node is restated where its latest RangesRestated is known
restated_cases : (b u v m : Bool) (n k : ℕ) → m ≡ not (eqb k 0)
    → cond b (cond u true (cond v false m)) m ≡ not (eqb (cond b (cond u (suc n) (cond v 0 k)) k) 0)
restated_cases true true v m n k e = rw eqb-suc-zero
restated_cases true false true m n k e = refl
restated_cases true false false m n k e = e
restated_cases false u v m n k e = e

mark_cases : (b u v : Bool) (o : Option Bool)
    → holds (λ (z : Bool). z) (or_else (when (b && (u || v)) u) o) ≡ cond b (cond u true (cond v false (holds (λ (z : Bool). z) o))) (holds (λ (z : Bool). z) o)
mark_cases true true v o = refl
mark_cases true false true o = refl
mark_cases true false false o = refl
mark_cases false u v o = refl

pub restated_mark : (node : ℕ) (h : History) → is_restated node h ≡ not (eqb (restated_number node h) 0)
unfolding is_restated latest restated_number
restated_mark node [] = refl
restated_mark node (x ∷ h) =
    mark_cases (is_by node x) (is_kind 5 x) (is_kind 6 x) (latest (tells_restated node) h)
    ∙ restated_cases (is_by node x) (is_kind 5 x) (is_kind 6 x) (is_restated node h) (length h) (restated_number node h) (restated_mark node h)

-- the pending RangeSplit is that of the record with its number
abbrev pub pending_as : List ℕ → ℕ → Option Pending
pending_as log k = cond (eqb k 0) None (Some (pending_by (record_at log (k - 1))))

pending_cases : (log : List ℕ) (b u v : Bool) (n k : ℕ) (p : Option Pending) → p ≡ pending_as log k
    → cond b (cond u (Some (pending_by (record_at log n))) (cond v None p)) p ≡ pending_as log (cond b (cond u (suc n) (cond v 0 k)) k)
pending_cases log true true v n k p e = let q : suc n - 1 ≡ n = omega arith in rw (eqb-suc-zero, q)
pending_cases log true false true n k p e = refl
pending_cases log true false false n k p e = e
pending_cases log false u v n k p e = e

pub pending_is : (node : ℕ) (log : List ℕ) (n : ℕ) → pending node (hist log n) ≡ pending_as log (pending_number node (hist log n))
unfolding pending pending_number
pending_is node log zero = rw hist_none
pending_is node log (suc n) =
    let x = record_at log n in
    rw (hist_suc, hist_length)
    (pending_cases log (is_by node x) (is_kind 7 x) (is_kind 6 x || is_kind 10 x || holds (uses_up x) (pending node (hist log n))) n
    (pending_number node (hist log n)) (pending node (hist log n))
    (pending_is node log n))

-- ---- the numbers, read at the node's latest record

module _ (log : List ℕ) (node : ℕ) {count cap top last v : ℕ} {work : List ℕ} (taken : count ≤ cap) (upto : top ≤ count)
    (e : last ≡ latest_by node (hist log top)) where
  pub restated_is : Column (cell_of restated_cell (hist log count)) (23 * cap) cap work → v ≡ number_in (23 * cap) work last
      → v ≡ restated_number node (hist log top)
  restated_is col q = q ∙ number_state restated_cell_lem log node col taken upto e (restated_none node) (restated_bound node log)

  pub refused_is : Column (cell_of refused_cell (hist log count)) (24 * cap) cap work → v ≡ number_in (24 * cap) work last → v
      ≡ refused_number node (hist log top)
  refused_is col q = q ∙ number_state refused_cell_lem log node col taken upto e (number_none (λ x _. refuses node x)) (refused_bound node log)

  pub pendingly_is : Column (cell_of pending_cell (hist log count)) (25 * cap) cap work → v ≡ number_in (25 * cap) work last
      → v ≡ pending_number node (hist log top)
  pendingly_is col q = q ∙ number_state pending_cell_lem log node col taken upto e (pending_none node) (pending_bound node log)

  -- a node is restated where the number is not 0
  pub mark_is : Column (cell_of restated_cell (hist log count)) (23 * cap) cap work → v ≡ number_in (23 * cap) work last
      → not (eqb v 0) ≡ is_restated node (hist log top)
  mark_is col q = ap (λ (n : ℕ). not (eqb n 0)) (restated_is col q) ∙ sym (restated_mark node (hist log top))
