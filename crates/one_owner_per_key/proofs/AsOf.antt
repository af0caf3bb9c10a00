-- Laws of the two cells: read at a node's latest record, they say the node's latest end and the latest range it newly held.
use mathlib.Core.Path.{◌≡◌, refl, sym, ap, ◌∙◌}
use mathlib.Core.Bool.{Bool, true, false, cond, not, ◌&&◌}
use mathlib.Core.List.{List, ◌∷◌}
use Prim.Native.Nat.{ℕ, zero, suc, ◌+◌, ◌-◌, ◌*◌, ◌/◌, ◌%◌, ◌≤◌, ◌<◌}
use native.Mathlib.Omega.{arith}
use lib.ListN.{get_or}
use lib.Dec.{eqb, eqb-suc-zero}
use borrow.Author.Tests.{eq-eqb, ne_eqb}
use Rattle.record.specs.Records.{TraceRecord}
use Rattle.rules.specs.History.{History, is_by}
use Rattle.rules.specs.OneOwnerPerKey.{is_holding, has_hold}
use Rattle.history.specs.Logs.{record_at, hist}
use Rattle.history.specs.Columns.{clamp}
use Rattle.history.proofs.Logs.{hist_none, hist_length, hist_suc}
use Rattle.history.proofs.Cells.{cell_at}
use Rattle.history.proofs.Chains.{clamped}
use Rattle.one_owner_per_key.specs.Numbers.{latest_by, ends_all, latest_end, newly_holds, latest_newly}
use Rattle.one_owner_per_key.specs.Columns.{OwnersIndexed, newly_cell, ended_cell, word_by, bit, end_in, newest_in, before_in}
use Rattle.record.proofs.Booleans.{and_left}
use Rattle.rules.proofs.Marks.{by_marked}
use Rattle.one_owner_per_key.proofs.Latest.{number_none, number_bound, number_is, number_step, at_miss, as_of}

-- the cells of a node's record
pub newly_cell_lem : (node : ℕ) (x : TraceRecord) (h : History) → is_by node x ≡ true → newly_cell x h ≡ 2 * latest_newly node h + bit (newly_holds node x h)
unfolding newly_cell
newly_cell_lem node x h e =
    by_marked (λ n. 2 * latest_newly n h + bit (newly_holds n x h)) (word_by (λ n. 2 * latest_newly n h + bit (newly_holds n x h))) (λ n. refl) node x.node e

pub ended_cell_lem : (node : ℕ) (x : TraceRecord) (h : History) → is_by node x ≡ true → ended_cell x h ≡ latest_end node (x ∷ h)
unfolding ended_cell
ended_cell_lem node x h e = by_marked (λ n. latest_end n (x ∷ h)) (word_by (λ n. latest_end n (x ∷ h))) (λ n. refl) node x.node e

-- what newly holds a range for a node is the node's
pub newly_by : (node : ℕ) (x : TraceRecord) (h : History) → newly_holds node x h ≡ true → is_by node x ≡ true
newly_by node x h e = and_left (is_by node x) (is_holding x) (and_left (is_by node x && is_holding x) (not (has_hold node x.a h)) e)

halves : (n : ℕ) (b : Bool) → ((2 * n + bit b) / 2 ≡ n) × (eqb ((2 * n + bit b) % 2) 1 ≡ b)
halves n true = (omega arith, eq-eqb ((2 * n + 1) % 2) 1 (omega arith))
halves n false = (omega arith, ne_eqb ((2 * n + 0) % 2) 1 (λ e. omega arith))

module _ (log : List ℕ) (count node : ℕ) {cap : ℕ} {work : List ℕ} (ix : OwnersIndexed cap (hist log count) work) (taken : count ≤ cap) where
  -- the word of a node's record at place k
  newly_word : (k : ℕ) → k < count → is_by node (record_at log k) ≡ true
      → get_or work (20 * cap + k) 0 ≡ 2 * latest_newly node (hist log k) + bit (newly_holds node (record_at log k) (hist log k))
  newly_word k l e = ix.newly.word k (omega arith) ∙ cell_at newly_cell log count k l ∙ newly_cell_lem node (record_at log k) (hist log k) e

  ended_word : (k : ℕ) → k < count → is_by node (record_at log k) ≡ true → get_or work (21 * cap + k) 0 ≡ latest_end node (hist log (suc k))
  ended_word k l e =
      ix.ended.word k (omega arith) ∙ cell_at ended_cell log count k l ∙ ended_cell_lem node (record_at log k) (hist log k) e
      ∙ ap (latest_end node) (sym (hist_suc log k))

  -- the list goes on with the one newly held before
  back : (k : ℕ) → k < count → is_by node (record_at log k) ≡ true → clamp (get_or work (20 * cap + k) 0 / 2) k ≡ latest_newly node (hist log k)
  back k l e =
      clamped (get_or work (20 * cap + k) 0 / 2) (latest_newly node (hist log k)) k
      (ap (λ (v : ℕ). v / 2) (newly_word k l e) ∙ (halves (latest_newly node (hist log k)) (newly_holds node (record_at log k) (hist log k))).0)
      (number_bound (newly_holds node) log k)

  pub before_is : (k : ℕ) → 0 < k → k ≤ count → is_by node (record_at log (k - 1)) ≡ true → before_in work cap k ≡ latest_newly node (hist log (k - 1))
  before_is k l m e = back (k - 1) (omega arith) e

  end_at : (last : ℕ) → last ≤ count → (0 < last → is_by node (record_at log (last - 1)) ≡ true) → end_in work cap last ≡ latest_end node (hist log last)
  end_at zero l e = sym (rw (hist_none, number_none (λ x _. ends_all node x)))
  end_at (suc k) l e =
      let s : suc k - 1 ≡ k = omega arith in
      let q : is_by node (record_at log k) ≡ true = rw s at (e (omega arith)) in
      rw (eqb-suc-zero, s)
      (clamped (get_or work (21 * cap + k) 0) (latest_end node (hist log (suc k))) (suc k) (ended_word k (omega arith) q)
      (number_bound (λ x _. ends_all node x) log (suc k)))

  newest_at : (last : ℕ) → last ≤ count → (0 < last → is_by node (record_at log (last - 1)) ≡ true) → newest_in work cap last
      ≡ latest_newly node (hist log last)
  newest_at zero l e = sym (rw (hist_none, number_none (newly_holds node)))
  newest_at (suc k) l e =
      let s : suc k - 1 ≡ k = omega arith in
      let q : is_by node (record_at log k) ≡ true = rw s at (e (omega arith)) in
      let b = newly_holds node (record_at log k) (hist log k) in
      let w : eqb (get_or work (20 * cap + k) 0 % 2) 1 ≡ b =
      ap (λ (v : ℕ). eqb (v % 2) 1) (newly_word k (omega arith) q) ∙ (halves (latest_newly node (hist log k)) b).1 in
      let u : latest_newly node (hist log (suc k)) ≡ cond b (suc k) (latest_newly node (hist log k)) =
      ap (latest_newly node) (hist_suc log k) ∙ number_step (newly_holds node) (record_at log k) (hist log k) ∙ rw hist_length in
      rw (eqb-suc-zero, s, w, back k (omega arith) q, u)

  module _ {top last : ℕ} (upto : top ≤ count) (e : last ≡ latest_by node (hist log top)) where
    is_by_lem : 0 < last → is_by node (record_at log (last - 1)) ≡ true
    is_by_lem l = rw (← e) at (number_is (λ x _. is_by node x) log top (rw e at l))

    within : last ≤ top
    within = rw e (number_bound (λ x _. is_by node x) log top)

    -- only a node's own records end what it holds ..
    pub end_is : end_in work cap last ≡ latest_end node (hist log top)
    end_is =
        end_at last (omega (arith, within)) is_by_lem
        ∙ sym (as_of (λ x _. is_by node x) log (λ n. latest_end node (hist log n)) (λ k m. at_miss (λ x _. ends_all node x) log k (rw m)) top ∙ rw (← e))

    -- .. and make it newly hold a range
    pub newest_is : newest_in work cap last ≡ latest_newly node (hist log top)
    newest_is =
        newest_at last (omega (arith, within)) is_by_lem
        ∙ sym (as_of (λ x _. is_by node x) log (λ n. latest_newly node (hist log n)) (λ k m. at_miss (newly_holds node) log k (rw m)) top ∙ rw (← e))
