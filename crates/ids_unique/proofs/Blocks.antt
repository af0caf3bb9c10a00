-- Laws of the blocks: which records have one, what the two columns say of them, and a walk from block to block.
use mathlib.Core.Path.{◌≡◌, refl, sym, ap, ◌∙◌}
use mathlib.Core.Bool.{Bool, true, false}
use mathlib.Core.List.{List, [], ◌∷◌}
use Rattle.std.specs.Prelude.{Option, None, Some}
use Prim.Native.Nat.{ℕ, ◌+◌, ◌*◌, ◌-◌, ◌≤◌, ◌<◌}
use native.Mathlib.Omega.{arith}
use lib.ListN.{get_or}
use Rattle.record.specs.Records.{TraceRecord}
use Rattle.rules.specs.History.{History, when, given, those, firsts}
use Rattle.rules.specs.IdsUnique.{Grant, grant_by, nonempty, first_grants, blocks_of}
use Rattle.history.specs.Logs.{hist}
use Rattle.history.specs.Columns.{Column, cell_of, latest_in, clamp}
use Rattle.history.specs.Places.{block_links, greatest_last}
use Rattle.history.proofs.Logs.{hist_less}
use Rattle.rules.proofs.Tellings.{when_value, when_holds}
use Rattle.history.proofs.Cells.{cell_at}
use Rattle.history.proofs.Chains.{latest_bound, clamped}
use Rattle.history.proofs.Walks.{look_end}
use Rattle.firsts.specs.Columns.{first_grant}
use Rattle.ids_unique.specs.Columns.{tells_block, block_bucket, latest_block, greatest_of_lasts, IdsIndexed}
use Rattle.record.proofs.Booleans.{none_some}
use Rattle.firsts.proofs.Grants.{grant_is, grants_more, grants_same}

module _ (x : TraceRecord) (h : History) where
  -- a block is a first grant that is not empty
  block_first : {g : Grant} → tells_block x h ≡ Some g → first_grant x h ≡ Some g
  unfolding tells_block
  block_first {g} e = go (first_grant x h) e
    where
      go : (o : Option Grant) → given (λ v. when (nonempty v) v) o ≡ Some g → o ≡ Some g
      go None q = q
      go (Some v) q = ap Some (when_value (nonempty v) v q)

  pub block_is : {g : Grant} → tells_block x h ≡ Some g → grant_by x ≡ g
  block_is e = grant_is x h (block_first e)

  block_full : {g : Grant} → tells_block x h ≡ Some g → nonempty g ≡ true
  unfolding tells_block
  block_full {g} e = go (first_grant x h) e
    where
      go : (o : Option Grant) → given (λ v. when (nonempty v) v) o ≡ Some g → nonempty g ≡ true
      go None q = none_some q
      go (Some v) q = rw (← when_value (nonempty v) v q) (when_holds (nonempty v) v q)

  pub block_none : first_grant x h ≡ None → tells_block x h ≡ None
  unfolding tells_block
  block_none e = rw e

  pub block_empty : {g : Grant} → first_grant x h ≡ Some g → nonempty g ≡ false → tells_block x h ≡ None
  unfolding tells_block
  block_empty e n = rw (e, n)

  pub block_new : {g : Grant} → first_grant x h ≡ Some g → nonempty g ≡ true → tells_block x h ≡ Some g
  unfolding tells_block
  block_new e n = rw (e, n)

  -- the records with a block are those of the one bucket
  pub block_in : {g : Grant} → tells_block x h ≡ Some g → block_bucket x h ≡ Some 0
  unfolding block_bucket
  block_in e = rw e

  pub in_block : {b : ℕ} → block_bucket x h ≡ Some b → tells_block x h ≡ Some (grant_by x)
  unfolding block_bucket
  in_block {b} e = go (tells_block x h) refl
    where
      go : (o : Option Grant) → tells_block x h ≡ o → tells_block x h ≡ Some (grant_by x)
      go None q = none_some (rw q at e)
      go (Some g) q = q ∙ ap Some (sym (block_is q))

  pub not_block : (block_bucket x h ≡ Some 0 → ⊥) → tells_block x h ≡ None
  not_block n = go (tells_block x h) refl
    where
      go : (o : Option Grant) → tells_block x h ≡ o → tells_block x h ≡ None
      go None q = q
      go (Some g) q = absurd (n (block_in q))

  -- the blocks, one record on
  pub blocks_more : {g : Grant} → tells_block x h ≡ Some g → blocks_of (x ∷ h) ≡ g ∷ blocks_of h
  unfolding blocks_of those
  blocks_more e = rw (grants_more x h (block_first e), block_full e)

  pub blocks_same : tells_block x h ≡ None → blocks_of (x ∷ h) ≡ blocks_of h
  unfolding blocks_of those tells_block
  blocks_same e = go (first_grant x h) refl
    where
      pass : (v : Grant) (t : Bool) → nonempty v ≡ t → when t v ≡ None → those nonempty (v ∷ first_grants h) ≡ those nonempty (first_grants h)
      pass v true q d = none_some (sym d)
      pass v false q d = rw q

      go : (o : Option Grant) → first_grant x h ≡ o → those nonempty (first_grants (x ∷ h)) ≡ those nonempty (first_grants h)
      go None q = ap (those nonempty) (grants_same x h q)
      go (Some v) q = ap (those nonempty) (grants_more x h q) ∙ pass v (nonempty v) refl (rw q at e)

-- there are none yet
module _ (log : List ℕ) where
  pub blocks_end : {i : ℕ} → i ≡ 0 → blocks_of (hist log i) ≡ []
  unfolding blocks_of first_grants firsts those
  blocks_end e = look_end blocks_of log e

-- what the columns say as of the first n records
module _ (log : List ℕ) {cap count n : ℕ} {work : List ℕ} (l : n ≤ count) (m : count ≤ cap) (k : IdsIndexed cap (hist log count) work) where
  column_at : (L : History → ℕ) (base : ℕ) → Column (cell_of (λ x h. L (x ∷ h)) (hist log count)) base cap work → 0 < n
      → get_or work (base + (n - 1)) 0 ≡ L (hist log n)
  column_at L base c p =
      c.word (n - 1) (omega arith) ∙ cell_at (λ x h. L (x ∷ h)) log count (n - 1) (omega arith) ∙ ap L (sym (hist_less log n p))

  pub link_is : 0 < n → clamp (get_or work (block_links * cap + (n - 1)) 0) n ≡ latest_block (hist log n)
  link_is p = clamped _ (latest_block (hist log n)) n (column_at latest_block (block_links * cap) k.links p) (latest_bound block_bucket 0 log n)

  pub last_is : 0 < n → get_or work (greatest_last * cap + (n - 1)) 0 ≡ greatest_of_lasts (blocks_of (hist log n))
  last_is p = column_at (λ h. greatest_of_lasts (blocks_of h)) (greatest_last * cap) k.lasts p

  pub link_none : n ≡ 0 → 0 ≡ latest_block (hist log n)
  unfolding latest_in
  link_none e = sym (look_end latest_block log e)

  pub last_none : n ≡ 0 → 0 ≡ greatest_of_lasts (blocks_of (hist log n))
  unfolding greatest_of_lasts
  last_none e = sym (ap greatest_of_lasts (blocks_end log e))
