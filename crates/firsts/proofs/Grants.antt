-- Laws of the first grants: which records have one, and where a walk along the chain of the firsts finds them.
use mathlib.Core.Path.{◌≡◌, refl, sym, ap, ◌∙◌}
use mathlib.Core.Bool.{Bool, true, false, ◌&&◌}
use mathlib.Core.List.{List, [], ◌∷◌}
use Rattle.std.specs.Prelude.{Option, None, Some}
use Prim.Native.Nat.{ℕ, zero, suc, ◌-◌, ◌<◌}
use native.Mathlib.Omega.{arith}
use lib.ListN.{length}
use lib.Dec.{eqb}
use borrow.Author.Tests.{eq-eqb, ne_eqb, eqb-true}
use Rattle.record.specs.Records.{TraceRecord, decode}
use Rattle.rules.specs.History.{History, is_kind, given, is_some, any_of, latest_of, firsts}
use Rattle.rules.specs.IdsUnique.{Grant, grant_by, tells_grant, same_index, first_grants}
use Rattle.record.proofs.Booleans.{never, and_left, and_right, none_some}
use Rattle.rules.proofs.Placed.{any_latest}
use Rattle.history.specs.Logs.{bytes_at, record_at, hist}
use Rattle.history.specs.Buckets.{bucket_by}
use Rattle.history.specs.Columns.{latest_in}
use Rattle.history.proofs.Logs.{record_bytes, hist_none, hist_suc, hist_length}
use Rattle.rules.proofs.Tellings.{fresh, fresh_told, fresh_more, fresh_same, when_holds, when_value}
use Rattle.history.proofs.Chains.{In, latest_here, latest_else}
use Rattle.history.proofs.Walks.{look_outside, look_less, look_end}
use Rattle.firsts.specs.Columns.{first_grant, first_write, first_bucket, grant_index, first_grant_at}

-- what was read of a record's bytes is so of the record at their place
pub read_at : {A : Type 0} (p : TraceRecord → A) {r : List ℕ} {t : A} (log : List ℕ) (i : ℕ) → r ≡ bytes_at i log → t ≡ p (decode r)
    → p (record_at log i) ≡ t
read_at p log i e q = ap p (sym (record_bytes log i e)) ∙ sym q

module _ (x : TraceRecord) (h : History) where
  -- a first grant is what is told afresh
  grant_fresh : first_grant x h ≡ fresh same_index tells_grant x h
  unfolding first_grant fresh first_grants
  grant_fresh = refl

  -- a first grant is the grant of a RangeIdsLeased
  grant_told : {g : Grant} → first_grant x h ≡ Some g → tells_grant x h ≡ Some g
  grant_told e = fresh_told same_index tells_grant x h (sym grant_fresh ∙ e)

  grant_kind : {g : Grant} → first_grant x h ≡ Some g → is_kind 11 x ≡ true
  grant_kind e = when_holds (is_kind 11 x) (grant_by x) (grant_told e)

  pub grant_is : {g : Grant} → first_grant x h ≡ Some g → grant_by x ≡ g
  grant_is e = when_value (is_kind 11 x) (grant_by x) (grant_told e)

  -- no other kind has one
  pub no_grant : is_kind 11 x ≡ false → first_grant x h ≡ None
  unfolding first_grant
  no_grant e = rw e

  -- and a RangeIdsLeased has none where its index has one before
  pub grant_known : is_kind 11 x ≡ true → any_of (same_index (grant_by x)) (first_grants h) ≡ true → first_grant x h ≡ None
  unfolding first_grant
  grant_known e k = rw (e, k)

  pub grant_new : is_kind 11 x ≡ true → any_of (same_index (grant_by x)) (first_grants h) ≡ false → first_grant x h ≡ Some (grant_by x)
  unfolding first_grant
  grant_new e k = rw (e, k)

  -- only a RaftApply has a write, and no RangeIdsLeased
  pub no_write : is_kind 3 x ≡ false → first_write x h ≡ None
  unfolding first_write
  no_write e = rw e

  granted_not_written : is_kind 11 x ≡ true → first_write x h ≡ None
  granted_not_written e =
      let k : x.kind ≡ 11 = eqb-true x.kind 11 e in
      no_write (ne_eqb x.kind 3 (λ z. omega arith))

  -- the bucket of a first grant, and the only grants of the chain
  pub grant_in : (cap : ℕ) {g : Grant} → first_grant x h ≡ Some g → first_bucket cap x h ≡ Some (bucket_by cap g.index)
  unfolding first_bucket
  grant_in cap e = rw e

  chained_grant : (cap : ℕ) {b : ℕ} → first_bucket cap x h ≡ Some b → is_kind 11 x ≡ true → first_grant x h ≡ Some (grant_by x)
  unfolding first_bucket
  chained_grant cap {b} e k = go (first_grant x h) refl
    where
      go : (t : Option Grant) → first_grant x h ≡ t → first_grant x h ≡ Some (grant_by x)
      go None q = none_some (rw (q, granted_not_written k) at e)
      go (Some g) q = q ∙ ap Some (sym (grant_is q))

  -- a record that is neither is in no bucket
  pub first_none : (cap : ℕ) → first_grant x h ≡ None → first_write x h ≡ None → first_bucket cap x h ≡ None
  unfolding first_bucket
  first_none cap e d = rw (e, d)

  -- the index of a first grant
  index_told : {i : ℕ} → grant_index x h ≡ Some i → (g : Grant) × (first_grant x h ≡ Some g) × (g.index ≡ i)
  unfolding grant_index
  index_told {i} = go (first_grant x h) refl
    where
      go : (t : Option Grant) → first_grant x h ≡ t → given (λ g. Some g.index) t ≡ Some i
          → (g : Grant) × (first_grant x h ≡ Some g) × (g.index ≡ i)
      go None q e = none_some e
      go (Some g) q e = (g, q, cc)

  index_of : {g : Grant} → first_grant x h ≡ Some g → grant_index x h ≡ Some g.index
  unfolding grant_index
  index_of e = rw e

-- the first grants, one record on
module _ (x : TraceRecord) (h : History) where
  pub grants_more : {g : Grant} → first_grant x h ≡ Some g → first_grants (x ∷ h) ≡ g ∷ first_grants h
  unfolding first_grants
  grants_more e = fresh_more same_index tells_grant x h (sym (grant_fresh x h) ∙ e)

  pub grants_same : first_grant x h ≡ None → first_grants (x ∷ h) ≡ first_grants h
  unfolding first_grants
  grants_same e = fresh_same same_index tells_grant x h (sym (grant_fresh x h) ∙ e)

-- a record is a grant at an index
abbrev pub grants_at : ℕ → TraceRecord → Bool
grants_at index x = is_kind 11 x && eqb x.b index

module _ (index : ℕ) (x : TraceRecord) (h : History) where
  told_at : grant_index x h ≡ Some index → grants_at index x ≡ true
  told_at e =
      let t = index_told x h e in
      let k : is_kind 11 x ≡ true = grant_kind x h t.1 in
      let q : x.b ≡ index = ap (λ (g : Grant). g.index) (grant_is x h t.1) ∙ t.2 in
      rw (k, eq-eqb x.b index q)

  -- outside the bucket of the index there is none
  grant_step : (cap : ℕ) → (first_bucket cap x h ≡ Some (bucket_by cap index) → ⊥) → first_grant_at index (x ∷ h) ≡ first_grant_at index h
  grant_step cap n =
      latest_else grant_index index x h
      (λ e. let t = index_told x h e in n (grant_in x h cap t.1 ∙ ap (λ (i : ℕ). Some (bucket_by cap i)) t.2))

  grant_other : grants_at index x ≡ false → first_grant_at index (x ∷ h) ≡ first_grant_at index h
  grant_other n = latest_else grant_index index x h (λ e. never (told_at e) n)

  grant_here : (cap : ℕ) {b : ℕ} → first_bucket cap x h ≡ Some b → grants_at index x ≡ true → first_grant_at index (x ∷ h) ≡ suc (length h)
  grant_here cap e t =
      latest_here grant_index index x h
      (index_of x h (chained_grant x h cap e (and_left (is_kind 11 x) (eqb x.b index) t))
      ∙ ap Some (eqb-true x.b index (and_right (is_kind 11 x) (eqb x.b index) t)))

-- a walk along the chain: what it passes over, a turn that finds, and one that does not
module _ (index : ℕ) (log : List ℕ) where
  pub grant_skip : (cap k : ℕ) → (In (first_bucket cap) (bucket_by cap index) log k → ⊥)
      → first_grant_at index (hist log (suc k)) ≡ first_grant_at index (hist log k)
  grant_skip cap = look_outside (first_grant_at index) (first_bucket cap) (bucket_by cap index) log (λ x h n. grant_step index x h cap n)

  pub grant_hit : (cap : ℕ) {i b : ℕ} → 0 < i → In (first_bucket cap) b log (i - 1) → grants_at index (record_at log (i - 1)) ≡ true
      → first_grant_at index (hist log i) ≡ i
  grant_hit cap {i} l m t =
      let n : length (hist log (i - 1)) ≡ i - 1 = hist_length log (i - 1) in
      look_less (first_grant_at index) log i l ∙ grant_here index (record_at log (i - 1)) (hist log (i - 1)) cap m t ∙ omega arith

  pub grant_miss : {i : ℕ} → 0 < i → grants_at index (record_at log (i - 1)) ≡ false
      → first_grant_at index (hist log i) ≡ first_grant_at index (hist log (i - 1))
  grant_miss {i} l t = look_less (first_grant_at index) log i l ∙ grant_other index (record_at log (i - 1)) (hist log (i - 1)) t

  pub grant_end : {i : ℕ} → i ≡ 0 → first_grant_at index (hist log i) ≡ i
  unfolding latest_in
  grant_end e = look_end (first_grant_at index) log e ∙ sym e

-- the grant of the record with a number, none for 0
abbrev pub grant_numbered : List ℕ → ℕ → Option Grant
grant_numbered log zero = None
grant_numbered log (suc k) = Some (grant_by (record_at log k))

-- the first grant at an index is that of the record found
module _ (g : Grant) (N : ℕ → Option Grant) (x : TraceRecord) (h : History) (here : N (suc (length h)) ≡ Some (grant_by x))
    (past : latest_of (same_index g) (first_grants h) ≡ N (first_grant_at g.index h)) where
  latest_quiet_step : first_grant x h ≡ None → latest_of (same_index g) (first_grants (x ∷ h)) ≡ N (first_grant_at g.index (x ∷ h))
  unfolding latest_in grant_index
  latest_quiet_step e = rw (grants_same x h e, e) past

  latest_told_step : (v : Grant) (t : Bool) → first_grant x h ≡ Some v → eqb g.index v.index ≡ t
      → latest_of (same_index g) (v ∷ first_grants h) ≡ N (first_grant_at g.index (x ∷ h))
  unfolding latest_of latest_in grant_index
  latest_told_step v true e t = rw (e, t) (sym (here ∙ ap Some (grant_is x h e)))
  latest_told_step v false e t = rw (e, t) past

  latest_step : latest_of (same_index g) (first_grants (x ∷ h)) ≡ N (first_grant_at g.index (x ∷ h))
  latest_step = go (first_grant x h) refl
    where
      go : (o : Option Grant) → first_grant x h ≡ o → latest_of (same_index g) (first_grants (x ∷ h)) ≡ N (first_grant_at g.index (x ∷ h))
      go None e = latest_quiet_step e
      go (Some v) e = ap (latest_of (same_index g)) (grants_more x h e) ∙ latest_told_step v (eqb g.index v.index) e refl

latest_first : (g : Grant) (log : List ℕ) → latest_of (same_index g) (first_grants []) ≡ grant_numbered log (first_grant_at g.index [])
unfolding latest_of first_grants firsts latest_in
latest_first g log = refl

pub latest_grant : (g : Grant) (log : List ℕ) (n : ℕ)
    → latest_of (same_index g) (first_grants (hist log n)) ≡ grant_numbered log (first_grant_at g.index (hist log n))
latest_grant g log zero = rw (hist_none log) (latest_first g log)
latest_grant g log (suc n) =
    rw (hist_suc log n)
    (latest_step g (grant_numbered log) (record_at log n) (hist log n) (ap (grant_numbered log) (ap suc (hist_length log n))) (latest_grant g log n))

-- whether there is one is whether a record is found
pub any_grant : (g : Grant) (log : List ℕ) (n k : ℕ) → k ≡ first_grant_at g.index (hist log n)
    → any_of (same_index g) (first_grants (hist log n)) ≡ is_some (grant_numbered log k)
any_grant g log n k e = any_latest (same_index g) (first_grants (hist log n)) ∙ ap is_some (latest_grant g log n ∙ ap (grant_numbered log) (sym e))
