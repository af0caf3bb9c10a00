-- Laws of the writes that count: which records have one, and where a walk along the chain of the firsts finds them.
use mathlib.Core.Path.{◌≡◌, refl, sym, ap, ◌∙◌}
use mathlib.Core.Bool.{Bool, true, false, ◌&&◌}
use mathlib.Core.List.{List, [], ◌∷◌}
use Rattle.std.specs.Prelude.{Option, None, Some}
use Prim.Native.Nat.{ℕ, suc, ◌-◌, ◌<◌}
use native.Mathlib.Omega.{arith}
use lib.Dec.{eqb}
use borrow.Author.Tests.{ne_eqb, eqb-true}
use Rattle.record.specs.declared.named.ApplyEffect.TheVariants.{Applied}
use Rattle.record.specs.Records.{TraceRecord}
use Rattle.record.proofs.Booleans.{and_left, and_right, none_some}
use Rattle.rules.specs.History.{History, is_kind, any_of}
use Rattle.rules.specs.GenerationsRise.{Write, has_effect, tells_write, same_write, writes}
use Rattle.rules.proofs.Skips.{any_of_nil, any_of_hit, any_of_skip, firsts_nil}
use Rattle.rules.proofs.Tellings.{fresh, fresh_told, fresh_more, fresh_same, when_holds, when_value}
use Rattle.rules.proofs.Writes.{is_write}
use Rattle.history.specs.Logs.{record_at, hist}
use Rattle.history.specs.Buckets.{bucket_by_two}
use Rattle.history.proofs.Chains.{In}
use Rattle.history.proofs.Walks.{look_less, look_end, look_outside}
use Rattle.firsts.specs.Columns.{first_grant, first_write, first_bucket, write_of, placed}
use Rattle.firsts.proofs.Grants.{no_grant}

module _ (x : TraceRecord) (h : History) where
  -- a write that counts is what is told afresh
  write_fresh : first_write x h ≡ fresh same_write tells_write x h
  unfolding first_write fresh writes
  write_fresh = refl

  -- a write that counts is the write of a RaftApply
  pub write_told : {w : Write} → first_write x h ≡ Some w → tells_write x h ≡ Some w
  write_told e = fresh_told same_write tells_write x h (sym write_fresh ∙ e)

  pub write_is : {w : Write} → first_write x h ≡ Some w → write_of x h ≡ w
  write_is e = when_value (is_write x) (write_of x h) (write_told e)

  write_holds : {w : Write} → first_write x h ≡ Some w → is_write x ≡ true
  write_holds e = when_holds (is_write x) (write_of x h) (write_told e)

  write_kind : {w : Write} → first_write x h ≡ Some w → is_kind 3 x ≡ true
  write_kind e = and_left (is_kind 3 x) _ (and_left (has_effect Applied x) _ (write_holds e))

  -- none, known, new
  pub write_none : is_write x ≡ false → first_write x h ≡ None
  unfolding first_write
  write_none e = rw e

  pub write_known : is_write x ≡ true → any_of (same_write (write_of x h)) (writes h) ≡ true → first_write x h ≡ None
  unfolding first_write
  write_known e k = rw (e, k)

  pub write_new : is_write x ≡ true → any_of (same_write (write_of x h)) (writes h) ≡ false → first_write x h ≡ Some (write_of x h)
  unfolding first_write
  write_new e k = rw (e, k)

  -- a RaftApply is no grant
  pub written_not_granted : is_kind 3 x ≡ true → first_grant x h ≡ None
  written_not_granted e = let k : x.kind ≡ 3 = eqb-true x.kind 3 e in no_grant x h (ne_eqb x.kind 11 (λ z. omega arith))

  -- the bucket of a write that counts, and the only writes of the chain
  pub write_in : (cap : ℕ) {w : Write} → first_write x h ≡ Some w → first_bucket cap x h ≡ Some (bucket_by_two cap w.range w.index)
  unfolding first_bucket
  write_in cap e = rw (written_not_granted (write_kind e), e)

  chained_write : (cap : ℕ) {b : ℕ} → first_bucket cap x h ≡ Some b → is_kind 3 x ≡ true → first_write x h ≡ Some (write_of x h)
  unfolding first_bucket
  chained_write cap {b} e k = go (first_write x h) refl
    where
      go : (t : Option Write) → first_write x h ≡ t → first_write x h ≡ Some (write_of x h)
      go None q = none_some (rw (written_not_granted k, q) at e)
      go (Some w) q = q ∙ ap Some (sym (write_is q))

  -- the writes, one record on
  pub writes_more : {w : Write} → first_write x h ≡ Some w → writes (x ∷ h) ≡ w ∷ writes h
  unfolding writes
  writes_more e = fresh_more same_write tells_write x h (sym write_fresh ∙ e)

  pub writes_same : first_write x h ≡ None → writes (x ∷ h) ≡ writes h
  unfolding writes
  writes_same e = fresh_same same_write tells_write x h (sym write_fresh ∙ e)

-- a record is a RaftApply at a range and index
abbrev pub placed_at : ℕ → ℕ → TraceRecord → Bool
placed_at range index x = is_kind 3 x && (eqb range x.a && eqb index x.b)

module _ (range index : ℕ) (x : TraceRecord) (h : History) where
  -- one that is, and is in the chain, has the write that counted
  placed_here : (cap : ℕ) {b : ℕ} → first_bucket cap x h ≡ Some b → placed_at range index x ≡ true → any_of (placed range index) (writes (x ∷ h)) ≡ true
  placed_here cap e t =
      ap (any_of (placed range index)) (writes_more x h (chained_write x h cap e (and_left (is_kind 3 x) _ t)))
      ∙ any_of_hit (placed range index) (write_of x h) (writes h) (and_right (is_kind 3 x) _ t)

  -- one that is not changes nothing
  placed_else : (o : Option Write) → first_write x h ≡ o → ((w : Write) → first_write x h ≡ Some w → placed range index w ≡ false)
      → any_of (placed range index) (writes (x ∷ h)) ≡ any_of (placed range index) (writes h)
  placed_else None e n = ap (any_of (placed range index)) (writes_same x h e)
  placed_else (Some w) e n = ap (any_of (placed range index)) (writes_more x h e) ∙ any_of_skip (placed range index) w (writes h) (n w e)

  placed_other : placed_at range index x ≡ false → any_of (placed range index) (writes (x ∷ h)) ≡ any_of (placed range index) (writes h)
  placed_other t = placed_else (first_write x h) refl (λ w e. rw (← write_is x h e) (right_false (write_kind x h e) t))
    where
      right_false : {a b : Bool} → a ≡ true → a && b ≡ false → b ≡ false
      right_false {a} {b} p r = rw p at r

  -- nor does one outside the bucket
  placed_outside : (cap : ℕ) → (first_bucket cap x h ≡ Some (bucket_by_two cap range index) → ⊥)
      → any_of (placed range index) (writes (x ∷ h)) ≡ any_of (placed range index) (writes h)
  placed_outside cap n = placed_else (first_write x h) refl (λ w e. go w e (placed range index w) refl)
    where
      go : (w : Write) → first_write x h ≡ Some w → (t : Bool) → placed range index w ≡ t → t ≡ false
      go w e true t =
          let p : range ≡ w.range = eqb-true range w.range (and_left (eqb range w.range) (eqb index w.index) t) in
          let q : index ≡ w.index = eqb-true index w.index (and_right (eqb range w.range) (eqb index w.index) t) in
          absurd (n (rw (p, q) (write_in x h cap e)))
      go w e false t = refl

-- a walk along the chain: what it passes over, a turn that finds, and one that does not
module _ (range index : ℕ) (log : List ℕ) where
  abbrev pub counted_in : ℕ → Bool
  counted_in n = any_of (placed range index) (writes (hist log n))

  pub counted_skip : (cap k : ℕ) → (In (first_bucket cap) (bucket_by_two cap range index) log k → ⊥) → counted_in (suc k) ≡ counted_in k
  counted_skip cap =
      look_outside (λ h. any_of (placed range index) (writes h)) (first_bucket cap) (bucket_by_two cap range index) log
      (λ x h n. placed_outside range index x h cap n)

  pub counted_hit : (cap : ℕ) {i b : ℕ} → 0 < i → In (first_bucket cap) b log (i - 1) → placed_at range index (record_at log (i - 1)) ≡ true
      → counted_in i ≡ true
  counted_hit cap {i} l m t =
      look_less (λ h. any_of (placed range index) (writes h)) log i l ∙ placed_here range index (record_at log (i - 1)) (hist log (i - 1)) cap m t

  pub counted_miss : {i : ℕ} → 0 < i → placed_at range index (record_at log (i - 1)) ≡ false → counted_in i ≡ counted_in (i - 1)
  counted_miss {i} l t =
      look_less (λ h. any_of (placed range index) (writes h)) log i l ∙ placed_other range index (record_at log (i - 1)) (hist log (i - 1)) t

  none_counted : any_of (placed range index) (writes []) ≡ false
  unfolding writes
  none_counted = ap (any_of (placed range index)) (firsts_nil tells_write same_write) ∙ any_of_nil (placed range index)

  pub counted_end : {i : ℕ} → i ≡ 0 → counted_in i ≡ false
  counted_end e = look_end (λ h. any_of (placed range index) (writes h)) log e ∙ none_counted
