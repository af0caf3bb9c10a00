-- What a record taken puts and states: its value, at the index that its kind says. Assumes nothing.
use mathlib.Core.Path.{◌≡◌, refl, sym, ap, ◌∙◌}
use mathlib.Core.Bool.{Bool, true, false, cond}
use Rattle.std.specs.Prelude.{Option, None, Some}
use Prim.Native.Nat.{ℕ, suc, ◌-◌}
use native.Mathlib.Omega.{arith}
use lib.ListN.{length}
use Rattle.record.specs.Records.{TraceRecord, decode}
use Rattle.record.proofs.Booleans.{none_some}
use Rattle.rules.specs.History.{History, given, any_of}
use Rattle.rules.specs.Descriptors.{Entry, held_by, tells_put, tells_stated, same_place, standing}
use Rattle.history.specs.Logs.{record_at, hist}
use Rattle.history.specs.Pasts.{IsTaken}
use Rattle.history.specs.declared.past.Past.{Past}
use Rattle.history.specs.declared.walk.Taken.{Taken}
use Rattle.history.proofs.Logs.{record_bytes, hist_length}
use Rattle.history.proofs.Chains.{In}
use Rattle.rules.proofs.Roles.{puts_entry, states_entry}
use Rattle.rules.proofs.Tellings.{fresh}
use Rattle.history.specs.Buckets.{bucket_by, bucket_by_two}
use Rattle.descriptors.specs.Columns.{new_value, first_value, same_generation, standing_bucket, stated_bucket, generation_bucket, put_entry, stated_index, stated_entry}

-- a record taken is that of its place, and its number is the one after those before it
module _ {p : Past} {y : Taken} (t : IsTaken p y) where
  pub record_taken : record_at p.log.now (y.number - 1) ≡ decode y.record.now
  record_taken = sym (record_bytes p.log.now (y.number - 1) t.bytes)

  number_taken : suc (length (hist p.log.now (y.number - 1))) ≡ y.number
  number_taken = omega (arith, t.some, hist_length p.log.now (y.number - 1))

  pub put_is : {v : Entry} → tells_put (record_at p.log.now (y.number - 1)) (hist p.log.now (y.number - 1)) ≡ Some v → v ≡ put_entry y
  put_is e =
      puts_entry (record_at p.log.now (y.number - 1)) (hist p.log.now (y.number - 1)) e
      ∙ ap (λ (x : TraceRecord). record { range = x.a; index = x.b; held = held_by x; number = suc (length (hist p.log.now (y.number - 1))) }) record_taken
      ∙ ap (λ (n : ℕ). record { range = (decode y.record.now).a; index = (decode y.record.now).b; held = held_by (decode y.record.now); number = n }) number_taken

  stated_is : {v : Entry} → tells_stated (record_at p.log.now (y.number - 1)) (hist p.log.now (y.number - 1)) ≡ Some v → v ≡ stated_entry y
  stated_is e =
      states_entry (record_at p.log.now (y.number - 1)) (hist p.log.now (y.number - 1)) e
      ∙ ap (λ (x : TraceRecord). record { range = x.a; index = stated_index x; held = held_by x; number = suc (length (hist p.log.now (y.number - 1))) }) record_taken
      ∙ ap
      (λ (n : ℕ). record { range = (decode y.record.now).a; index = stated_index (decode y.record.now); held = held_by (decode y.record.now); number = n })
      number_taken

-- what a new value is: a put at whose place none stood
module _ {A : Type 0} where
  kept_go : (o : Option A) (t : A → Bool) (v : A) → given (λ p. cond (t p) None (Some p)) o ≡ Some v → (o ≡ Some v) × (t v ≡ false)
  kept_go None t v e = none_some e
  kept_go (Some p) t v e = go (t p) refl e
    where
      go : (b : Bool) → t p ≡ b → cond b None (Some p) ≡ Some v → (Some p ≡ Some v) × (t v ≡ false)
      go true q w = none_some w
      go false q w = let m : p ≡ v = cc in (w, ap t (sym m) ∙ q)

pub new_puts : (x : TraceRecord) (h : History) {v : Entry} → new_value x h ≡ Some v → tells_put x h ≡ Some v
unfolding new_value
new_puts x h {v} e = (kept_go (tells_put x h) (λ p. any_of (same_place p) (standing h)) v e).0

pub first_new : (x : TraceRecord) (h : History) {v : Entry} → first_value x h ≡ Some v → new_value x h ≡ Some v
unfolding first_value
first_new x h {v} e = (kept_go (new_value x h) (λ p. any_of (same_generation p) (standing h)) v e).0

pub first_free : (x : TraceRecord) (h : History) {v : Entry} → first_value x h ≡ Some v → any_of (same_generation v) (standing h) ≡ false
unfolding first_value
first_free x h {v} e = (kept_go (new_value x h) (λ p. any_of (same_generation p) (standing h)) v e).1

-- the standing values are what is told afresh
pub new_fresh : (x : TraceRecord) (h : History) → new_value x h ≡ fresh same_place tells_put x h
unfolding new_value fresh standing
new_fresh x h = refl

-- a record in a bucket tells something
bucket_go : (o : Option Entry) (f : Entry → ℕ) (b : ℕ) → given (λ v. Some (f v)) o ≡ Some b → (v : Entry) × (o ≡ Some v)
bucket_go None f b e = none_some e
bucket_go (Some v) f b e = (v, refl)

module _ (cap : ℕ) {b : ℕ} {p : Past} {y : Taken} (t : IsTaken p y) where
  pub in_standing : In (standing_bucket cap) b p.log.now (y.number - 1)
      → new_value (record_at p.log.now (y.number - 1)) (hist p.log.now (y.number - 1)) ≡ Some (put_entry y)
  unfolding standing_bucket
  in_standing e =
      let w = bucket_go (new_value (record_at p.log.now (y.number - 1)) (hist p.log.now (y.number - 1))) (λ v. bucket_by cap v.range) b e in
      w.1 ∙ ap Some (put_is t (new_puts (record_at p.log.now (y.number - 1)) (hist p.log.now (y.number - 1)) w.1))

  pub in_stated : In (stated_bucket cap) b p.log.now (y.number - 1)
      → tells_stated (record_at p.log.now (y.number - 1)) (hist p.log.now (y.number - 1)) ≡ Some (stated_entry y)
  unfolding stated_bucket
  in_stated e =
      let w = bucket_go (tells_stated (record_at p.log.now (y.number - 1)) (hist p.log.now (y.number - 1))) (λ v. bucket_by cap v.range) b e in
      w.1 ∙ ap Some (stated_is t w.1)

  pub in_generation : In (generation_bucket cap) b p.log.now (y.number - 1)
      → first_value (record_at p.log.now (y.number - 1)) (hist p.log.now (y.number - 1)) ≡ Some (put_entry y)
  unfolding generation_bucket
  in_generation e =
      let x = record_at p.log.now (y.number - 1) in
      let h = hist p.log.now (y.number - 1) in
      let w = bucket_go (first_value x h) (λ v. bucket_by_two cap v.range v.held.generation) b e in
      w.1 ∙ ap Some (put_is t (new_puts x h (first_new x h w.1)))
