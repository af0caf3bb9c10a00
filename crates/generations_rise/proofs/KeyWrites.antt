-- Laws of a key's writes: a key's bucket, the last write of a key along its chain, and what that write is.
use mathlib.Core.Path.{◌≡◌, refl, sym, ap, ◌∙◌}
use mathlib.Core.Bool.{Bool, true, false, ◌&&◌}
use mathlib.Core.List.{List, [], ◌∷◌}
use Rattle.std.proofs.lemmas.Option.{same_Some}
use Rattle.std.specs.Prelude.{Option, None, Some}
use Prim.Native.Nat.{ℕ, zero, suc, ◌+◌, ◌*◌, ◌-◌, ◌≤◌, ◌<◌}
use native.Mathlib.Omega.{arith}
use lib.ListN.{length, get_or}
use Rattle.record.specs.Keys.{Key, key_eqb}
use Rattle.record.specs.Records.{TraceRecord, decode}
use Rattle.record.proofs.Keys.{list_eqb_same}
use Rattle.rules.specs.History.{History, when, given, is_some, holds, latest_of}
use Rattle.rules.specs.Descriptors.{span_of}
use Rattle.rules.specs.GenerationsRise.{Write, writes, is_earlier, tells_write, same_write}
use Rattle.record.proofs.Booleans.{never, none_some}
use Rattle.rules.proofs.Skips.{latest_of_nil, latest_of_hit, latest_of_skip, firsts_nil}
use Rattle.history.specs.declared.past.Past.{Past}
use Rattle.history.specs.declared.walk.Taken.{Taken}
use Rattle.history.specs.Logs.{record_at, hist}
use Rattle.history.specs.Pasts.{IsTaken}
use Rattle.history.specs.Columns.{latest_in}
use Rattle.history.specs.Places.{written_at}
use Rattle.history.proofs.Logs.{record_bytes, hist_none, hist_suc, hist_length}
use Rattle.rules.proofs.Tellings.{when_holds, when_value}
use Rattle.history.proofs.Cells.{cell_at}
use Rattle.history.proofs.Chains.{In, latest_here, latest_else}
use Rattle.history.proofs.Walks.{look_less, look_end, look_outside}
use Rattle.firsts.specs.Columns.{first_write, write_of}
use Rattle.generations_rise.specs.Columns.{rated_write, bucket_by_key, key_bucket, generation_by, writes_key, last_write_at, GenerationsIndexed}
use Rattle.firsts.proofs.Writes.{write_is, writes_more, writes_same}

module _ (x : TraceRecord) (h : History) where
  -- a write that has a generation is one that counts
  rated_first : {w : Write} → rated_write x h ≡ Some w → first_write x h ≡ Some w
  unfolding rated_write
  rated_first {w} e = go (first_write x h) e
    where
      go : (o : Option Write) → given (λ v. when (is_some v.generation) v) o ≡ Some w → o ≡ Some w
      go None q = q
      go (Some v) q = ap Some (when_value (is_some v.generation) v q)

  pub rated_none : first_write x h ≡ None → rated_write x h ≡ None
  unfolding rated_write
  rated_none e = rw e

  pub rated_without : {w : Write} → first_write x h ≡ Some w → w.generation ≡ None → rated_write x h ≡ None
  unfolding rated_write
  rated_without e n = rw (e, n)

  pub rated_with : {w : Write} {g : ℕ} → first_write x h ≡ Some w → w.generation ≡ Some g → rated_write x h ≡ Some w
  unfolding rated_write
  rated_with e n = rw (e, n)

  -- its bucket, and the only writes of the chain
  pub key_in : (cap : ℕ) {w : Write} → rated_write x h ≡ Some w → key_bucket cap x h ≡ Some (bucket_by_key cap w.key)
  unfolding key_bucket
  key_in cap e = rw e

  pub key_none : (cap : ℕ) → rated_write x h ≡ None → key_bucket cap x h ≡ None
  unfolding key_bucket
  key_none cap e = rw e

  chained_key : (cap : ℕ) {b : ℕ} → key_bucket cap x h ≡ Some b → rated_write x h ≡ Some (write_of x h)
  unfolding key_bucket
  chained_key cap {b} e = go (rated_write x h) refl
    where
      go : (o : Option Write) → rated_write x h ≡ o → rated_write x h ≡ Some (write_of x h)
      go None q = none_some (rw q at e)
      go (Some w) q = q ∙ ap Some (sym (write_is x h (rated_first q)))

  -- the generation in its word
  pub generation_none : first_write x h ≡ None → generation_by x h ≡ 0
  unfolding generation_by
  generation_none e = rw e

  pub generation_without : {w : Write} → first_write x h ≡ Some w → w.generation ≡ None → generation_by x h ≡ 0
  unfolding generation_by
  generation_without e n = rw (e, n)

  pub generation_with : {w : Write} {g : ℕ} → first_write x h ≡ Some w → w.generation ≡ Some g → generation_by x h ≡ g
  unfolding generation_by
  generation_with e n = rw (e, n)

-- the last write of a key, one record on
module _ (key : Key) (x : TraceRecord) (h : History) where
  key_told : writes_key key x h ≡ Some 0 → (w : Write) × (rated_write x h ≡ Some w) × (key_eqb w.key key ≡ true)
  unfolding writes_key
  key_told e = go (rated_write x h) refl e
    where
      go : (o : Option Write) → rated_write x h ≡ o → given {B = ℕ} (λ w. when (key_eqb w.key key) 0) o ≡ Some 0
          → (w : Write) × (rated_write x h ≡ Some w) × (key_eqb w.key key ≡ true)
      go None q d = none_some d
      go (Some w) q d = (w, q, when_holds (key_eqb w.key key) 0 d)

  tells_key : {w : Write} → rated_write x h ≡ Some w → key_eqb w.key key ≡ true → writes_key key x h ≡ Some 0
  unfolding writes_key
  tells_key e t = rw (e, t)

  -- not by a record with no such write, by one of another key, or outside the bucket
  key_pass : rated_write x h ≡ None → last_write_at key (x ∷ h) ≡ last_write_at key h
  key_pass e = latest_else (writes_key key) 0 x h (λ z. none_some (sym e ∙ (key_told z).1))

  key_differs : {w : Write} → rated_write x h ≡ Some w → key_eqb w.key key ≡ false → last_write_at key (x ∷ h) ≡ last_write_at key h
  key_differs {w} e t =
      latest_else (writes_key key) 0 x h
      (λ z. let k = key_told z in never k.2 (ap (λ (v : Write). key_eqb v.key key) (same_Some k.0 w (sym k.1 ∙ e)) ∙ t))

  -- nor by one whose first span begins elsewhere
  key_elsewhere : key_eqb (span_of 0 x).start key ≡ false → last_write_at key (x ∷ h) ≡ last_write_at key h
  key_elsewhere t =
      latest_else (writes_key key) 0 x h
      (λ z. let k = key_told z in never (ap (λ (v : Write). key_eqb v.key key) (write_is x h (rated_first x h k.1)) ∙ k.2) t)

  key_outside : (cap : ℕ) → (key_bucket cap x h ≡ Some (bucket_by_key cap key) → ⊥) → last_write_at key (x ∷ h) ≡ last_write_at key h
  key_outside cap n =
      latest_else (writes_key key) 0 x h
      (λ z. let k = key_told z in n (key_in x h cap k.1 ∙ ap (λ (v : Key). Some (bucket_by_key cap v)) (list_eqb_same k.0.key key k.2)))

  key_here : {w : Write} → rated_write x h ≡ Some w → key_eqb w.key key ≡ true → last_write_at key (x ∷ h) ≡ suc (length h)
  key_here e t = latest_here (writes_key key) 0 x h (tells_key e t)

-- a walk along the key's chain
abbrev pub starts_with : Key → TraceRecord → Bool
starts_with key x = key_eqb (span_of 0 x).start key

pub last_skip : (key : Key) (log : List ℕ) (cap k : ℕ) → (In (key_bucket cap) (bucket_by_key cap key) log k → ⊥)
    → last_write_at key (hist log (suc k)) ≡ last_write_at key (hist log k)
last_skip key log cap = look_outside (last_write_at key) (key_bucket cap) (bucket_by_key cap key) log (λ x h n. key_outside key x h cap n)

module _ (key : Key) {p : Past} {y : Taken} (t : IsTaken p y) where
  at_place : {b : Bool} → starts_with key (decode y.record.now) ≡ b → starts_with key (record_at p.log.now (y.number - 1)) ≡ b
  at_place e = ap (starts_with key) (sym (record_bytes p.log.now (y.number - 1) t.bytes)) ∙ e

  pub last_hit : {b : ℕ} → In (key_bucket p.cap) b p.log.now (y.number - 1) → starts_with key (decode y.record.now) ≡ true
      → last_write_at key (hist p.log.now y.number) ≡ y.number
  last_hit m e =
      let x = record_at p.log.now (y.number - 1) in
      let h = hist p.log.now (y.number - 1) in
      look_less (last_write_at key) p.log.now y.number t.some ∙ key_here key x h (chained_key x h p.cap m) (at_place e)
      ∙ omega (arith, hist_length p.log.now (y.number - 1), t.some)

  pub last_miss : starts_with key (decode y.record.now) ≡ false → last_write_at key (hist p.log.now y.number) ≡ last_write_at key (hist p.log.now (y.number - 1))
  last_miss e =
      look_less (last_write_at key) p.log.now y.number t.some
      ∙ key_elsewhere key (record_at p.log.now (y.number - 1)) (hist p.log.now (y.number - 1)) (at_place e)

pub last_end : (key : Key) (log : List ℕ) → last_write_at key (hist log 0) ≡ 0
unfolding latest_in
last_end key log = look_end (last_write_at key) log refl

-- what a key's last write is, by its record's number: none; or by the record's range, at the generation of its word
abbrev pub LastIs : List ℕ → Option Write → ℕ → Type 0
LastIs log o zero = o ≡ None
LastIs log o (suc k) = (w : Write) × (o ≡ Some w) × (w.range ≡ (record_at log k).a) × (w.generation ≡ Some (generation_by (record_at log k) (hist log k)))

module _ (key : Key) (log : List ℕ) (n : ℕ) (past : LastIs log (latest_of (is_earlier key) (writes (hist log n))) (last_write_at key (hist log n))) where
  abbrev X : TraceRecord
  X = record_at log n

  abbrev H : History
  H = hist log n

  abbrev Goal : Type 0
  Goal = LastIs log (latest_of (is_earlier key) (writes (X ∷ H))) (last_write_at key (X ∷ H))

  kept : writes (X ∷ H) ≡ writes H → last_write_at key (X ∷ H) ≡ last_write_at key H → Goal
  kept e d = rw (e, d) past

  passed_over : {w : Write} → first_write X H ≡ Some w → is_earlier key w ≡ false → last_write_at key (X ∷ H) ≡ last_write_at key H → Goal
  passed_over {w} e t d = rw (writes_more X H e, latest_of_skip (is_earlier key) w (writes H) t, d) past

  rated : (w : Write) (g : ℕ) (t : Bool) → first_write X H ≡ Some w → w.generation ≡ Some g → key_eqb w.key key ≡ t → Goal
  rated w g true e r t =
      let q : last_write_at key (X ∷ H) ≡ suc n = key_here key X H (rated_with X H e r) t ∙ ap suc (hist_length log n) in
      let u : is_earlier key w ≡ true = rw (t, r) in
      rw (writes_more X H e, latest_of_hit (is_earlier key) w (writes H) u, q)
      (w, refl, sym (ap (λ (v : Write). v.range) (write_is X H e)), r ∙ ap Some (sym (generation_with X H e r)))
  rated w g false e r t = passed_over e (rw t) (key_differs key X H (rated_with X H e r) t)

  last_step : Goal
  last_step = go (first_write X H) refl
    where
      pick : (w : Write) (b : Option ℕ) → first_write X H ≡ Some w → w.generation ≡ b → Goal
      pick w None e r = passed_over e (unrated (key_eqb w.key key) r) (key_pass key X H (rated_without X H e r))
        where
          unrated : (t : Bool) → w.generation ≡ None → t && holds (λ v. true) w.generation ≡ false
          unrated true q = rw q
          unrated false q = refl
      pick w (Some g) e r = rated w g (key_eqb w.key key) e r refl

      go : (o : Option Write) → first_write X H ≡ o → Goal
      go None e = kept (writes_same X H e) (key_pass key X H (rated_none X H e))
      go (Some w) e = pick w w.generation e refl

none_last : (key : Key) (log : List ℕ) → LastIs log (latest_of (is_earlier key) (writes [])) (last_write_at key [])
unfolding latest_in writes
none_last key log = ap (latest_of (is_earlier key)) (firsts_nil tells_write same_write) ∙ latest_of_nil (is_earlier key)

pub last_is : (key : Key) (log : List ℕ) (n : ℕ) → LastIs log (latest_of (is_earlier key) (writes (hist log n))) (last_write_at key (hist log n))
last_is key log zero = rw (hist_none log) (none_last key log)
last_is key log (suc n) = rw (hist_suc log n) (last_step key log n (last_is key log n))

-- the word of the record at a place
pub written_is : (log : List ℕ) {cap count at : ℕ} {work : List ℕ} → at < count → count ≤ cap → GenerationsIndexed cap (hist log count) work
    → get_or work (written_at * cap + at) 0 ≡ generation_by (record_at log at) (hist log at)
written_is log {count = count} {at = at} l m i = i.written.word at (omega arith) ∙ cell_at generation_by log count at l
