-- Laws of entering a record into the chain of the firsts.
use mathlib.Core.Path.{◌≡◌, refl, sym, ap, ◌∙◌}
use mathlib.Core.Bool.{true}
use mathlib.Core.List.{List}
use Rattle.std.specs.Prelude.{Option, None, Some}
use Prim.Native.Nat.{ℕ, ◌*◌, ◌<◌}
use native.Mathlib.Omega.{arith}
use Rattle.record.specs.Records.{TraceRecord}
use Rattle.record.proofs.Booleans.{never}
use Rattle.rules.specs.History.{History, Tells, is_some}
use Rattle.rules.specs.IdsUnique.{Grant}
use Rattle.rules.specs.GenerationsRise.{Write}
use Rattle.history.specs.Buckets.{bucket_by, bucket_by_two}
use Rattle.history.specs.Columns.{Entered}
use Rattle.history.specs.Places.{first_heads, first_links}
use Rattle.history.proofs.Chains.{entered}
use Rattle.firsts.specs.Columns.{first_grant, first_write, first_bucket, FirstEntered}
use Rattle.firsts.proofs.Grants.{grant_is, grant_in}
use Rattle.firsts.proofs.Writes.{write_is, write_in}

some_of : {A : Type 0} (o : Option A) → is_some o ≡ true → (a : A) × (o ≡ Some a)
some_of None e = never e refl
some_of (Some a) e = (a, refl)

-- an entry into the bucket of what the record has
entered_by : {A : Type 0} {tells : Tells A} {cap count b : ℕ} {x : TraceRecord} {work work' : List ℕ} → count < cap → b < cap
    → ((h : History) (v : A) → tells x h ≡ Some v → first_bucket cap x h ≡ Some b) → Entered work work' (first_heads * cap) (first_links * cap) count b
    → FirstEntered tells cap count x work work'
entered_by {tells = tells} {x = x} l d f p = record {
  len = p.len;
  below = λ j m. p.others j (λ y. omega arith) (λ y. omega arith);
  above = λ j m. p.others j (λ y. omega arith) (λ y. omega arith);
  firsts = λ h n e i. entered n l d (omega arith) (let v = some_of (tells x h) e in f h v.0 v.1) p i;
}

-- by the index of a first grant, and by the range and index of a write that counts
module _ {cap count b : ℕ} {x : TraceRecord} {work work' : List ℕ} (l : count < cap) (d : b < cap)
    (p : Entered work work' (first_heads * cap) (first_links * cap) count b) where
  pub grant_entered : b ≡ bucket_by cap x.b → FirstEntered first_grant cap count x work work'
  grant_entered e =
      entered_by l d (λ h v q. grant_in x h cap q ∙ ap (λ (g : Grant). Some (bucket_by cap g.index)) (sym (grant_is x h q)) ∙ ap Some (sym e)) p

  pub write_entered : b ≡ bucket_by_two cap x.a x.b → FirstEntered first_write cap count x work work'
  write_entered e =
      entered_by l d
      (λ h v q. write_in x h cap q ∙ ap (λ (w : Write). Some (bucket_by_two cap w.range w.index)) (sym (write_is x h q)) ∙ ap Some (sym e))
      p
