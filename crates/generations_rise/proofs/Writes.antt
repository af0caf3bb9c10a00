-- Laws of what a record's write counts as: none, one at a place that counted before, or one at the generation of `before`.
use mathlib.Core.Path.{◌≡◌, ap, ◌∙◌}
use mathlib.Core.Bool.{true, false}
use Rattle.std.specs.Prelude.{Option, None, Some}
use Prim.Native.Nat.{ℕ}
use Rattle.record.specs.Records.{TraceRecord, decode}
use Rattle.rules.specs.History.{History, any_of}
use Rattle.rules.specs.Descriptors.{Entry, held_by, before}
use Rattle.rules.specs.GenerationsRise.{generation_of, writes}
use Rattle.rules.proofs.Writes.{is_write}
use Rattle.history.specs.declared.walk.Taken.{Taken}
use Rattle.firsts.specs.Columns.{placed}
use Rattle.firsts.proofs.Writes.{write_none, write_known, write_new}
use Rattle.descriptors.specs.Columns.{put_entry}
use Rattle.generations_rise.specs.declared.write.Written.TheVariants.{Not, Unrated, Rated}
use Rattle.generations_rise.specs.Answers.{rated_as, written_as}

module _ (x : TraceRecord) (h : History) where
  pub as_none : is_write x ≡ false → Not ≡ written_as x h
  unfolding written_as
  as_none e = rw (write_none x h e)

  known : is_write x ≡ true → any_of (placed x.a x.b) (writes h) ≡ true → Not ≡ written_as x h
  unfolding written_as
  known e k = rw (write_known x h e k)

  as_new : is_write x ≡ true → any_of (placed x.a x.b) (writes h) ≡ false → rated_as (generation_of (before x.a x.b h)) ≡ written_as x h
  unfolding written_as
  as_new e k = rw (write_new x h e k)

  -- by the fields that were read
  module _ {range index : ℕ} (p : range ≡ x.a) (q : index ≡ x.b) (e : is_write x ≡ true) where
    pub as_known : any_of (placed range index) (writes h) ≡ true → Not ≡ written_as x h
    as_known k = known e (rw (p, q) at k)

    found : any_of (placed range index) (writes h) ≡ false → (o : Option Entry) → o ≡ before range index h → rated_as (generation_of o) ≡ written_as x h
    found k o f = ap (λ (v : Option Entry). rated_as (generation_of v)) (f ∙ rw (p, q)) ∙ as_new e (rw (p, q) at k)

    pub as_unrated : any_of (placed range index) (writes h) ≡ false → None ≡ before range index h → Unrated ≡ written_as x h
    as_unrated k f = found k None f

    pub as_rated : any_of (placed range index) (writes h) ≡ false → (y : Taken) {g : ℕ} → Some (put_entry y) ≡ before range index h
        → g ≡ (decode y.record.now).d → Rated g ≡ written_as x h
    unfolding held_by
    as_rated k y f d = ap Rated d ∙ found k (Some (put_entry y)) f
