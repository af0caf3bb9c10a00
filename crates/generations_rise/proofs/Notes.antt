-- Laws of taking a record: its write into the chain of the firsts and, where it has a generation, into its key's chain.
use mathlib.Core.Path.{◌≡◌, refl, sym, ap, ◌∙◌}
use mathlib.Core.Bool.{Bool, true, false}
use mathlib.Core.List.{List, ◌∷◌}
use Rattle.std.specs.Prelude.{Some}
use Prim.Native.Nat.{ℕ, ◌+◌, ◌*◌, ◌<◌}
use native.Mathlib.Omega.{arith}
use lib.ListN.{length}
use Rattle.record.specs.Records.{TraceRecord}
use Rattle.rules.specs.History.{History, is_kind, is_some}
use Rattle.rules.specs.Descriptors.{span_of}
use Rattle.rules.specs.GenerationsRise.{Write}
use Rattle.history.specs.Columns.{Column, Put, Entered, Chained}
use Rattle.history.specs.Places.{key_heads, key_links, written_at}
use Rattle.history.proofs.Cells.{put_apart, entered_apart, column_agrees, column_put, column_none}
use Rattle.history.proofs.Chains.{chained_agrees, entered, not_entered}
use Rattle.firsts.specs.Columns.{first_write, FirstsIndexed, FirstEntered}
use Rattle.firsts.proofs.Grants.{first_none}
use Rattle.descriptors.specs.Columns.{DescriptorsIndexed}
use Rattle.generations_rise.specs.declared.write.Written.{Written}
use Rattle.generations_rise.specs.declared.write.Written.TheVariants.{Not, Unrated, Rated}
use Rattle.generations_rise.specs.Columns.{key_bucket, bucket_by_key, generation_by, GenerationsNoted, GenerationsTaken}
use Rattle.generations_rise.specs.Answers.{written_as}
use Rattle.generations_rise.proofs.Writes.{as_none}
use Rattle.firsts.proofs.Writes.{write_is, written_not_granted}
use Rattle.rules.proofs.Writes.{not_apply}
use Rattle.generations_rise.proofs.KeyWrites.{rated_none, rated_without, rated_with, key_in, key_none, generation_none, generation_without, generation_with}
use Rattle.generations_rise.proofs.Cases.{not_is, unrated_is, rated_is}

-- a record with no write that counts: nothing changes
pub noted_none : {cap : ℕ} (h : History) (x : TraceRecord) {work : List ℕ} → GenerationsNoted cap h x Not work work
noted_none {cap} h x = record {
  len = refl;
  below = λ j l. refl;
  above = λ j l. refl;
  generations = λ e i. record {
    keys = not_entered (key_none x h cap (rated_none x h (not_is x h e))) i.keys;
    written = column_none generation_by h x (generation_none x h (not_is x h e)) i.written;
  };
  firsts = λ k e i. not_entered (first_none x h cap (written_not_granted x h k) (not_is x h e)) i;
  firsts_kept = λ e j. refl;
}

-- one with a write that counts
module _ {cap count : ℕ} (h : History) (x : TraceRecord) {work mid : List ℕ} (l : count < cap) (n : length h ≡ count)
    (p : FirstEntered first_write cap count x work mid) where
  -- entered into the chain of the firsts
  firsts_on : {w : Write} → first_write x h ≡ Some w → FirstsIndexed cap h work → FirstsIndexed cap (x ∷ h) mid
  firsts_on f i = p.firsts h n (ap is_some f) i

  -- the columns of the keys are as they were
  keys_kept : Chained (key_bucket cap) (key_heads * cap) (key_links * cap) cap h work → Chained (key_bucket cap) (key_heads * cap) (key_links * cap) cap h mid
  keys_kept c =
      chained_agrees (record { word = λ k m. p.above (key_heads * cap + k) (omega arith) })
      (record { word = λ k m. p.above (key_links * cap + k) (omega arith) })
      c

  written_kept : {F : ℕ → ℕ} → Column F (written_at * cap) cap work → Column F (written_at * cap) cap mid
  written_kept c = column_agrees (record { word = λ k m. p.above (written_at * cap + k) (omega arith) }) c

  pub noted_unrated : GenerationsNoted cap h x Unrated work mid
  noted_unrated = record {
    len = p.len;
    below = p.below;
    above = λ j m. p.above j (omega arith);
    generations = λ q i.
        let w = unrated_is x h q in
        record {
          keys = not_entered (key_none x h cap (rated_without x h w.1 w.2)) (keys_kept i.keys);
          written = column_none generation_by h x (generation_without x h w.1 w.2) (written_kept i.written);
        };
    firsts = λ k q i. firsts_on (unrated_is x h q).1 i;
    firsts_kept = λ q. let z : ◌≡◌ {A = ℕ} 0 1 = cc in absurd (omega arith);
  }

  pub noted_rated : {k g : ℕ} {mid2 work' : List ℕ} → k ≡ bucket_by_key cap (span_of 0 x).start → k < cap
      → Entered mid mid2 (key_heads * cap) (key_links * cap) count k → Put mid2 work' (written_at * cap + count) g
      → GenerationsNoted cap h x (Rated g) work work'
  noted_rated {k} {g} {mid2} {work'} u v r t = record {
    len = t.len ∙ r.len ∙ p.len;
    below = λ j m. t.others j (λ y. omega arith) ∙ r.others j (λ y. omega arith) (λ y. omega arith) ∙ p.below j m;
    above = λ j m. t.others j (λ y. omega arith) ∙ r.others j (λ y. omega arith) (λ y. omega arith) ∙ p.above j (omega arith);
    generations = λ q i.
        let w = rated_is x h q in
        record {
          keys = chained_agrees (put_apart t (λ j m y. omega arith)) (put_apart t (λ j m y. omega arith))
              (entered n l v (omega arith)
              (key_in x h cap (rated_with x h w.1 w.2) ∙ ap (λ (o : Write). Some (bucket_by_key cap o.key)) (sym (write_is x h w.1))
              ∙ ap Some (sym u))
              r
              (keys_kept i.keys));
          written = column_put generation_by h x
              (column_agrees (entered_apart r (λ j m y. omega arith) (λ j m y. omega arith)) (written_kept i.written))
              n refl (sym (generation_with x h w.1 w.2)) t;
        };
    firsts = λ j q i.
        chained_agrees (put_apart t (λ a m y. omega arith)) (put_apart t (λ a m y. omega arith))
        (chained_agrees (entered_apart r (λ a m y. omega arith) (λ a m y. omega arith)) (entered_apart r (λ a m y. omega arith) (λ a m y. omega arith))
        (firsts_on (rated_is x h q).1 i));
    firsts_kept = λ q. let z : ◌≡◌ {A = ℕ} 0 1 = cc in absurd (omega arith);
  }

-- what a record's write counts as, found from the columns: none for any kind but RaftApply
pub taken : {cap : ℕ} (h : History) (x : TraceRecord) {w : Written} {work work' : List ℕ} → (is_kind 3 x ≡ false → w ≡ Not)
    → (FirstsIndexed cap h work → DescriptorsIndexed cap h work → w ≡ written_as x h) → GenerationsNoted cap h x w work work'
    → GenerationsTaken cap h x work work'
taken {cap} h x {w} {work} a f n = record {
  len = n.len;
  below = n.below;
  above = n.above;
  generations = λ k g. n.generations (counts k (is_kind 3 x) refl) g;
  firsts = λ k i d. n.firsts k (f i d) i;
  firsts_kept = λ k. n.firsts_kept (a k);
}
  where
    counts : (is_kind 3 x ≡ true → FirstsIndexed cap h work × DescriptorsIndexed cap h work) → (t : Bool) → is_kind 3 x ≡ t → w ≡ written_as x h
    counts k true e = f (k e).0 (k e).1
    counts k false e = a e ∙ as_none x h (not_apply x e)

-- the chain of the firsts after `IdsUnique` took a record, and then this crate: a RaftApply is entered here, any other kind was there
pub firsts_noted : {cap : ℕ} {h : History} {x : TraceRecord} {mid work' : List ℕ} → (is_kind 3 x ≡ true → FirstsIndexed cap h mid)
    → (is_kind 3 x ≡ false → FirstsIndexed cap (x ∷ h) mid) → GenerationsTaken cap h x mid work' → DescriptorsIndexed cap h mid
    → FirstsIndexed cap (x ∷ h) work'
firsts_noted {cap} {h} {x} {mid} {work'} apply other g d = go (is_kind 3 x) refl
  where
    go : (t : Bool) → is_kind 3 x ≡ t → FirstsIndexed cap (x ∷ h) work'
    go true e = g.firsts e (apply e) d
    go false e = chained_agrees (record { word = λ k l. g.firsts_kept e _ }) (record { word = λ k l. g.firsts_kept e _ }) (other e)
