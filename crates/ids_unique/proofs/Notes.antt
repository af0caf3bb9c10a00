-- Laws of taking a record: its words in the columns of the blocks, and its place in the chain of the firsts.
use mathlib.Core.Path.{◌≡◌, refl, sym, ap, ◌∙◌}
use mathlib.Core.Bool.{Bool, true, false, cond, not, ◌&&◌}
use mathlib.Core.List.{List, ◌∷◌}
use Rattle.std.specs.Prelude.{Option, None, Some}
use Prim.Native.Nat.{ℕ, zero, suc, ◌+◌, ◌*◌, ◌<◌, max}
use native.Mathlib.Omega.{arith}
use lib.ListN.{length, get_or}
use lib.Dec.{eqb}
use borrow.Author.Tests.{eq-eqb, ne_eqb, eqb-true}
use Rattle.record.specs.Records.{TraceRecord}
use Rattle.rules.specs.History.{History, is_kind, is_some, any_of}
use Rattle.rules.specs.IdsUnique.{Grant, grant_by, nonempty, same_index, first_grants, blocks_of}
use Rattle.history.specs.declared.past.Past.{Past}
use Rattle.history.specs.declared.walk.Taken.{Taken}
use Rattle.history.specs.Pasts.{taken, IsFound, number_of}
use Rattle.history.specs.Columns.{Put}
use Rattle.history.specs.Places.{block_links, greatest_last}
use Rattle.history.proofs.Cells.{put_apart, column_agrees, column_put}
use Rattle.history.proofs.Chains.{latest_here, latest_else, chained_agrees, not_entered}
use Rattle.firsts.specs.Columns.{first_grant, FirstsIndexed, first_grant_at, FirstEntered}
use Rattle.ids_unique.specs.Columns.{tells_block, block_bucket, latest_block, block_link, greatest_of_lasts, last_after, IdsIndexed, IdsNoted}
use Rattle.record.proofs.Booleans.{never, none_some}
use Rattle.firsts.proofs.Grants.{grant_is, no_grant, no_write, grant_known, grant_new, first_none, grant_numbered, any_grant}
use Rattle.ids_unique.proofs.Blocks.{block_is, block_none, block_empty, block_new, block_in, in_block, blocks_more, blocks_same}

-- whether a record has a first grant: no other kind; an index that has none before; one that has
module _ (x : TraceRecord) where
  pub first_not : {k : ℕ} (h : History) → k ≡ x.kind → (k ≡ 11 → ⊥) → eqb k 11 ≡ is_some (first_grant x h)
  first_not h e n = let q : eqb x.kind 11 ≡ false = ne_eqb x.kind 11 (λ z. n (e ∙ z)) in rw (e, no_grant x h q) q

  -- one whose index has none before has one
  pub first_found : (p : Past) (r : Option Taken) {b k : ℕ} {t : Bool} → IsFound p r → number_of r ≡ first_grant_at b (taken p) → b ≡ x.b → k ≡ x.kind
      → k ≡ 11 → is_some r ≡ not t → t ≡ is_some (first_grant x (taken p))
  first_found p r {t = t} w f i e q n = go r t w n (any_grant (grant_by x) p.log.now p.count (number_of r) (rw (← i) f))
    where
      kind : is_kind 11 x ≡ true
      kind = eq-eqb x.kind 11 (sym e ∙ q)

      numbered : (n : ℕ) → 0 < n → is_some (grant_numbered p.log.now n) ≡ true
      numbered zero l = absurd (omega arith)
      numbered (suc n) l = refl

      go : (r : Option Taken) (t : Bool) → IsFound p r → is_some r ≡ not t
          → any_of (same_index (grant_by x)) (first_grants (taken p)) ≡ is_some (grant_numbered p.log.now (number_of r)) → t ≡ is_some (first_grant x (taken p))
      go None true w n k = rw (grant_new x (taken p) kind k)
      go None false w n k = never n refl
      go (Some y) true w n k = never refl n
      go (Some y) false w n k = rw (grant_known x (taken p) kind (k ∙ numbered y.number w.some))

-- nothing is told, where it is found that nothing is
none_of : {A : Type 0} (o : Option A) → false ≡ is_some o → o ≡ None
none_of None e = refl
none_of (Some a) e = never e refl

module _ (x : TraceRecord) (h : History) where
  -- a record has a block where it has a first grant that is not empty
  block_by : {first full : Bool} → first ≡ is_some (first_grant x h) → full ≡ nonempty (grant_by x) → first && full ≡ is_some (tells_block x h)
  block_by {first} {full} p q = rw (p, q) (go (first_grant x h) (nonempty (grant_by x)) refl refl)
    where
      go : (o : Option Grant) (t : Bool) → first_grant x h ≡ o → nonempty (grant_by x) ≡ t → is_some o && t ≡ is_some (tells_block x h)
      go None t e d = rw (block_none x h e)
      go (Some g) true e d = rw (block_new x h e (rw (← grant_is x h e) d))
      go (Some g) false e d = rw (block_empty x h e (rw (← grant_is x h e) d))

  -- the latest block and the greatest last, one record on
  link_next : {block : Bool} {n : ℕ} → block ≡ is_some (tells_block x h) → length h ≡ n → cond block (n + 1) (latest_block h) ≡ block_link x h
  link_next {block} {n} e l = rw e (go (tells_block x h) refl)
    where
      go : (o : Option Grant) → tells_block x h ≡ o → cond (is_some o) (n + 1) (latest_block h) ≡ block_link x h
      go None q = sym (latest_else block_bucket 0 x h (λ z. none_some (sym q ∙ in_block x h z)))
      go (Some g) q = omega (arith, latest_here block_bucket 0 x h (block_in x h q))

  last_next : {block : Bool} {last : ℕ} → block ≡ is_some (tells_block x h) → last ≡ x.e
      → cond block (max last (greatest_of_lasts (blocks_of h))) (greatest_of_lasts (blocks_of h)) ≡ last_after x h
  unfolding greatest_of_lasts
  last_next {block} {last} e l = rw e (go (tells_block x h) refl)
    where
      go : (o : Option Grant) → tells_block x h ≡ o
          → cond (is_some o) (max last (greatest_of_lasts (blocks_of h))) (greatest_of_lasts (blocks_of h)) ≡ last_after x h
      go None q = ap greatest_of_lasts (sym (blocks_same x h q))
      go (Some g) q = rw (blocks_more x h q, ← block_is x h q, l)

-- the two words of a record, with a block or without one: no other word changes, and the columns are one record on
module _ (h : History) (x : TraceRecord) (cap count : ℕ) (block : Bool) (work work' : List ℕ) where
  pub record Marked : Type 0 where
    pub len : length work' ≡ length work
    pub others : (j : ℕ) → (j ≡ block_links * cap + count → ⊥) → (j ≡ greatest_last * cap + count → ⊥) → get_or work' j 0 ≡ get_or work j 0
    pub ids : block ≡ is_some (tells_block x h) → IdsIndexed cap h work → IdsIndexed cap (x ∷ h) work'

pub marked : {h : History} {x : TraceRecord} {cap count last v w : ℕ} {block : Bool} {work mid work' : List ℕ} → length h ≡ count → count < cap → last ≡ x.e
    → (IdsIndexed cap h work → v ≡ cond block (count + 1) (latest_block h))
    → (IdsIndexed cap h work → w ≡ cond block (max last (greatest_of_lasts (blocks_of h))) (greatest_of_lasts (blocks_of h)))
    → Put work mid (block_links * cap + count) v → Put mid work' (greatest_last * cap + count) w → Marked h x cap count block work work'
marked {h} {x} n l y e d p q = record {
  len = q.len ∙ p.len;
  others = λ j z m. q.others j m ∙ p.others j z;
  ids = λ k i. record {
    links = column_agrees (put_apart q (λ j z. omega arith)) (column_put block_link h x i.links n refl (e i ∙ link_next x h k n) p);
    lasts = column_put last_after h x (column_agrees (put_apart p (λ j z. omega arith)) i.lasts) n refl (d i ∙ last_next x h k y) q;
  };
}

-- a record with a first grant, and one without
module _ {h : History} {x : TraceRecord} {cap count : ℕ} {first full : Bool} {work mid : List ℕ} (s : length h ≡ count) (l : count < cap)
    (u : full ≡ nonempty (grant_by x)) (g : first ≡ true → x.kind ≡ 11)
    (f : FirstsIndexed cap h work → first ≡ is_some (first_grant x h)) (m : Marked h x cap count (first && full) work mid) where
  first_is : (is_kind 11 x ≡ true → FirstsIndexed cap h work) → first ≡ is_some (first_grant x h)
  first_is k = go (is_kind 11 x) refl
    where
      not_first : (t : Bool) → first ≡ t → is_kind 11 x ≡ false → t ≡ false
      not_first true e d = never (eq-eqb x.kind 11 (g e)) d
      not_first false e d = refl

      go : (t : Bool) → is_kind 11 x ≡ t → first ≡ is_some (first_grant x h)
      go true e = f (k e)
      go false e = not_first first refl e ∙ sym (ap is_some (no_grant x h e))

  ids_on : (is_kind 11 x ≡ true → FirstsIndexed cap h work) → IdsIndexed cap h work → IdsIndexed cap (x ∷ h) mid
  ids_on k i = m.ids (block_by x h (first_is k) u) i

  firsts_on : FirstsIndexed cap h work → FirstsIndexed cap h mid
  firsts_on k =
      chained_agrees (record { word = λ j z. m.others _ (λ y. omega arith) (λ y. omega arith) })
      (record { word = λ j z. m.others _ (λ y. omega arith) (λ y. omega arith) }) k

  pub noted_other : first ≡ false → IdsNoted cap h x work mid
  noted_other n = record {
    len = m.len;
    below = λ j z. m.others j (λ y. omega arith) (λ y. omega arith);
    between = λ j y z. m.others j (λ w. omega arith) (λ w. omega arith);
    above = λ j z. m.others j (λ y. omega arith) (λ y. omega arith);
    ids = ids_on;
    firsts = λ z k.
        not_entered (first_none x h cap (none_of (first_grant x h) (sym n ∙ f k)) (no_write x h z)) (firsts_on k);
    firsts_kept = λ z j y. m.others j (λ w. omega arith) (λ w. omega arith);
  }

  pub noted_first : {work' : List ℕ} → first ≡ true → FirstEntered first_grant cap count x mid work' → IdsNoted cap h x work work'
  noted_first n w = record {
    len = w.len ∙ m.len;
    below = λ j z. w.below j z ∙ m.others j (λ y. omega arith) (λ y. omega arith);
    between = λ j y z. w.above j y ∙ m.others j (λ v. omega arith) (λ v. omega arith);
    above = λ j z. w.above j (omega arith) ∙ m.others j (λ y. omega arith) (λ y. omega arith);
    ids = λ k i.
        let r = ids_on k i in
        record {
          links = column_agrees (record { word = λ j z. w.above (block_links * cap + j) (omega arith) }) r.links;
          lasts = column_agrees (record { word = λ j z. w.above (greatest_last * cap + j) (omega arith) }) r.lasts;
        };
    firsts = λ z k. w.firsts h s (sym (f k) ∙ n) (firsts_on k);
    firsts_kept = λ z j y. absurd (omega (arith, g n, eqb-true x.kind 3 z));
  }

-- a RaftApply leaves the chain of the firsts to `GenerationsRise`
pub firsts_between : {cap : ℕ} {h : History} {x : TraceRecord} {work mid : List ℕ} → IdsNoted cap h x work mid → is_kind 3 x ≡ true
    → FirstsIndexed cap h work → FirstsIndexed cap h mid
firsts_between i e f = chained_agrees (record { word = λ k l. i.firsts_kept e _ (omega arith) }) (record { word = λ k l. i.firsts_kept e _ (omega arith) }) f
