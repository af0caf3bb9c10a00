-- Laws of the walks along the two chains: each comes to the latest of the first top records that passes its test.
use mathlib.Core.Path.{◌≡◌, refl, sym, ap, ◌∙◌}
use mathlib.Core.Bool.{Bool, true, false, ◌&&◌, ◌||◌, or-true}
use mathlib.Core.List.{List}
use mathlib.Core.Logic.{inl, inr}
use Rattle.std.specs.Prelude.{Some}
use Prim.Native.Nat.{ℕ, suc, ◌+◌, ◌*◌, ◌<◌}
use native.Mathlib.Omega.{arith}
use native.Mathlib.Nat.{mod-lt, div-lt_iff_lt-mul}
use lib.Dec.{eqb}
use borrow.Author.Tests.{eqb-true}
use Rattle.record.specs.declared.named.ApplyEffect.TheVariants.{Took}
use Rattle.record.specs.Records.{TraceRecord}
use Rattle.rules.specs.GenerationsRise.{has_effect}
use Rattle.rules.specs.History.{History, Tells, is_kind, is_by, when}
use Rattle.rules.specs.OneOwnerPerKey.{is_holding}
use Rattle.history.specs.Logs.{record_at, hist}
use Rattle.history.proofs.Mixing.{share}
use Rattle.history.proofs.Chains.{In}
use Rattle.history.proofs.Walks.{up_to, up_to_outside}
use Rattle.one_owner_per_key.specs.Numbers.{latest_number, says_hold}
use Rattle.history.specs.Buckets.{fold, mix, bucket, bucket_by, bucket_by_two}
use Rattle.one_owner_per_key.specs.Columns.{is_chained, hold_bucket, node_of, by_hold, by_owner}
use Rattle.record.proofs.Booleans.{never, decide, and_left, and_right, or_right}
use Rattle.record.proofs.Names.{took_code}
use Rattle.rules.proofs.Marks.{by_marked}
use Rattle.one_owner_per_key.proofs.Latest.{passes_at, at_miss}

-- what passes is in the bucket
pub record Within (t : TraceRecord → History → Bool) (f : Tells ℕ) (b : ℕ) : Type 0 where
  pub is : (x : TraceRecord) (h : History) → t x h ≡ true → f x h ≡ Some b

module _ {t : TraceRecord → History → Bool} {f : Tells ℕ} {b : ℕ} (s : Within t f b) (log : List ℕ) (top : ℕ) where
  abbrev to : ℕ → ℕ
  to n = latest_number t (hist log n)

  -- a record outside the bucket does not pass
  pub outside : (k : ℕ) → (In f b log k → ⊥) → up_to top to (suc k) ≡ up_to top to k
  outside =
      up_to_outside to top f b log
      (λ k n. elim (decide (passes_at t log k)) [ inl e ↦ absurd (n (s.is (record_at log k) (hist log k) e)) | inr e ↦ at_miss t log k e ])

-- ---- the two chains

-- a bucket is below the capacity
pub bucket_below : (cap a : ℕ) → 0 < cap → bucket cap (mix a) < cap
unfolding bucket
bucket_below cap a l = (div-lt_iff_lt-mul {k = 4294967296} (omega arith)).1 (share cap (mix a) l (mod-lt (fold a * 2654435769) (omega arith)))

pub two_below : (cap a b : ℕ) → 0 < cap → bucket_by_two cap a b < cap
two_below cap a b l = bucket_below cap (mix a + fold b) l

pub entered_by_node : (cap node : ℕ) → Within (λ x _. is_by node x) (by_owner cap) (bucket_by cap node)
unfolding by_owner
entered_by_node cap node = record {
  is = λ x h e. by_marked (λ n. Some (bucket_by cap n)) (node_of cap) (λ n. refl) node x.node e;
}

-- kinds 1, 2 and 9 are chained by node and range
chained_says : (a b c d e : Bool) → a || b || d ≡ true → a || b || c || d || e ≡ true
chained_says true b c d e h = refl
chained_says false true c d e h = refl
chained_says false false true true e h = refl
chained_says false false false true e h = refl
chained_says false false c false e h = never h refl

-- a node's record of a range, if it is one of those chained, is in the bucket of both
pub hold_within : (cap node range : ℕ) (x : TraceRecord) (h : History) → is_by node x ≡ true → is_chained x ≡ true → x.a ≡ range
    → by_hold cap x h ≡ Some (bucket_by_two cap node range)
unfolding by_hold
hold_within cap node range x h b k a =
    by_marked (λ n. when (is_chained x) (bucket_by_two cap n x.a)) (hold_bucket cap x) (λ n. refl) node x.node b ∙ rw (k, a)

pub by_hold_lem : (cap node range : ℕ) → Within (λ x _. says_hold node range x) (by_hold cap) (bucket_by_two cap node range)
by_hold_lem cap node range = record {
  is = λ x h e.
      let s = is_holding x || is_kind 9 x in
      let p = and_left (is_by node x && s) (eqb x.a range) e in
      hold_within cap node range x h (and_left (is_by node x) s p)
      (chained_says (is_kind 1 x) (is_kind 2 x) (is_kind 7 x) (is_kind 9 x) (is_kind 3 x && eqb x.code 4) (and_right (is_by node x) s p))
      (eqb-true x.a range (and_right (is_by node x && s) (eqb x.a range) e));
}

-- ---- for the right half's clause: what it looks for is chained

module _ (x : TraceRecord) where
  pub descriptor_chained : is_kind 2 x ≡ true → is_chained x ≡ true
  descriptor_chained e = rw (e, or-true)

  pub split_chained : is_kind 7 x ≡ true → is_chained x ≡ true
  split_chained e = rw (e, or-true)

  pub removed_chained : is_kind 9 x ≡ true → is_chained x ≡ true
  removed_chained e = rw (e, or-true)

  pub took_chained : has_effect Took x ≡ true → is_chained x ≡ true
  took_chained t =
      or_right (is_kind 1 x || is_kind 2 x || is_kind 7 x || is_kind 9 x) (is_kind 3 x && eqb x.code 4)
      (ap (λ (u : Bool). is_kind 3 x && u) (sym (took_code x.code)) ∙ t)
