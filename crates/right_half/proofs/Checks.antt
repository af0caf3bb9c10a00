-- Laws of half by what the code finds: a debt's fault, and a Took of the split that a record registered.
use mathlib.Core.Path.{◌≡◌, refl, sym, ap, ◌∙◌}
use mathlib.Core.Bool.{Bool, true, false, not, ◌&&◌, and-false}
use mathlib.Core.List.{[], ◌∷◌}
use Rattle.std.specs.Prelude.{Option, None, Some}
use Prim.Native.Nat.{ℕ, ◌-◌, ◌<◌}
use native.Mathlib.Omega.{arith}
use lib.Dec.{ltb}
use borrow.Author.Tests.{eq-eqb, ne_eqb, not-true, not-false}
use Rattle.record.specs.declared.named.NodeId.{NodeId}
use Rattle.record.specs.declared.named.ApplyEffect.TheVariants.{Took}
use Rattle.record.specs.Records.{TraceRecord}
use Rattle.rules.specs.Cases.{Case, fault}
use Rattle.rules.specs.History.{History, is_kind, is_by, holds}
use Rattle.rules.specs.GenerationsRise.{has_effect}
use Rattle.rules.specs.OneOwnerPerKey.{has_hold}
use Rattle.rules.specs.RightHalf.{is_split, registered, registers, is_voter, missing_fault, half_at}
use Rattle.record.proofs.Booleans.{never, and_left, and_right}
use Rattle.rules.proofs.Members.{Mem}
use Rattle.history.specs.declared.past.Past.{Past}
use Rattle.history.specs.Logs.{record_at, hist}
use Rattle.history.specs.Pasts.{taken, Indexed}
use Rattle.one_owner_per_key.proofs.Latest.{number_is}
use Rattle.splits.specs.Numbers.{registers_as, split_number}
use Rattle.splits.specs.declared.split.Split.{Split}
use Rattle.splits.specs.Columns.{Known}
use Rattle.splits.specs.Walk.{split_of, IsSplit}
use Rattle.splits.proofs.Splits.{known_is}
use Rattle.splits.proofs.Registered.{place_registered}
use Rattle.rules.proofs.Missing.{lowest_missing, took_own, took_other}
use Rattle.rules.proofs.Half as half

and_rest : (a b : Bool) → a ≡ true → a && not b ≡ false → b ≡ true
and_rest true b e f = not-false b f
and_rest false b e f = never e refl

-- ---- whether the right range of a split that a node applies is the lowest

pub lowest_above : (v u : Bool) {a : Bool} → a ≡ true → false ≡ v && u && not a
lowest_above v u e = rw e (sym (and-false (v && u)))

-- one that is owed, and not above, is the lowest where it is not found to be held
pub lowest_held : (r : Bool) {v u a : Bool} → v ≡ true → u ≡ not r → a ≡ false → r ≡ v && not u && not a
lowest_held true e h g = rw (e, h, g)
lowest_held false e h g = rw (e, h)

-- ---- a Took of a registered split

module _ (p : Past) (x : TraceRecord) {s : Split} (z : IsSplit p s) (ix : Indexed Known p) (ek : s.number ≡ split_number x.a x.b (taken p)) where
  mem : Mem (split_of s) (registered (taken p))
  mem = place_registered p.log.now p.count (s.number - 1) (omega (arith, z.some, z.within)) (z.is ix)

  its : is_split x.a x.b (split_of s) ≡ true
  its =
      let o : 0 < split_number x.a x.b (taken p) = omega (arith, z.some, ek) in
      let h : holds (is_split x.a x.b) (registers (record_at p.log.now (s.number - 1)) (hist p.log.now (s.number - 1))) ≡ true =
      rw ek (number_is (registers_as x.a x.b) p.log.now p.count o) in
      ap (holds (is_split x.a x.b)) (sym (z.is ix)) ∙ h

  module _ (node : ℕ) {r : Bool} {lowest : Option ℕ} (b : is_by node x ≡ true) (took : has_effect Took x ≡ true) (el : lowest ≡ lowest_missing node (taken p))
      (e : r ≡ is_voter node (taken p) (split_of s) && not (has_hold node s.right (taken p)) && not (holds (λ j. ltb j s.right) lowest)) where
    test_is : is_voter node (taken p) (split_of s) && not (has_hold node s.right (taken p))
        && not (holds (λ j. ltb j s.right) (lowest_missing node (taken p))) ≡ r
    test_is = sym (e ∙ rw el)

    -- its right range is the lowest, or it is not
    pub taken_own : {c : Case} → r ≡ true → c ≡ fault 1 (node ∷ x.a ∷ x.b ∷ s.right ∷ []) → c ≡ missing_fault 1 node (x ∷ taken p)
    taken_own t ec =
        took_own node x (taken p) b took (split_of s) mem its
        (and_left (is_voter node (taken p) (split_of s) && not (has_hold node s.right (taken p))) _ (test_is ∙ t))
        (not-true _ (and_right (is_voter node (taken p) (split_of s) && not (has_hold node s.right (taken p))) _ (test_is ∙ t)))
        ec

    pub taken_other : {c : Case} → r ≡ false → c ≡ missing_fault 1 node (taken p) → c ≡ missing_fault 1 node (x ∷ taken p)
    taken_other t ec = ec ∙ took_other node x (taken p) b took (split_of s) mem its (λ o. and_rest _ _ o (test_is ∙ t))

-- ---- a Took, by the number of the record that registered its split

module _ (x : TraceRecord) (h : History) (node : NodeId) (m : x.node ≡ Some node) (k : is_kind 3 x ≡ true) {j : ℕ} (t : has_effect Took x ≡ true)
    (e : j ≡ split_number x.a x.b h) where
  pub half_unregistered : j ≡ 0 → None ≡ half_at x h
  half_unregistered z = half.half_unregistered x h node m k t (known_is x.a x.b h ∙ rw (← e, eq-eqb j 0 z))

  pub half_taken : {c : Case} → (j ≡ 0 → ⊥) → c ≡ missing_fault 1 node.0 (x ∷ h) → c ≡ half_at x h
  half_taken z f = half.half_taken x h node m k t (known_is x.a x.b h ∙ rw (← e, ne_eqb j 0 z)) f
