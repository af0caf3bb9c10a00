-- Laws of half at a registering: the split that the next record registers, and the lowest node that lacks its right range, or none.
use mathlib.Core.Path.{◌≡◌, sym, ap, ◌∙◌}
use mathlib.Core.List.{List, [], ◌∷◌}
use mathlib.Core.Logic.{inl, inr}
use Rattle.std.specs.Prelude.{Option, None, Some}
use Prim.Native.Nat.{ℕ, ◌-◌, ◌<◌}
use native.Mathlib.Omega.{arith}
use native.Mathlib.Decide.{dec_lt}
use borrow.Author.Tests.{lt-ltb, le-ltb}
use Rattle.record.specs.Records.{TraceRecord, decode}
use Rattle.record.proofs.Booleans.{decide}
use Rattle.rules.specs.Cases.{Case, fault, case_of}
use Rattle.rules.specs.History.{is_kind, lowest_of}
use Rattle.rules.specs.RightHalf.{Registered, registers, lacks, nodes_of, registering_fault}
use Rattle.history.specs.declared.past.Past.{Past}
use Rattle.history.specs.declared.walk.Taken.{Taken}
use Rattle.history.specs.Columns.{clamp}
use Rattle.history.specs.Logs.{record_at}
use Rattle.history.specs.Pasts.{taken, IsFound, number_of}
use Rattle.history.proofs.Logs.{record_bytes}
use Rattle.splits.specs.Numbers.{named_number}
use Rattle.splits.specs.Splits.{parent_by, right_named, right_by}
use Rattle.splits.proofs.Splits.{registers_as_lem}
use Rattle.splits.proofs.Registered.{named_split, right_range}

-- the record that names the right range of x: one taken that was found, or x itself
abbrev pub naming : TraceRecord → Option Taken → TraceRecord
naming x None = x
naming x (Some y) = decode y.record.now

module _ (p : Past) (x : TraceRecord) {m : ℕ} (e : m ≡ named_number x (taken p)) (l : 0 < m) where
  nonzero : m ≡ 0 → ⊥
  nonzero z = omega (arith, l, z)

  right_is : (o : Option Taken) → IsFound p o → number_of o ≡ clamp m p.count → right_named x (naming x o) ≡ right_by p.log.now x m
  right_is (Some y) i n =
      let k : y.number ≡ m =
      elim (dec_lt p.count m) [
        | yes c ↦ let z : y.number ≡ 0 = n ∙ rw (lt-ltb p.count m c) in absurd (omega (arith, i.some, z))
        | no c ↦ n ∙ rw (le-ltb p.count m (omega arith))
      ] in
      ap (right_named x) (record_bytes p.log.now (y.number - 1) i.bytes ∙ ap (λ (j : ℕ). record_at p.log.now (j - 1)) k)
  right_is None i n =
      elim (decide (is_kind 1 x)) [
        | inl k ↦ rw k
        | inr k ↦
            let w = right_range p.log.now p.count x e nonzero k in
            let z : 0 ≡ m = n ∙ rw (le-ltb p.count m w.1) in
            absurd (nonzero (sym z))
      ]

  pub next_registers : {right : ℕ} (o : Option Taken) → IsFound p o → number_of o ≡ clamp m p.count → right ≡ right_named x (naming x o)
      → registers x (taken p) ≡ Some (record { parent = parent_by x; index = x.b; right = right; voters = x.voters })
  next_registers o i n er = named_split p.log.now p.count x e nonzero ∙ rw (er, right_is o i n)

module _ (x : TraceRecord) (n : List TraceRecord) {s : Registered} (r : registers x n ≡ Some s) where
  pub found_fault : {c : Case} (node : ℕ) → Some node ≡ lowest_of (λ k. k) (lacks s x n) (nodes_of n) → c ≡ fault 2 (node ∷ s.parent ∷ s.index ∷ s.right ∷ [])
      → c ≡ case_of (registering_fault x n) (registers x n)
  unfolding registering_fault
  found_fault node el ec = ec ∙ rw (r, ← el)

  pub none_clear : None ≡ lowest_of (λ k. k) (lacks s x n) (nodes_of n) → None ≡ case_of (registering_fault x n) (registers x n)
  unfolding registering_fault
  none_clear el = rw (r, ← el)

pub unregistered_clear : (p : Past) (x : TraceRecord) → named_number x (taken p) ≡ 0
    → None ≡ case_of (registering_fault x (taken p)) (registers x (taken p))
unregistered_clear p x z = rw (registers_as_lem p.log.now x p.count, z)
