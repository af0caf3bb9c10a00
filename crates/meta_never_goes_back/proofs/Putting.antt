-- The case of a record by the value that its range has of its generation.
use mathlib.Core.Path.{◌≡◌, sym, ap, ◌∙◌}
use mathlib.Core.Bool.{Bool, true, false, not}
use mathlib.Core.List.{[], ◌∷◌}
use Rattle.std.specs.Prelude.{Option, None, Some}
use Prim.Native.Nat.{ℕ}
use Rattle.record.specs.Records.{TraceRecord, decode}
use Rattle.rules.specs.Cases.{fault, fault_if, Case}
use Rattle.rules.specs.Descriptors.{Entry, held_by, named_eqb, first_at_generation}
use Rattle.rules.specs.History.{History}
use Rattle.rules.specs.MetaNeverGoesBack.{named_fault}
use Rattle.rules.proofs.Same.{named_differs}
use Rattle.history.specs.declared.walk.Taken.{Taken}
use Rattle.descriptors.specs.Columns.{put_entry}

module _ (x : TraceRecord) (h : History) {range generation : ℕ} (a : range ≡ x.a) (d : generation ≡ x.d) where
  of_record : {o : Option Entry} → o ≡ first_at_generation range generation h → named_fault x o ≡ named_fault x (first_at_generation x.a x.d h)
  of_record e = ap (named_fault x) e ∙ rw (a, d)

  pub named_none : {r : Case} → None ≡ first_at_generation range generation h → r ≡ fault 1 (x.a ∷ x.d ∷ x.b ∷ [])
      → r ≡ named_fault x (first_at_generation x.a x.d h)
  named_none e q = q ∙ of_record e

  module _ (y : Taken) (e : Some (put_entry y) ≡ first_at_generation range generation h) where
    by_test : {b : Bool} → named_eqb (held_by (decode y.record.now)) (held_by x) ≡ b
        → fault_if (not b) (fault 2 (x.a ∷ x.d ∷ x.b ∷ [])) ≡ named_fault x (first_at_generation x.a x.d h)
    by_test t =
        ap (λ (c : Bool). fault_if c (fault 2 (x.a ∷ x.d ∷ x.b ∷ []))) (ap not (sym t) ∙ named_differs x (held_by (decode y.record.now)))
        ∙ of_record e

    pub named_same : named_eqb (held_by (decode y.record.now)) (held_by x) ≡ true → None ≡ named_fault x (first_at_generation x.a x.d h)
    named_same t = by_test t

    pub named_other : {r : Case} → named_eqb (held_by (decode y.record.now)) (held_by x) ≡ false → r ≡ fault 2 (x.a ∷ x.d ∷ x.b ∷ [])
        → r ≡ named_fault x (first_at_generation x.a x.d h)
    named_other t q = q ∙ by_test t
