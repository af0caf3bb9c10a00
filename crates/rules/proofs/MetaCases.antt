-- The meta case by its parts: another kind, a descriptor at fault, or the keys that are won.
use Rattle.std.specs.Prelude.{None}
use mathlib.Core.Path.{◌≡◌, refl, sym, ap, ◌∙◌}
use mathlib.Core.Bool.{Bool, true, false}
use Prim.Native.Nat.{ℕ}
use lib.Dec.{eqb}
use borrow.Author.Tests.{eq-eqb, ne_eqb}
use Rattle.record.specs.Records.{TraceRecord}
use Rattle.rules.specs.Cases.{Case, is_fault, fault_if, or_case}
use Rattle.rules.specs.Descriptors.{first_at_generation}
use Rattle.rules.specs.History.{History}
use Rattle.rules.specs.MetaNeverGoesBack.{is_won, named_fault, names, won_fault, meta_at}
use Rattle.rules.proofs.CaseLists.{clear_of, or_case_fault}

module _ (x : TraceRecord) (h : History) {k : ℕ} (e : k ≡ x.kind) where
  abbrev wins : Case
  wins = fault_if (is_won x) (won_fault x (names h))

  by_kind : (b : Bool) → eqb k 12 ≡ b → meta_at x h ≡ fault_if b (or_case (named_fault x (first_at_generation x.a x.d h)) wins)
  unfolding meta_at
  by_kind b q = ap (λ (t : Bool). fault_if t (or_case (named_fault x (first_at_generation x.a x.d h)) wins)) (ap (λ (j : ℕ). eqb j 12) (sym e) ∙ q)

  pub meta_other : (k ≡ 12 → ⊥) → None ≡ meta_at x h
  meta_other n = sym (by_kind false (ne_eqb k 12 n))

  module _ (q : k ≡ 12) {n : Case} (d : n ≡ named_fault x (first_at_generation x.a x.d h)) where
    by_named : (c : Case) → n ≡ c → meta_at x h ≡ or_case c wins
    by_named c p = by_kind true (eq-eqb k 12 q) ∙ ap (λ (m : Case). or_case m wins) (sym d ∙ p)

    pub meta_named : is_fault n ≡ true → n ≡ meta_at x h
    meta_named t = sym (by_named n refl ∙ or_case_fault n wins t)

    pub meta_won : {r : Case} → is_fault n ≡ false → r ≡ wins → r ≡ meta_at x h
    meta_won t q = q ∙ sym (by_named None (clear_of n t))
