-- The case of half, by the record's kind.
use mathlib.Core.Path.{◌≡◌, sym, ap, ◌∙◌}
use mathlib.Core.Bool.{true, false, ◌&&◌, ◌||◌}
use mathlib.Core.List.{◌∷◌}
use Rattle.std.specs.Prelude.{None, Some}
use Prim.Native.Nat.{ℕ}
use native.Mathlib.Omega.{arith}
use Rattle.record.specs.declared.named.NodeId.{NodeId}
use Rattle.record.specs.declared.named.ApplyEffect.TheVariants.{Took}
use Rattle.record.specs.Records.{TraceRecord}
use Rattle.record.proofs.Booleans.{or_neither}
use Rattle.rules.specs.Cases.{Case, fault_if, or_case, case_of}
use Rattle.rules.specs.History.{History, is_kind}
use Rattle.rules.specs.GenerationsRise.{has_effect}
use Rattle.rules.specs.OneOwnerPerKey.{by_marked}
use Rattle.rules.specs.RightHalf.{is_registered, registers, missing_fault, registering_fault, half_at}
use Rattle.rules.proofs.Marks.{kind_apart}
use Rattle.rules.proofs.CaseLists.{or_clear}
use Rattle.rules.proofs.Registering.{registers_none}
use Rattle.rules.proofs.Missing.{restated_fault}

module _ (x : TraceRecord) (h : History) where
  abbrev half_by : ℕ → Case
  half_by n =
      or_case (fault_if (has_effect Took x && is_registered x.a x.b h) (missing_fault 1 n (x ∷ h)))
      (or_case (fault_if (is_kind 5 x) (missing_fault 2 n (x ∷ h))) (case_of (registering_fault x h) (registers x h)))

  pub half_unmarked : x.node ≡ None → None ≡ half_at x h
  unfolding half_at
  half_unmarked e = ap (by_marked half_by) (sym e)

  module _ (node : NodeId) (m : x.node ≡ Some node) where
    half_marked : half_by node.0 ≡ half_at x h
    unfolding half_at
    half_marked = ap (by_marked half_by) (sym m)

    pub half_restated : {c : Case} → is_kind 5 x ≡ true → c ≡ missing_fault 2 node.0 h → c ≡ half_at x h
    half_restated k e =
        let g : missing_fault 2 node.0 (x ∷ h) ≡ half_by node.0 =
        rw (
          k,
          kind_apart 5 3 x (λ q. omega arith) k,
          registers_none x h (kind_apart 5 1 x (λ q. omega arith) k) (kind_apart 5 2 x (λ q. omega arith) k),
        )
        (sym (or_clear (missing_fault 2 node.0 (x ∷ h)))) in
        e ∙ restated_fault 2 node.0 x h k ∙ g ∙ half_marked

    module _ (k : is_kind 3 x ≡ true) where
      nothing : registers x h ≡ None
      nothing = registers_none x h (kind_apart 3 1 x (λ q. omega arith) k) (kind_apart 3 2 x (λ q. omega arith) k)

      not_restated : is_kind 5 x ≡ false
      not_restated = kind_apart 3 5 x (λ q. omega arith) k

      pub half_untaken : has_effect Took x ≡ false → None ≡ half_at x h
      half_untaken t = let g : None ≡ half_by node.0 = rw (t, not_restated, nothing) in g ∙ half_marked

      pub half_unregistered : has_effect Took x ≡ true → is_registered x.a x.b h ≡ false → None ≡ half_at x h
      half_unregistered t e = let g : None ≡ half_by node.0 = rw (t, e, not_restated, nothing) in g ∙ half_marked

      pub half_taken : {c : Case} → has_effect Took x ≡ true → is_registered x.a x.b h ≡ true → c ≡ missing_fault 1 node.0 (x ∷ h) → c ≡ half_at x h
      half_taken t e f =
          let g : missing_fault 1 node.0 (x ∷ h) ≡ half_by node.0 =
          rw (t, e, not_restated, nothing) (sym (or_clear (missing_fault 1 node.0 (x ∷ h)))) in
          f ∙ g ∙ half_marked

    pub half_registering : {c : Case} → is_kind 5 x ≡ false → is_kind 3 x ≡ false → c ≡ case_of (registering_fault x h) (registers x h) → c ≡ half_at x h
    half_registering a b e =
        let g : case_of (registering_fault x h) (registers x h) ≡ half_by node.0 = rw (a, b) in
        e ∙ g ∙ half_marked

    pub half_other : is_kind 5 x ≡ false → is_kind 3 x ≡ false → is_kind 1 x || is_kind 2 x ≡ false → None ≡ half_at x h
    half_other a b e =
        let n = or_neither (is_kind 1 x) (is_kind 2 x) e in
        half_registering a b (rw (registers_none x h n.0 n.1))
