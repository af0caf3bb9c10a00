-- The cases of overlap, install and twice, by what the record is and what is found.
use mathlib.Core.Path.{◌≡◌, refl, sym, ◌∙◌}
use mathlib.Core.Bool.{true, false, not}
use Rattle.std.specs.Prelude.{Option, None, Some}
use Prim.Native.Nat.{ℕ}
use lib.Dec.{eqb}
use Rattle.record.specs.Named.{Node}
use Rattle.record.specs.declared.named.NodeId.{NodeId}
use Rattle.record.specs.Records.{Span, TraceRecord}
use Rattle.record.proofs.Booleans.{never}
use Rattle.rules.specs.Cases.{Case, fault_with, first_case}
use Rattle.rules.specs.History.{History, is_kind, is_some}
use Rattle.rules.specs.Descriptors.{span_of}
use Rattle.rules.specs.OneOwnerPerKey.{is_holding, has_hold, by_marked, lowest_meeting, group_of, is_named, overlap_at, install_fault, install_at, twice_at}
use Rattle.rules.proofs.Tellings.{none_of}

-- a fault of kind 1 with three numbers of evidence
abbrev pub fault_by : ℕ → ℕ → ℕ → Case
fault_by a b c = fault_with 1 (record { e0 = a; e1 = b; e2 = c; e3 = 0; e4 = 0 })

-- "Without a node the record ends its step here"
pub unmarked : (f : ℕ → Case) {m : Node} → m ≡ None → None ≡ by_marked f m
unmarked f e = rw e

marked : (f : ℕ → Case) {m : Node} {n : NodeId} → m ≡ Some n → by_marked f m ≡ f n.0
marked f e = rw e

module _ (x : TraceRecord) (h : History) where
  pub overlap_unmarked : x.node ≡ None → None ≡ overlap_at x h
  unfolding overlap_at
  overlap_unmarked e = unmarked _ e

  pub twice_unmarked : x.node ≡ None → None ≡ twice_at x h
  unfolding twice_at
  twice_unmarked e = unmarked _ e

  pub install_unmarked : (tenant : ℕ) → x.node ≡ None → None ≡ install_at tenant x h
  unfolding install_at
  install_unmarked tenant e = unmarked _ e

  module _ {n : NodeId} (m : x.node ≡ Some n) where
    pub overlap_other : is_holding x ≡ false → None ≡ overlap_at x h
    unfolding overlap_at
    overlap_other e = sym (marked _ m ∙ rw e)

    module _ {a : ℕ} {o : Option ℕ} (e : is_holding x ≡ true) (ea : a ≡ x.a) (eo : o ≡ lowest_meeting (λ r. not (eqb r a)) (span_of 0 x) n.0 h) where
      pub overlap_met : {r : ℕ} → o ≡ Some r → fault_by n.0 a r ≡ overlap_at x h
      unfolding overlap_at
      overlap_met s = sym (marked _ m ∙ rw (e, ← ea, ← eo, s))

      pub overlap_apart : o ≡ None → None ≡ overlap_at x h
      unfolding overlap_at
      overlap_apart s = sym (marked _ m ∙ rw (e, ← ea, ← eo, s))

    pub twice_other : is_kind 1 x ≡ false → None ≡ twice_at x h
    unfolding twice_at
    twice_other e = sym (marked _ m ∙ rw e)

    module _ {a : ℕ} (e : is_kind 1 x ≡ true) (ea : a ≡ x.a) where
      pub twice_held : {b : ℕ} → b ≡ x.b → has_hold n.0 a h ≡ true → fault_by n.0 a b ≡ twice_at x h
      unfolding twice_at
      twice_held eb g = sym (marked _ m ∙ rw (e, ← ea, ← eb, g))

      pub twice_free : has_hold n.0 a h ≡ false → None ≡ twice_at x h
      unfolding twice_at
      twice_free g = sym (marked _ m ∙ rw (e, ← ea, g))

    pub install_other : (tenant : ℕ) → is_kind 8 x ≡ false → None ≡ install_at tenant x h
    unfolding install_at
    install_other tenant e = sym (marked _ m ∙ rw e)

    pub install_spans : (tenant : ℕ) → is_kind 8 x ≡ true → install_at tenant x h ≡ first_case (install_fault tenant x h n.0) x.spans
    unfolding install_at
    install_spans tenant e = marked _ m ∙ rw e

-- ---- install, of one span

module _ (tenant : ℕ) (x : TraceRecord) (h : History) (node : ℕ) (s : Span) {g : Option ℕ} (eg : g ≡ group_of tenant s.start) where
  named_by : (t : Option ℕ) → t ≡ group_of tenant s.start → is_some t ≡ true → None ≡ install_fault tenant x h node s
  named_by None e i = never i refl
  named_by (Some k) e i = rw (← e)

  pub replaced_named : is_some g ≡ true → None ≡ install_fault tenant x h node s
  replaced_named i = named_by g eg i

  module _ {o : Option ℕ} (i : is_some g ≡ false) (eo : o ≡ lowest_meeting (λ r. not (is_named tenant x.spans r)) s node h) where
    unnamed : g ≡ None
    unnamed = none_of g i

    pub replaced_met : {r : ℕ} → o ≡ Some r → fault_by node r 0 ≡ install_fault tenant x h node s
    replaced_met p = rw (← eg, unnamed, ← eo, p)

    pub replaced_apart : o ≡ None → None ≡ install_fault tenant x h node s
    replaced_apart p = rw (← eg, unnamed, ← eo, p)
