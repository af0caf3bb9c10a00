-- Which records register a split: those of kinds 1 and 2 alone, and only one that was not registered.
use mathlib.Core.Path.{◌≡◌, refl, sym, ◌∙◌}
use mathlib.Core.Bool.{Bool, true, false, not, ◌||◌}
use mathlib.Core.List.{◌∷◌}
use Rattle.std.proofs.lemmas.Option.{same_Some}
use Rattle.std.specs.Prelude.{Option, None, Some}
use Rattle.record.specs.Named.{Node}
use Rattle.record.specs.Records.{TraceRecord}
use Rattle.rules.specs.History.{History, is_kind, when, given}
use Rattle.rules.specs.RightHalf.{Pending, Registered, pending, pending_split, split_by, tells_split, registered, is_registered, unless_known, registers}
use Rattle.record.proofs.Booleans.{none_some}
use Rattle.rules.proofs.Once.{registered_step}

module _ (x : TraceRecord) (h : History) where
  module _ (not_1 : is_kind 1 x ≡ false) (not_2 : is_kind 2 x ≡ false) where
    not_pending : (o : Option Pending) → pending_split x o ≡ None
    not_pending None = refl
    not_pending (Some p) = rw not_2

    not_split : (n : Node) → split_by x h n ≡ None
    not_split None = refl
    not_split (Some n) = rw not_1 (not_pending (pending n.0 h))

    pub registers_none : registers x h ≡ None
    unfolding registers
    registers_none = rw (not_split x.node)

    pub registered_same : registered (x ∷ h) ≡ registered h
    registered_same = registered_step x h ∙ rw registers_none

  pub registers_kind : {s : Registered} → registers x h ≡ Some s → is_kind 1 x || is_kind 2 x ≡ true
  registers_kind {s} r = go (is_kind 1 x) (is_kind 2 x) refl refl
    where
      go : (a b : Bool) → is_kind 1 x ≡ a → is_kind 2 x ≡ b → a || b ≡ true
      go true b e f = refl
      go false true e f = refl
      go false false e f = none_some (sym (registers_none e f) ∙ r)

-- what registers was not registered
new_cases : (h : History) (o : Option Registered) (s : Registered) → given (unless_known h) o ≡ Some s → is_registered s.parent s.index h ≡ false
new_cases h None s e = none_some e
new_cases h (Some t) s e = go (is_registered t.parent t.index h) refl e
  where
    go : (b : Bool) → is_registered t.parent t.index h ≡ b → when (not b) t ≡ Some s → is_registered s.parent s.index h ≡ false
    go true f g = none_some g
    go false f g = rw (← same_Some _ _ g) f

pub registers_new : (x : TraceRecord) (h : History) (s : Registered) → registers x h ≡ Some s → is_registered s.parent s.index h ≡ false
unfolding registers
registers_new x h s e = new_cases h (tells_split x h) s e
