-- What a node holds, one record on: a record makes it hold a range, ends that, or leaves it as it was.
use mathlib.Core.Path.{◌≡◌, refl, ap, ◌∙◌}
use mathlib.Core.Bool.{Bool, true, false, cond, ◌&&◌}
use mathlib.Core.List.{[], ◌∷◌}
use Rattle.std.specs.Prelude.{Option, None, Some}
use Prim.Native.Nat.{ℕ}
use lib.Dec.{eqb}
use Rattle.record.specs.Records.{Span, TraceRecord}
use Rattle.rules.specs.History.{History, is_kind, is_by, Change, becomes, ends, lasting, is_some, or_else, when, latest}
use Rattle.rules.specs.Descriptors.{span_of}
use Rattle.rules.specs.OneOwnerPerKey.{is_holding, is_ending, tells_hold, hold_of, has_hold}

span_cases : (b u v : Bool) (s : Span) (l : Option (Change Span))
    → lasting (or_else (cond b (cond u (Some (becomes s)) (when v ends)) None) l)
    ≡ cond b (cond u (Some s) (cond v None (lasting l))) (lasting l)
span_cases true true v s l = refl
span_cases true false true s l = refl
span_cases true false false s l = refl
span_cases false u v s l = refl

module _ (node range : ℕ) where
  pub span_none : hold_of node range [] ≡ None
  unfolding hold_of latest
  span_none = refl

  pub span_step : (x : TraceRecord) (h : History) → hold_of node range (x ∷ h)
      ≡ cond (is_by node x)
      (cond (is_holding x && eqb x.a range) (Some (span_of 0 x)) (cond (is_ending range x) None (hold_of node range h))) (hold_of node range h)
  unfolding hold_of latest
  span_step x h =
      span_cases (is_by node x) (is_holding x && eqb x.a range) (is_ending range x) (span_of 0 x) (latest (tells_hold node range) h)

  -- a record that is neither of kind 1 nor of kind 2, and ends nothing, leaves what is held
  pub held_same : (x : TraceRecord) (h : History) → is_kind 1 x ≡ false → is_kind 2 x ≡ false → is_kind 6 x ≡ false → is_kind 9 x ≡ false → is_kind 10 x ≡ false
      → has_hold node range (x ∷ h) ≡ has_hold node range h
  held_same x h not_1 not_2 a b c =
      let e : hold_of node range (x ∷ h) ≡ hold_of node range h =
      span_step x h ∙ rw (not_1, not_2, a, b, c) (either (is_by node x) (hold_of node range h)) in
      ap is_some e
    where
      either : (t : Bool) (o : Option Span) → cond t o o ≡ o
      either true o = refl
      either false o = refl
