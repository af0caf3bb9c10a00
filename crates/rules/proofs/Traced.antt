-- Until a split registers, a node has applied it where it traced a RangeSplit of it since its latest RaftRefused: no set of applied splits is needed.
use mathlib.Core.Path.{◌≡◌, refl, ap}
use mathlib.Core.Bool.{Bool, true, false, cond, ◌&&◌, and-false, or-false}
use mathlib.Core.List.{[], ◌∷◌}
use Rattle.std.specs.Prelude.{Option, None, Some}
use Prim.Native.Nat.{ℕ}
use lib.Dec.{eqb}
use Rattle.record.specs.Records.{TraceRecord}
use Rattle.rules.specs.History.{History, is_kind, is_by, when, holds, add_some, latest}
use Rattle.rules.specs.RightHalf.{Registered, is_split, registered, is_registered, registers, reaches, applies, tells_applies, has_applied}
use Rattle.rules.proofs.Members.{here, any_of_none, none_any_of}
use Rattle.rules.proofs.Firsts.{add_mem}
use Rattle.rules.proofs.Once.{registered_step}

module _ (node parent index : ℕ) where
  -- a RangeSplit of it by the node
  abbrev pub is_traced : TraceRecord → Bool
  is_traced x = is_by node x && eqb x.a parent && (is_kind 7 x && eqb x.b index)

  abbrev pub tells_traced : TraceRecord → History → Option Bool
  tells_traced x h = cond (is_traced x) (Some true) (when (is_by node x && is_kind 10 x) false)

  -- what is not registered after a record was not before
  pub unregistered_before : (x : TraceRecord) (h : History) → is_registered parent index (x ∷ h) ≡ false → is_registered parent index h ≡ false
  unregistered_before x h e =
      none_any_of (is_split parent index) (registered h)
      (λ s m. any_of_none (is_split parent index) (registered (x ∷ h)) e s (rw (registered_step x h) (add_mem (registers x h) m)))

  module _ (x : TraceRecord) (h : History) (e : is_registered parent index (x ∷ h) ≡ false) where
    itself_traced : applies node parent index x h ≡ is_traced x
    itself_traced = simp (e, unregistered_before x h e, and-false, or-false)

    not_registering : (o : Option Registered) → registered (x ∷ h) ≡ add_some o (registered h)
        → holds (λ s. is_split parent index s && reaches node s h) o ≡ false
    not_registering None q = refl
    not_registering (Some s) q =
        let n : is_split parent index s ≡ false = any_of_none (is_split parent index) (registered (x ∷ h)) e s (rw q here) in
        ap (λ (b : Bool). b && reaches node s h) n

    tells_traced_lem : tells_applies node parent index x h ≡ tells_traced x h
    tells_traced_lem = rw (itself_traced, not_registering (registers x h) (registered_step x h), or-false)

  latest_traced : (h : History) → is_registered parent index h ≡ false → latest (tells_applies node parent index) h ≡ latest tells_traced h
  unfolding latest
  latest_traced [] e = refl
  latest_traced (x ∷ h) e = rw (tells_traced_lem x h e, latest_traced h (unregistered_before x h e))

  pub applied_traced : (h : History) → is_registered parent index h ≡ false → has_applied node parent index h ≡ holds (λ b. b) (latest tells_traced h)
  unfolding has_applied
  applied_traced h e = ap (holds (λ b. b)) (latest_traced h e)
