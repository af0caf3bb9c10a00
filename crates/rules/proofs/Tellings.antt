-- Laws of what records tell: what is told under a test, and what is told afresh, that is as the first of its like.
use mathlib.Core.Path.{◌≡◌, refl, ap, ◌∙◌}
use mathlib.Core.Bool.{Bool, true, false, cond}
use mathlib.Core.List.{List, [], ◌∷◌}
use Rattle.std.specs.Prelude.{Option, None, Some}
use Rattle.record.specs.Records.{TraceRecord}
use Rattle.record.proofs.Booleans.{none_some, never}
use Rattle.rules.specs.History.{History, Tells, when, given, any_of, add_some, add_first, told, firsts, is_some}
use Rattle.rules.proofs.Skips.{told_hit, told_skip}

module _ {A : Type 0} where
  -- what is told under a test is told where it holds
  pub when_holds : (t : Bool) (a : A) {v : A} → when t a ≡ Some v → t ≡ true
  when_holds true a e = refl
  when_holds false a e = cc

  pub when_value : (t : Bool) (a : A) {v : A} → when t a ≡ Some v → a ≡ v
  when_value true a e = cc
  when_value false a e = cc

  -- nothing is told, where telling anything is absurd
  pub tells_none : (o : Option A) → ((v : A) → o ≡ Some v → ⊥) → o ≡ None
  tells_none None n = refl
  tells_none (Some v) n = absurd (n v refl)

  pub none_of : (o : Option A) → is_some o ≡ false → o ≡ None
  none_of None e = refl
  none_of (Some v) e = never refl e

  -- what a record adds to the first of each: what it tells, unless one of the same was told before
  abbrev pub unless_known : (A → A → Bool) → List A → A → Option A
  unless_known same xs v = cond (any_of (same v) xs) None (Some v)

  unfoldable pub fresh : (A → A → Bool) → Tells A → Tells A
  fresh same tells x h = given (unless_known same (firsts same tells h)) (tells x h)

-- the first of each are all that is told afresh: so every law of `told` is one of `firsts`
module _ {A : Type 0} (same : A → A → Bool) (tells : Tells A) where
  add_first_lem : (o : Option A) (xs : List A) → add_first same o xs ≡ add_some (given (unless_known same xs) o) xs
  add_first_lem None xs = refl
  add_first_lem (Some v) xs = go (any_of (same v) xs)
    where
      go : (t : Bool) → cond t xs (v ∷ xs) ≡ add_some (cond t None (Some v)) xs
      go true = refl
      go false = refl

  pub firsts_afresh : (h : History) → firsts same tells h ≡ told (fresh same tells) h
  unfolding firsts told fresh
  firsts_afresh [] = refl
  firsts_afresh (x ∷ h) =
      let e : firsts same tells h ≡ told (fresh same tells) h = firsts_afresh h in
      add_first_lem (tells x h) (firsts same tells h)
      ∙ ap (add_some (given (unless_known same (firsts same tells h)) (tells x h))) e

module _ {A : Type 0} (same : A → A → Bool) (tells : Tells A) (x : TraceRecord) (h : History) where
  -- what is told afresh was told; the first of each are one more by it, or stay
  pub fresh_told : {v : A} → fresh same tells x h ≡ Some v → tells x h ≡ Some v
  unfolding fresh
  fresh_told {v} = go (tells x h)
    where
      pass : (o : A) (t : Bool) → cond t None (Some o) ≡ Some v → Some o ≡ Some v
      pass o true e = none_some e
      pass o false e = e

      go : (t : Option A) → given (unless_known same (firsts same tells h)) t ≡ Some v → t ≡ Some v
      go None e = e
      go (Some o) e = pass o (any_of (same o) (firsts same tells h)) e

  pub fresh_more : {v : A} → fresh same tells x h ≡ Some v → firsts same tells (x ∷ h) ≡ v ∷ firsts same tells h
  fresh_more e = rw (firsts_afresh same tells (x ∷ h), firsts_afresh same tells h) (told_hit (fresh same tells) x h _ e)

  pub fresh_same : fresh same tells x h ≡ None → firsts same tells (x ∷ h) ≡ firsts same tells h
  fresh_same e = rw (firsts_afresh same tells (x ∷ h), firsts_afresh same tells h) (told_skip (fresh same tells) x h e)
