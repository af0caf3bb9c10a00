-- What records tell with their numbers: in a list that is newest first the numbers fall, so the earliest has the lowest.
use mathlib.Core.Path.{◌≡◌, refl}
use mathlib.Core.Bool.{Bool, true, false, cond}
use mathlib.Core.List.{List, [], ◌∷◌, ◌++◌}
use Rattle.std.specs.Prelude.{Option, None, Some}
use Prim.Native.Nat.{ℕ, ◌≤◌, ◌<◌}
use native.Mathlib.Omega.{arith}
use lib.ListN.{length}
use Rattle.record.specs.Records.{TraceRecord}
use Rattle.rules.specs.History.{History, Tells, number_after, add_first, any_of, firsts}
use Rattle.record.proofs.Booleans.{never}
use Rattle.rules.proofs.Members.{Mem, here, there, mem_cons, mem_right}
use Rattle.rules.proofs.Placed.{Earliest}
use Rattle.rules.proofs.Firsts.{ToldBy, now, before, told_by, firsts_told}

module _ {A : Type 0} (number : A → ℕ) where
  -- each number is below that of what stands before it in the list
  pub data Falling : List A → Type 0 where
    empty : Falling []
    above : {x : A} {xs : List A} → ((y : A) → Mem y xs → number y < number x) → Falling xs → Falling (x ∷ xs)

  -- two with one number are one
  pub falling_one : {xs : List A} {a b : A} → Falling xs → Mem a xs → Mem b xs → number a ≡ number b → a ≡ b
  falling_one {a = a} {b = b} empty m _ e = elim m [ ]
  falling_one (above h f) here here e = refl
  falling_one (above h f) here (there n) e = absurd (omega (arith, h _ n))
  falling_one (above h f) (there m) here e = absurd (omega (arith, h _ m))
  falling_one (above h f) (there m) (there n) e = falling_one f m n e

  -- of those that pass the earliest has the lowest number
  lowest_at : (p : A → Bool) (r : A) (earlier later : List A) → Falling (later ++ (r ∷ earlier)) → ((y : A) → Mem y earlier → p y ≡ false)
      → (y : A) → Mem y (later ++ (r ∷ earlier)) → p y ≡ true → number r ≤ number y
  lowest_at p r earlier [] f h = mem_cons (λ q. omega arith) (λ y m q. never q (h y m))
  lowest_at p r earlier (x ∷ l) (above g f) h = mem_cons (λ q. omega (arith, g r (mem_right l here))) (lowest_at p r earlier l f h)

  pub earliest_lowest : (p : A → Bool) {xs : List A} {r : A} → Falling xs → Earliest p xs r → (y : A) → Mem y xs → p y ≡ true → number r ≤ number y
  earliest_lowest p {r = r} f w y m q =
      lowest_at p r w.place.earlier w.place.later (rw w.place.split at f) w.before y (rw w.place.split at m) q

  module _ (tells : Tells A) (numbered : (x : TraceRecord) (h : History) (a : A) → tells x h ≡ Some a → number a ≡ number_after h) where
    -- no number is above that of the newest record
    pub told_number : {a : A} {h : History} → ToldBy tells a h → number a ≤ length h
    told_number {a} (now {x = x} {h = h} e) = omega (arith, numbered x h a e)
    told_number (before w) = omega (arith, told_number w)

    first_falls : (same : A → A → Bool) (x : TraceRecord) (h : History) (o : Option A) → tells x h ≡ o → Falling (firsts same tells h)
        → Falling (add_first same o (firsts same tells h))
    first_falls same x h None e f = f
    first_falls same x h (Some a) e f = by_known (any_of (same a) (firsts same tells h))
      where
        bounded : (y : A) → Mem y (firsts same tells h) → number y ≤ length h
        bounded y m = told_number (told_by tells h (firsts_told same tells h m))

        by_known : (k : Bool) → Falling (cond k (firsts same tells h) (a ∷ firsts same tells h))
        by_known true = f
        by_known false = above {x = a} (λ y m. let b : number y ≤ length h = bounded y m in omega (arith, numbered x h a e)) f

    pub firsts_fall : (same : A → A → Bool) (h : History) → Falling (firsts same tells h)
    unfolding firsts
    firsts_fall same [] = empty
    firsts_fall same (x ∷ h) = first_falls same x h (tells x h) refl (firsts_fall same h)
