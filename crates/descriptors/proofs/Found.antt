-- The look-ups as walks: the value in force at an index, and before one. Assumes nothing.
use mathlib.Core.Path.{◌≡◌}
use mathlib.Core.Bool.{◌&&◌, and-true}
use mathlib.Core.List.{List}
use Rattle.std.specs.Prelude.{None, Some}
use Prim.Native.Nat.{ℕ}
use lib.Dec.{eqb, leb}
use Rattle.rules.specs.History.{History}
use Rattle.rules.specs.Descriptors.{Entry, standing, at_in, at}
use Rattle.rules.proofs.Best.{greatest_agree}
use Rattle.descriptors.specs.Answers.{up_to, greatest_up_to}

pub at_up_to : (range index : ℕ) (vs : List Entry) → greatest_up_to range (Some index) None vs ≡ at_in range index vs
unfolding at_in
at_up_to range index vs =
    greatest_agree (λ v. v.index) (up_to range (Some index) None) (λ v. eqb v.range range && leb v.index index)
    (λ v. and-true (eqb v.range range && leb v.index index)) vs

pub at_is : (range index : ℕ) (h : History) → greatest_up_to range (Some index) None (standing h) ≡ at range index h
unfolding at
at_is range index h = at_up_to range index (standing h)
