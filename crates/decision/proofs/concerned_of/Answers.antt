-- Each arm names the checks that the table says its kind concerns.
use mathlib.Core.Path.{◌≡◌}
use mathlib.Core.Bool.{false}
use Prim.Native.Nat.{ℕ}
use native.Mathlib.Omega.{arith}
use borrow.Author.Tests.{ne_eqb}
use Rattle.rules.specs.History.{any_of}
use Rattle.decision.specs.declared.Concerned.{Concerned}
use Rattle.decision.specs.Refusals.{concerned_of}
use Rattle.decision.proofs.concerned_of.Goals as goal

abbrev none : Concerned
none = record {
  agreement = false;
  overlap = false;
  install = false;
  twice = false;
  half = false;
  generations = false;
  ids = false;
  meta = false;
}

pub returns-in-1 : goal.returns-in-1
unfolding any_of
returns-in-1 c = rw c.in-1.is

pub returns-in-2 : goal.returns-in-2
unfolding any_of
returns-in-2 c = rw c.in-2.is

pub returns-in-3 : goal.returns-in-3
unfolding any_of
returns-in-3 c = rw c.in-3.is

pub returns-in-5 : goal.returns-in-5
unfolding any_of
returns-in-5 c = rw c.in-5.is

pub returns-in-8 : goal.returns-in-8
unfolding any_of
returns-in-8 c = rw c.in-8.is

pub returns-in-11 : goal.returns-in-11
unfolding any_of
returns-in-11 c = rw c.in-11.is

pub returns-in-12 : goal.returns-in-12
unfolding any_of
returns-in-12 c = rw c.in-12.is

-- kinds that no check names
module _ (k : ℕ) (n1 : k ≡ 1 → ⊥) (n2 : k ≡ 2 → ⊥) (n3 : k ≡ 3 → ⊥) (n5 : k ≡ 5 → ⊥) (n8 : k ≡ 8 → ⊥) (n11 : k ≡ 11 → ⊥) (n12 : k ≡ 12 → ⊥) where
  unnamed : none ≡ concerned_of k
  unfolding any_of
  unnamed = rw (ne_eqb k 1 n1, ne_eqb k 2 n2, ne_eqb k 3 n3, ne_eqb k 5 n5, ne_eqb k 8 n8, ne_eqb k 11 n11, ne_eqb k 12 n12)

pub returns-in-4 : goal.returns-in-4
returns-in-4 c = unnamed c.args.kind (omega arith) (omega arith) (omega arith) (omega arith) (omega arith) (omega arith) (omega arith)

pub returns-in-4-2 : goal.returns-in-4-2
returns-in-4-2 c = unnamed c.args.kind (omega arith) (omega arith) (omega arith) (omega arith) (omega arith) (omega arith) (omega arith)
