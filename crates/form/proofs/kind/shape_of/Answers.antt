-- The table's row of each kind is the arm's constant; a kind byte that no arm names is 0 or past the table.
use mathlib.Core.Path.{◌≡◌, sym, ◌∙◌}
use mathlib.Core.Logic.{inr, ⊎_elim}
use Prim.Native.Nat.{◌≤◌}
use native.Mathlib.Omega.{arith}
use Rattle.form.proofs.Shapes.{over, past, five_six}
use Rattle.form.proofs.kind.shape_of.Goals.{in-10-1, in_default+else-kind-lt1+then-kind-lt7}
use Rattle.form.proofs.kind.shape_of.Goals as goal

pub returns-in-1 : goal.returns-in-1
returns-in-1 c = rw c.in-1.is

pub returns-in-2 : goal.returns-in-2
returns-in-2 c = rw c.in-2.is

pub returns-in-3 : goal.returns-in-3
returns-in-3 c = rw c.in-3.is

pub returns-in-4 : goal.returns-in-4
returns-in-4 c = ⊎_elim (λ e. rw e c.numbered.ensures) (λ e. rw e c.numbered.ensures) c.in-4.is

pub returns-in-8 : goal.returns-in-8
returns-in-8 c = rw c.in-8.is

pub returns-in-9 : goal.returns-in-9
returns-in-9 c = rw c.in-9.is c.numbered-in-9.ensures

pub returns-in-11 : goal.returns-in-11
returns-in-11 c = rw c.in-11.is c.numbered-in-11.ensures

pub returns-in-12 : goal.returns-in-12
returns-in-12 c = rw c.in-12.is

pub returns-in_default : goal.returns-in_default
returns-in_default c = let z : c.args.kind ≡ 0 = omega arith in rw z

pub returns-in_default-2 : goal.returns-in_default-2
returns-in_default-2 c =
    let k = c.args.kind in
    let a = c.in_default.in_default-own.rest in
    let h : 10 ≤ k = over 9 k (over 8 k (over 7 k c.in_default.if-kind-lt7-own.false (λ e. a.0.0.0.0.0.1 (inr e))) a.0.0.0.1) a.0.0.1 in
    sym (past k (over 12 k (over 11 k (over 10 k h a.0.0.0.0.1) a.0.1) a.1))

pub returns-in-5-to-6 : goal.returns-in-5-to-6
returns-in-5-to-6 c =
    elim c.in-5-to-6-1.branch [
      | in-10-1 w ↦ (let z : c.args.kind ≡ 10 = omega arith in rw z c.numbered-in-5-to-6.ensures)
      | in_default+else-kind-lt1+then-kind-lt7 w ↦ c.numbered-in-5-to-6.ensures ∙ sym (five_six c.args.kind (grind arith) (grind arith))
    ]
