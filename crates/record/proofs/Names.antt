-- The numbers of the named sub-codes mean the names, both ways: each name's number is read as that name, and each number that has a name is
-- that name's; and two that are asked for by their numbers.
use mathlib.Core.Path.{◌≡◌, refl, sym, ◌∙◌}
use mathlib.Core.Bool.{Bool, true, false, cond}
use Prim.Native.Nat.{ℕ, zero, suc, ◌≤◌}
use native.Mathlib.Omega.{arith}
use lib.Dec.{eqb}
use borrow.Author.Tests.{eqb-true, ne_eqb}
use Rattle.record.specs.declared.named.RangeCause.{RangeCause}
use Rattle.record.specs.declared.named.RangeCause.TheVariants.{Bootstrap, Split, Snapshot}
use Rattle.record.specs.declared.named.RangeState.{RangeState}
use Rattle.record.specs.declared.named.RangeState.TheVariants.{Live, Merging, Subsumed}
use Rattle.record.specs.declared.named.ApplyEffect.{ApplyEffect}
use Rattle.record.specs.declared.named.ApplyEffect.TheVariants.{Applied, OutOfSpan, Frozen, Took, Aborted, Refused, None}
use Rattle.record.specs.Named.{cause_number, cause_of, state_number, state_of, effect_number, effect_of}

pub cause_named : (x : RangeCause) → cause_of (cause_number x) ≡ x
cause_named Bootstrap = refl
cause_named Split = refl
cause_named Snapshot = refl

pub cause_numbered : (n : ℕ) → 1 ≤ n → n ≤ 3 → cause_number (cause_of n) ≡ n
cause_numbered zero l h = absurd (omega arith)
cause_numbered (suc zero) l h = refl
cause_numbered (suc (suc zero)) l h = refl
cause_numbered (suc (suc (suc zero))) l h = refl
cause_numbered (suc (suc (suc (suc n)))) l h = absurd (omega arith)

pub state_named : (x : RangeState) → state_of (state_number x) ≡ x
state_named Live = refl
state_named Merging = refl
state_named Subsumed = refl

pub state_numbered : (n : ℕ) → 1 ≤ n → n ≤ 3 → state_number (state_of n) ≡ n
state_numbered zero l h = absurd (omega arith)
state_numbered (suc zero) l h = refl
state_numbered (suc (suc zero)) l h = refl
state_numbered (suc (suc (suc zero))) l h = refl
state_numbered (suc (suc (suc (suc n)))) l h = absurd (omega arith)

pub effect_named : (x : ApplyEffect) → effect_of (effect_number x) ≡ x
effect_named Applied = refl
effect_named OutOfSpan = refl
effect_named Frozen = refl
effect_named Took = refl
effect_named Aborted = refl
effect_named Refused = refl
effect_named None = refl

pub effect_numbered : (n : ℕ) → 1 ≤ n → n ≤ 7 → effect_number (effect_of n) ≡ n
effect_numbered zero l h = absurd (omega arith)
effect_numbered (suc zero) l h = refl
effect_numbered (suc (suc zero)) l h = refl
effect_numbered (suc (suc (suc zero))) l h = refl
effect_numbered (suc (suc (suc (suc zero)))) l h = refl
effect_numbered (suc (suc (suc (suc (suc zero))))) l h = refl
effect_numbered (suc (suc (suc (suc (suc (suc zero)))))) l h = refl
effect_numbered (suc (suc (suc (suc (suc (suc (suc zero))))))) l h = refl
effect_numbered (suc (suc (suc (suc (suc (suc (suc (suc n)))))))) l h = absurd (omega arith)

-- the sub-codes that are asked for as numbers: a RangeCreated's Split is 2, a RaftApply's Took is 4

-- a number that is j is not k
apart : (n j k : ℕ) → (j ≡ k → ⊥) → eqb n j ≡ true → false ≡ eqb n k
apart n j k d e = sym (ne_eqb n k (λ q. d (sym (eqb-true n j e) ∙ q)))

split_cases : (n : ℕ) (p q : Bool) → eqb n 1 ≡ p → eqb n 2 ≡ q → eqb (cause_number (cond p Bootstrap (cond q Split Snapshot))) 2 ≡ q
split_cases n true true e f = apart n 1 2 (λ z. omega arith) e ∙ f
split_cases n true false e f = refl
split_cases n false true e f = refl
split_cases n false false e f = refl

pub split_code : (n : ℕ) → eqb (cause_number (cause_of n)) (cause_number Split) ≡ eqb n 2
split_code n = split_cases n (eqb n 1) (eqb n 2) refl refl

took_cases : (n : ℕ) (a b c d e f : Bool) → eqb n 1 ≡ a → eqb n 2 ≡ b → eqb n 3 ≡ c → eqb n 4 ≡ d
    → eqb (effect_number (cond a Applied (cond b OutOfSpan (cond c Frozen (cond d Took (cond e Aborted (cond f Refused None))))))) 4 ≡ d
took_cases n true b c d e f p q r s = apart n 1 4 (λ z. omega arith) p ∙ s
took_cases n false true c d e f p q r s = apart n 2 4 (λ z. omega arith) q ∙ s
took_cases n false false true d e f p q r s = apart n 3 4 (λ z. omega arith) r ∙ s
took_cases n false false false true e f p q r s = refl
took_cases n false false false false true f p q r s = refl
took_cases n false false false false false true p q r s = refl
took_cases n false false false false false false p q r s = refl

pub took_code : (n : ℕ) → eqb (effect_number (effect_of n)) (effect_number Took) ≡ eqb n 4
took_code n = took_cases n (eqb n 1) (eqb n 2) (eqb n 3) (eqb n 4) (eqb n 5) (eqb n 6) refl refl refl refl
