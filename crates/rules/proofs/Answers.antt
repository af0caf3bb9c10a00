-- What a look-up answers, by the number found: nothing where it is 0, and else the record with it.
use Rattle.std.specs.Prelude.{Some, None}
use mathlib.Core.Path.{◌≡◌, refl, sym, ap, ◌∙◌}
use Prim.Native.Nat.{ℕ, zero, suc}
use Rattle.rules.specs.Answers.{found_at}

pub found_none : {n k : ℕ} → n ≡ k → n ≡ 0 → None ≡ found_at k
found_none e z = ap found_at (sym z ∙ e)

pub found_some : (n : ℕ) → (n ≡ 0 → ⊥) → Some n ≡ found_at n
found_some zero z = absurd (z refl)
found_some (suc n) z = refl

pub found_at_lem : {n k : ℕ} → n ≡ k → (n ≡ 0 → ⊥) → Some n ≡ found_at k
found_at_lem {n} e z = found_some n z ∙ ap found_at e
