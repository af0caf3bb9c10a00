-- Laws of what can be said of reading: how many bytes.
use mathlib.Core.Path.{◌≡◌, sym, subst}
use mathlib.Core.List.{List}
use Prim.Native.Nat.{ℕ, ◌-◌, ◌≤◌}
use native.Mathlib.Omega.{arith}
use lib.ListN.{length, take, drop, length-take, length-drop}
use lib.Seq.{length-take-le}
use Rattle.std.specs.Prelude.{Result, Ok}
use Rattle.std.specs.declared.io.Error.{Error}
use Rattle.sheet.specs.Calls.{Held}

-- a number within a list counts bytes at its front
pub counts : (buf : List ℕ) (n : ℕ) → n ≤ length buf → Held (Ok n) buf
counts buf n l = (l, sym (length-take-le n buf l))

pub held_bytes : (buf : List ℕ) {r : Result ℕ Error} {n : ℕ} → r ≡ Ok n → Held r buf → Held (Ok n) buf
held_bytes buf e h = subst (λ (r : Result ℕ Error). Held r buf) e h

-- the bytes read into a part that was lent from a place to the end are no more than the rest
pub held_rest : (at : ℕ) (buf part : List ℕ) {r : Result ℕ Error} {n : ℕ} → length part ≡ length (take (length buf - at) (drop at buf)) → r ≡ Ok n
    → Held r part → n ≤ length buf - at
held_rest at buf part e f h =
    let k = held_bytes part f h in
    omega (arith, length-take (length buf - at) (drop at buf), length-drop at buf, k.0)
