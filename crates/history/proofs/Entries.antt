-- Laws of a record that is entered into a chain where it has a bucket, and else into none.
use mathlib.Core.Path.{◌≡◌, ap}
use mathlib.Core.List.{List, ◌∷◌}
use mathlib.Core.Logic.{◌⊎◌, inl, inr, ⊎_elim}
use Rattle.std.specs.Prelude.{Option, None, Some, IfSome}
use Prim.Native.Nat.{ℕ, ◌+◌, ◌*◌, ◌≤◌, ◌<◌}
use native.Mathlib.Omega.{arith}
use native.Mathlib.Decide.{dec_lt}
use lib.ListN.{length, get_or}
use Rattle.record.specs.Records.{TraceRecord}
use Rattle.rules.specs.History.{History, Tells}
use Rattle.history.specs.Columns.{Chained, EnteredIf}
use Rattle.history.proofs.Cells.{Same}
use Rattle.history.proofs.Chains.{chained_agrees, entered, not_entered}

pub length_if : (o : Option ℕ) {work work' : List ℕ} {heads links n : ℕ} → EnteredIf work work' heads links n o → length work' ≡ length work
length_if None e = ap length e.is
length_if (Some b) e = e.is.len

-- a bucket is below the capacity, where there is one
pub record Below (cap : ℕ) (o : Option ℕ) : Type 0 where
  pub is : IfSome o (λ b. b < cap)

module _ {work work' : List ℕ} {heads links n cap : ℕ} {o : Option ℕ} (e : EnteredIf work work' heads links n o) (l : n < cap) (m : Below cap o) where
  pub word_if : (j : ℕ) → (j ≡ links + n → ⊥) → (j < heads) ⊎ (heads + cap ≤ j) → get_or work' j 0 ≡ get_or work j 0
  word_if = go o e m
    where
      go : (o : Option ℕ) → EnteredIf work work' heads links n o → Below cap o → (j : ℕ) → (j ≡ links + n → ⊥) → (j < heads) ⊎ (heads + cap ≤ j)
          → get_or work' j 0 ≡ get_or work j 0
      go None c w j p q = ap (λ (w : List ℕ). get_or w j 0) c.is
      go (Some b) c w j p q = let k : b < cap = w.is in c.is.others j p (λ z. ⊎_elim (λ u. omega arith) (λ u. omega arith) q)

  -- a word outside the two columns is as it was
  pub outside_if : links ≡ heads + cap → (j : ℕ) → (heads ≤ j → j < links + cap → ⊥) → get_or work' j 0 ≡ get_or work j 0
  outside_if u j p =
      elim (dec_lt j heads) [
        | yes v ↦ word_if j (λ z. omega arith) (inl v)
        | no v ↦ word_if j (λ z. p (omega arith) (omega arith)) (inr (elim (dec_lt j (links + cap)) [ yes w ↦ absurd (p (omega arith) w) | no w ↦ omega arith ]))
      ]

  -- a column before the heads or after the links is as it was
  pub same_if : (base : ℕ) → links ≡ heads + cap → (base + cap ≤ heads) ⊎ (heads + 2 * cap ≤ base) → Same base cap work work'
  same_if base u (inl v) = record { word = λ k w. word_if (base + k) (λ z. omega arith) (inl (omega arith)) }
  same_if base u (inr v) = record { word = λ k w. word_if (base + k) (λ z. omega arith) (inr (omega arith)) }

  -- and so is a chain
  pub chain_if : {f : Tells ℕ} {h : History} (heads2 links2 : ℕ) → links ≡ heads + cap → links2 ≡ heads2 + cap
      → (heads2 + 2 * cap ≤ heads) ⊎ (heads + 2 * cap ≤ heads2)
      → Chained f heads2 links2 cap h work → Chained f heads2 links2 cap h work'
  chain_if heads2 links2 u v (inl w) c = chained_agrees (same_if heads2 u (inl (omega arith))) (same_if links2 u (inl (omega arith))) c
  chain_if heads2 links2 u v (inr w) c = chained_agrees (same_if heads2 u (inr (omega arith))) (same_if links2 u (inr (omega arith))) c

-- the record is entered where it has a bucket
pub step_if : {f : Tells ℕ} {heads links cap n : ℕ} {h : History} {x : TraceRecord} {work work' : List ℕ} (o : Option ℕ) → f x h ≡ o → length h ≡ n
    → n < cap → Below cap o → heads + cap ≤ links → EnteredIf work work' heads links n o → Chained f heads links cap h work
    → Chained f heads links cap (x ∷ h) work'
step_if {f} {heads} {links} {cap} {h = h} {x = x} None e p l m u w c = rw w.is (not_entered e c)
step_if (Some b) e p l m u w c = entered p l m.is u e w.is c
