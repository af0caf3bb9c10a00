-- Laws of the columns: the cell of a record, one more record, and what a store leaves as it was.
use mathlib.Core.Path.{◌≡◌, refl, sym, ap, ◌∙◌}
use mathlib.Core.List.{List, [], ◌∷◌}
use Prim.Native.Nat.{ℕ, zero, suc, ◌+◌, ◌≤◌, ◌<◌}
use native.Mathlib.Omega.{arith}
use native.Mathlib.Decide.{dec_lt, ℕ_discrete}
use lib.ListN.{length, get_or, replicate, length-replicate, get_or-replicate, get_or-eq_default}
use borrow.Author.Tests.{eq-eqb, ne_eqb}
use Rattle.record.specs.Records.{TraceRecord}
use Rattle.rules.specs.History.{History}
use Rattle.history.specs.Logs.{record_at, hist}
use Rattle.history.specs.Columns.{Column, cell_of, Put, Entered}
use Rattle.history.proofs.Logs.{hist_length, hist_suc}

module _ (g : TraceRecord → History → ℕ) where
  -- the cell of the newest record, and those of the others
  pub cell_new : (x : TraceRecord) (h : History) → cell_of g (x ∷ h) (length h) ≡ g x h
  unfolding cell_of
  cell_new x h = rw (eq-eqb (length h) (length h) refl)

  pub cell_old : (x : TraceRecord) (h : History) (k : ℕ) → (k ≡ length h → ⊥) → cell_of g (x ∷ h) k ≡ cell_of g h k
  unfolding cell_of
  cell_old x h k n = rw (ne_eqb k (length h) n)

  -- past the records taken the column is 0
  pub cell_past : (h : History) (k : ℕ) → length h ≤ k → cell_of g h k ≡ 0
  unfolding cell_of
  cell_past [] k l = refl
  cell_past (x ∷ h) k l = cell_old x h k (λ e. omega arith) ∙ cell_past h k (omega arith)

  -- the cell of the record at a place of the log
  pub cell_at : (log : List ℕ) (n k : ℕ) → k < n → cell_of g (hist log n) k ≡ g (record_at log k) (hist log k)
  cell_at log zero k l = omega arith
  cell_at log (suc n) k l =
      let e : length (hist log n) ≡ n = hist_length log n in
      elim (ℕ_discrete k n) [
        | yes q ↦ ap (λ (h : History). cell_of g h k) (hist_suc log n)
            ∙ ap (cell_of g (record_at log n ∷ hist log n)) (q ∙ sym e)
            ∙ cell_new (record_at log n) (hist log n)
            ∙ ap (λ (j : ℕ). g (record_at log j) (hist log j)) (sym q)
        | no q ↦ ap (λ (h : History). cell_of g h k) (hist_suc log n)
            ∙ cell_old (record_at log n) (hist log n) k (λ z. q (z ∙ e))
            ∙ cell_at log n k (omega arith)
      ]

  -- a cell that is 0 need not be written: the column is 0 there already
  pub cell_none : (x : TraceRecord) (h : History) (k : ℕ) → g x h ≡ 0 → cell_of g (x ∷ h) k ≡ cell_of g h k
  cell_none x h k z =
      elim (ℕ_discrete k (length h)) [
        | yes q ↦ rw q (cell_new x h ∙ z ∙ sym (cell_past h (length h) (omega arith)))
        | no q ↦ cell_old x h k q
      ]

-- two work areas have the same words in a column
pub record Same (base cap : ℕ) (work work' : List ℕ) : Type 0 where
  pub word : (k : ℕ) → k < cap → get_or work' (base + k) 0 ≡ get_or work (base + k) 0

pub same_then : {base cap : ℕ} {work mid work' : List ℕ} → Same base cap work mid → Same base cap mid work' → Same base cap work work'
same_then a b = record { word = λ k l. b.word k l ∙ a.word k l }

-- a column is told by its own words
pub column_agrees : {F : ℕ → ℕ} {base cap : ℕ} {work work' : List ℕ} → Same base cap work work' → Column F base cap work → Column F base cap work'
column_agrees s c = record { word = λ k l. s.word k l ∙ c.word k l }

-- a store and an entry leave every other column as it was
pub put_apart : {base cap at v : ℕ} {work work' : List ℕ} → Put work work' at v → ((k : ℕ) → k < cap → base + k ≡ at → ⊥) → Same base cap work work'
put_apart p n = record { word = λ k l. p.others _ (n k l) }

pub entered_apart : {base cap heads links n b : ℕ} {work work' : List ℕ} → Entered work work' heads links n b
    → ((k : ℕ) → k < cap → base + k ≡ links + n → ⊥) → ((k : ℕ) → k < cap → base + k ≡ heads + b → ⊥) → Same base cap work work'
entered_apart p n m = record { word = λ k l. p.others _ (n k l) (m k l) }

-- one more record: its cell is put, or is 0 and left
module _ (g : TraceRecord → History → ℕ) (h : History) (x : TraceRecord) where
  pub column_put : {base cap : ℕ} {work work' : List ℕ} {n at v : ℕ} → Column (cell_of g h) base cap work
      → length h ≡ n → at ≡ base + n → v ≡ g x h → Put work work' at v → Column (cell_of g (x ∷ h)) base cap work'
  column_put {base} {cap} {work} {work'} {n} {at} {v} c e a q p = record {
    word = λ k l.
        elim (ℕ_discrete k (length h)) [
          | yes z ↦
              let w : base + k ≡ at = omega arith in
              ap (λ (j : ℕ). get_or work' j 0) w ∙ p.is ∙ q ∙ sym (cell_new g x h) ∙ ap (cell_of g (x ∷ h)) (sym z)
          | no z ↦ p.others (base + k) (λ y. z (omega arith)) ∙ c.word k l ∙ sym (cell_old g x h k z)
        ];
  }

  pub column_none : {base cap : ℕ} {work : List ℕ} → g x h ≡ 0 → Column (cell_of g h) base cap work → Column (cell_of g (x ∷ h)) base cap work
  column_none z c = record { word = λ k l. c.word k l ∙ sym (cell_none g x h k z) }

-- a work area of zeros, as `clear` leaves it
pub record Zeros (work : List ℕ) : Type 0 where
  pub word : (j : ℕ) → get_or work j 0 ≡ 0

pub zeros : (n : ℕ) {work : List ℕ} → work ≡ replicate n 0 → Zeros work
zeros n e = record {
  word = λ j.
      ap (λ (w : List ℕ). get_or w j 0) e
      ∙ elim (dec_lt j n) [
        | yes l ↦ get_or-replicate n j 0 0 l
        | no l ↦ get_or-eq_default (replicate n 0) 0 {n = j} (omega (arith, length-replicate {A = ℕ} n 0))
      ];
}

pub column_clear : (g : TraceRecord → History → ℕ) {base cap : ℕ} {work : List ℕ} → Zeros work → Column (cell_of g []) base cap work
unfolding cell_of
column_clear g z = record { word = λ k l. z.word _ }
