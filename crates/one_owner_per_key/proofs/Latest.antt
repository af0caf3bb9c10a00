-- Laws of the latest record that passes a test: where it is, what is between, and what a walk down to it leaves out.
use mathlib.Core.Path.{◌≡◌, refl, sym, ap, ◌∙◌}
use mathlib.Core.Bool.{Bool, true, false, cond}
use mathlib.Core.List.{List, [], ◌∷◌}
use mathlib.Core.Logic.{inl, inr}
use Prim.Native.Nat.{ℕ, zero, suc, ◌-◌, ◌≤◌, ◌<◌}
use native.Mathlib.Omega.{arith}
use native.Mathlib.Decide.{ℕ_discrete}
use lib.ListN.{length}
use Rattle.record.specs.Records.{TraceRecord}
use Rattle.rules.specs.History.{History}
use Rattle.history.specs.Logs.{record_at, hist}
use Rattle.history.proofs.Logs.{hist_none, hist_length, hist_suc}
use Rattle.one_owner_per_key.specs.Numbers.{latest_number}
use Rattle.record.proofs.Booleans.{decide, never}

module _ (t : TraceRecord → History → Bool) where
  pub number_none : latest_number t [] ≡ 0
  unfolding latest_number
  number_none = refl

  -- one record on: that record, or the latest before it
  pub number_hit : (x : TraceRecord) (h : History) → t x h ≡ true → latest_number t (x ∷ h) ≡ suc (length h)
  unfolding latest_number
  number_hit x h e = rw e

  pub number_miss : (x : TraceRecord) (h : History) → t x h ≡ false → latest_number t (x ∷ h) ≡ latest_number t h
  unfolding latest_number
  number_miss x h e = rw e

  pub number_step : (x : TraceRecord) (h : History) → latest_number t (x ∷ h) ≡ cond (t x h) (suc (length h)) (latest_number t h)
  unfolding latest_number
  number_step x h = refl

-- the record at place k of the log passes the test
abbrev pub passes_at : (TraceRecord → History → Bool) → List ℕ → ℕ → Bool
passes_at t log k = t (record_at log k) (hist log k)

module _ (t : TraceRecord → History → Bool) (log : List ℕ) where
  pub at_hit : (n : ℕ) → passes_at t log n ≡ true → latest_number t (hist log (suc n)) ≡ suc n
  at_hit n e = rw hist_suc (number_hit t (record_at log n) (hist log n) e ∙ ap suc (hist_length log n))

  pub at_miss : (n : ℕ) → passes_at t log n ≡ false → latest_number t (hist log (suc n)) ≡ latest_number t (hist log n)
  at_miss n e = rw hist_suc (number_miss t (record_at log n) (hist log n) e)

  -- what holds of no record, of one that passes, and is kept by any other, holds of the latest that passes
  number_ind : (P : ℕ → ℕ → Type 0) → P 0 0 → ((n : ℕ) → passes_at t log n ≡ true → P (suc n) (suc n))
      → ((n m : ℕ) → passes_at t log n ≡ false → P n m → P (suc n) m) → (n : ℕ) → P n (latest_number t (hist log n))
  number_ind P z s k zero = rw (hist_none, number_none t) z
  number_ind P z s k (suc n) =
      elim (decide (passes_at t log n)) [
        | inl e ↦ rw (at_hit n e) (s n e)
        | inr e ↦ rw (at_miss n e) (k n (latest_number t (hist log n)) e (number_ind P z s k n))
      ]

  pub number_bound : (n : ℕ) → latest_number t (hist log n) ≤ n
  number_bound = number_ind (λ n m. m ≤ n) (omega arith) (λ n e. omega arith) (λ n m e h. omega arith)

  -- the record found passes
  pub number_is : (n : ℕ) → 0 < latest_number t (hist log n) → passes_at t log (latest_number t (hist log n) - 1) ≡ true
  number_is =
      number_ind (λ n m. 0 < m → passes_at t log (m - 1) ≡ true)
      (λ l. absurd (omega arith))
      (λ n e l. let q : suc n - 1 ≡ n = omega arith in rw q e)
      (λ n m e h. h)

  -- none that passes is later
  pub number_over : (n j : ℕ) → j < n → passes_at t log j ≡ true → j < latest_number t (hist log n)
  number_over =
      number_ind (λ n m. (j : ℕ) → j < n → passes_at t log j ≡ true → j < m)
      (λ j l e. l)
      (λ n e j l q. l)
      (λ n m e h j l q.
      elim (ℕ_discrete j n) [
        | yes z ↦ never (rw z at q) e
        | no z ↦ h j (omega arith) q
      ])

  -- what only the records that pass change is as it was at the latest of them
  pub as_of : {A : Type 0} (g : ℕ → A) → ((k : ℕ) → passes_at t log k ≡ false → g (suc k) ≡ g k) → (n : ℕ) → g n ≡ g (latest_number t (hist log n))
  as_of g s = number_ind (λ n m. g n ≡ g m) refl (λ n e. refl) (λ n m e h. s n e ∙ h)

  -- at the record before i, as a walk down has it
  pub less_hit : {i : ℕ} → 0 < i → passes_at t log (i - 1) ≡ true → latest_number t (hist log i) ≡ i
  less_hit {i} l e = let q : i ≡ suc (i - 1) = omega arith in ap (λ (n : ℕ). latest_number t (hist log n)) q ∙ at_hit (i - 1) e ∙ sym q

  pub less_miss : {i : ℕ} → 0 < i → passes_at t log (i - 1) ≡ false → latest_number t (hist log i) ≡ latest_number t (hist log (i - 1))
  less_miss {i} l e = let q : i ≡ suc (i - 1) = omega arith in ap (λ (n : ℕ). latest_number t (hist log n)) q ∙ at_miss (i - 1) e
