-- Laws of the log: its history grows by a record at a time, and an append changes nothing before it.
use mathlib.Core.Path.{◌≡◌, refl, sym, ap, ◌∙◌}
use mathlib.Core.List.{List, [], ◌∷◌}
use Prim.Native.Nat.{ℕ, zero, suc, ◌+◌, ◌-◌, ◌*◌, ◌≤◌, ◌<◌}
use native.Mathlib.Omega.{arith}
use native.Mathlib.Decide.{dec_lt}
use native.Mathlib.Numerals.{add-one}
use lib.ListN.{length, get_or, drop, length-take, length-drop}
use lib.Seq.{take_all, get_or-take, get_or-drop, ext_get_or}
use Rattle.record.specs.Records.{decode}
use Rattle.history.specs.Logs.{bytes_at, record_at, hist, Appended}

pub hist_none : (log : List ℕ) → hist log 0 ≡ []
unfolding hist
hist_none log = refl

pub hist_length : (log : List ℕ) (n : ℕ) → length (hist log n) ≡ n
unfolding hist
hist_length log zero = refl
hist_length log (suc n) = ap suc (hist_length log n)

pub hist_suc : (log : List ℕ) (n : ℕ) → hist log (suc n) ≡ record_at log n ∷ hist log n
unfolding hist
hist_suc log n = refl

-- one more record, as a loop that counts up has it
pub hist_more : (log : List ℕ) (n : ℕ) → hist log (n + 1) ≡ record_at log n ∷ hist log n
hist_more log n = ap (hist log) (add-one n) ∙ hist_suc log n

-- one less, as a loop that counts down has it
pub hist_less : (log : List ℕ) (n : ℕ) → 0 < n → hist log n ≡ record_at log (n - 1) ∷ hist log (n - 1)
hist_less log n h = let e : n ≡ n - 1 + 1 = omega arith in ap (hist log) e ∙ hist_more log (n - 1)

-- what `record_at` gives, decoded
pub record_bytes : {r : List ℕ} (log : List ℕ) (i : ℕ) → r ≡ bytes_at i log → decode r ≡ record_at log i
unfolding record_at
record_bytes log i e = ap decode e

pub bytes_length : (log : List ℕ) (i : ℕ) → 368 * i + 368 ≤ length log → length (bytes_at i log) ≡ 368
unfolding bytes_at
bytes_length log i h = simp (length-take, length-drop) (omega arith)

pub record_length : {r : List ℕ} (log : List ℕ) (i : ℕ) → r ≡ bytes_at i log → 368 * i + 368 ≤ length log → length r ≡ 368
record_length log i e h = ap length e ∙ bytes_length log i h

-- a byte of a record, as a byte of the log
pub bytes_at_lem : (log : List ℕ) (i j : ℕ) → j < 368 → get_or (bytes_at i log) j 0 ≡ get_or log (368 * i + j) 0
unfolding bytes_at
bytes_at_lem log i j h =
    let l : j < 368 * i + 368 - 368 * i = omega arith in
    get_or-take (368 * i + 368 - 368 * i) (drop (368 * i) log) j 0 l ∙ get_or-drop (368 * i) log j 0

-- a record is told by its own bytes
pub bytes_agree : (a b : List ℕ) (i : ℕ) → length a ≡ length b → ((j : ℕ) → 368 * i ≤ j → j < 368 * i + 368 → get_or a j 0 ≡ get_or b j 0)
    → bytes_at i a ≡ bytes_at i b
unfolding bytes_at
bytes_agree a b i e h =
    ext_get_or 0 (bytes_at i a) (bytes_at i b) (simp (length-take, length-drop, e))
    (λ j l.
    let m : j < 368 = omega (arith, length-take (368 * i + 368 - 368 * i) (drop (368 * i) a)) in
    bytes_at_lem a i j m ∙ h (368 * i + j) (omega arith) (omega arith) ∙ sym (bytes_at_lem b i j m))

-- a history of n records is told by the first 368 × n bytes
pub hist_agrees : (a b : List ℕ) (n : ℕ) → length a ≡ length b → ((j : ℕ) → j < 368 * n → get_or a j 0 ≡ get_or b j 0) → hist a n ≡ hist b n
unfolding hist record_at
hist_agrees a b zero e h = refl
hist_agrees a b (suc n) e h =
    let r : decode (bytes_at n a) ≡ decode (bytes_at n b) = ap decode (bytes_agree a b n e (λ j l m. h j (omega arith))) in
    let t : hist a n ≡ hist b n = hist_agrees a b n e (λ j l. h j (omega arith)) in
    cc

-- THE APPEND LAW: the records up to the place are as they were, and the one at the place is that of the bytes
module _ {log log' bytes : List ℕ} {n : ℕ} (a : Appended log log' n bytes) where
  pub appended_below : (k : ℕ) → k ≤ n → hist log' k ≡ hist log k
  appended_below k l = hist_agrees log' log k a.len (λ j m. a.others j (λ x y. omega arith))

  pub appended_record : record_at log' n ≡ decode bytes
  unfolding record_at
  appended_record = ap decode a.here

  pub appended_hist : hist log' (n + 1) ≡ decode bytes ∷ hist log n
  appended_hist = hist_more log' n ∙ rw (appended_record, appended_below n (omega arith))

  -- a log of one record is that record's bytes
  pub appended_whole : n ≡ 0 → length log ≡ 368 → log' ≡ bytes
  unfolding bytes_at
  appended_whole z e =
      let l : length log' ≤ 368 = omega (arith, a.len) in
      sym (take_all 368 log' l) ∙ sym (ap (λ (k : ℕ). bytes_at k log') z) ∙ a.here

-- every byte has a rule: what an append leaves is one log
pub appended_one : {log a b bytes : List ℕ} {n : ℕ} → Appended log a n bytes → Appended log b n bytes → a ≡ b
appended_one {log} {a} {b} {bytes} {n} p q = ext_get_or 0 a b (p.len ∙ sym q.len) (λ j l. elim (dec_lt j (368 * n)) [
  | yes m ↦ p.others j (λ x y. omega arith) ∙ sym (q.others j (λ x y. omega arith))
  | no m ↦ elim (dec_lt j (368 * n + 368)) [
    | yes k ↦
        let i : 368 * n + (j - 368 * n) ≡ j = omega arith in
        let u : j - 368 * n < 368 = omega arith in
        let here : (c : List ℕ) → get_or (bytes_at n c) (j - 368 * n) 0 ≡ get_or c j 0 =
        λ c. bytes_at_lem c n (j - 368 * n) u ∙ ap (λ (x : ℕ). get_or c x 0) i in
        sym (here a) ∙ ap (λ (c : List ℕ). get_or c (j - 368 * n) 0) (p.here ∙ sym q.here) ∙ here b
    | no k ↦ p.others j (λ x y. omega arith) ∙ sym (q.others j (λ x y. omega arith))
  ]
])
