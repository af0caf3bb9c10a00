-- Laws of walks: look-backs over the history of a log, one record at a time and by a chain.
use mathlib.Core.Path.{◌≡◌, refl, sym, ap, ◌∙◌}
use mathlib.Core.Bool.{Bool, true, false}
use mathlib.Core.List.{List, [], ◌∷◌}
use Rattle.std.specs.Prelude.{Option, None, Some}
use Prim.Native.Nat.{ℕ, suc, ◌-◌, ◌≤◌, ◌<◌, min}
use native.Mathlib.Omega.{arith}
use native.Mathlib.Decide.{dec_lt}
use Rattle.record.specs.Records.{TraceRecord}
use Rattle.rules.specs.History.{History, Tells, told, latest, firsts}
use Rattle.rules.proofs.Skips.{latest_hit, latest_skip, told_hit, told_skip}
use Rattle.history.specs.Logs.{record_at, hist}
use Rattle.history.proofs.Logs.{hist_none, hist_less, hist_suc}
use Rattle.history.proofs.Chains.{In}
use Rattle.rules.proofs.Tellings.{fresh, tells_none, firsts_afresh}
use Rattle.history.proofs.Queries.{Ignores, Turns}

-- any look-back, at the record before i
pub look_less : {A : Type 0} (L : History → A) (log : List ℕ) (i : ℕ) → 0 < i → L (hist log i) ≡ L (record_at log (i - 1) ∷ hist log (i - 1))
look_less L log i l = ap L (hist_less log i l)

pub look_end : {A : Type 0} (L : History → A) (log : List ℕ) {i : ℕ} → i ≡ 0 → L (hist log i) ≡ L []
look_end L log e = ap (λ (n : ℕ). L (hist log n)) e ∙ ap L (hist_none log)

-- any look-back is kept by the records outside the bucket, where each of them leaves it as it was
pub look_outside : {A : Type 0} (L : History → A) (f : Tells ℕ) (b : ℕ) (log : List ℕ)
    → ((x : TraceRecord) (h : History) → (f x h ≡ Some b → ⊥) → L (x ∷ h) ≡ L h)
    → (k : ℕ) → (In f b log k → ⊥) → L (hist log (suc k)) ≡ L (hist log k)
look_outside L f b log s k n = ap L (hist_suc log k) ∙ s (record_at log k) (hist log k) n

-- what was told latest: all that tells anything is in the bucket
pub latest_outside : {A : Type 0} (tells : Tells A) (f : Tells ℕ) (b : ℕ) (log : List ℕ)
    → ((x : TraceRecord) (h : History) (v : A) → tells x h ≡ Some v → f x h ≡ Some b)
    → (k : ℕ) → (In f b log k → ⊥) → latest tells (hist log (suc k)) ≡ latest tells (hist log k)
latest_outside tells f b log s = look_outside (latest tells) f b log (λ x h n. latest_skip tells x h (tells_none (tells x h) (λ v e. n (s x h v e))))

-- a turn that finds, one that does not, and the end
module _ {A : Type 0} (tells : Tells A) (log : List ℕ) {i : ℕ} where
  pub latest_found : {v : A} → 0 < i → tells (record_at log (i - 1)) (hist log (i - 1)) ≡ Some v → latest tells (hist log i) ≡ Some v
  latest_found l e = look_less (latest tells) log i l ∙ latest_hit tells (record_at log (i - 1)) (hist log (i - 1)) _ e

  pub latest_passed : 0 < i → tells (record_at log (i - 1)) (hist log (i - 1)) ≡ None → latest tells (hist log i) ≡ latest tells (hist log (i - 1))
  latest_passed l e = look_less (latest tells) log i l ∙ latest_skip tells (record_at log (i - 1)) (hist log (i - 1)) e

  pub latest_end : i ≡ 0 → latest tells (hist log i) ≡ None
  unfolding latest
  latest_end e = look_end (latest tells) log e

-- all that was told, at the record before i
module _ {A : Type 0} (tells : Tells A) (log : List ℕ) {i : ℕ} where
  pub told_found : {v : A} → 0 < i → tells (record_at log (i - 1)) (hist log (i - 1)) ≡ Some v → told tells (hist log i) ≡ v ∷ told tells (hist log (i - 1))
  told_found l e = look_less (told tells) log i l ∙ told_hit tells (record_at log (i - 1)) (hist log (i - 1)) _ e

  pub told_passed : 0 < i → tells (record_at log (i - 1)) (hist log (i - 1)) ≡ None → told tells (hist log i) ≡ told tells (hist log (i - 1))
  told_passed l e = look_less (told tells) log i l ∙ told_skip tells (record_at log (i - 1)) (hist log (i - 1)) e

  pub told_end : i ≡ 0 → told tells (hist log i) ≡ []
  unfolding told
  told_end e = look_end (told tells) log e

-- a question to all that was told: what passes is in the bucket
module _ {A B : Type 0} {p : A → Bool} {Q : List A → B} (q : Ignores p Q) (tells : Tells A) (f : Tells ℕ) (b : ℕ) (log : List ℕ)
    (s : (x : TraceRecord) (h : History) (v : A) → tells x h ≡ Some v → p v ≡ true → f x h ≡ Some b) where
  told_step : (x : TraceRecord) (h : History) → (f x h ≡ Some b → ⊥) → Q (told tells (x ∷ h)) ≡ Q (told tells h)
  told_step x h n = go (tells x h) refl
    where
      pass : (v : A) (t : Bool) → p v ≡ t → tells x h ≡ Some v → Q (v ∷ told tells h) ≡ Q (told tells h)
      pass v true e d = absurd (n (s x h v d e))
      pass v false e d = q.other v (told tells h) e

      go : (o : Option A) → tells x h ≡ o → Q (told tells (x ∷ h)) ≡ Q (told tells h)
      go None e = ap Q (told_skip tells x h e)
      go (Some v) e = ap Q (told_hit tells x h v e) ∙ pass v (p v) refl e

  pub told_outside : (k : ℕ) → (In f b log k → ⊥) → Q (told tells (hist log (suc k))) ≡ Q (told tells (hist log k))
  told_outside = look_outside (λ h. Q (told tells h)) f b log told_step

-- what was found so far, after a record: what it tells is taken over
abbrev pub step_by : {A C : Type 0} → (C → A → C) → C → Option A → C
step_by step found None = found
step_by step found (Some v) = step found v

-- a turn of such a walk
module _ {A B C : Type 0} {join : C → B → B} {step : C → A → C} {Q : List A → B} (t : Turns join step Q) (tells : Tells A) where
  told_taken : (found : C) (x : TraceRecord) (h : History) (o : Option A) → tells x h ≡ o
      → join found (Q (told tells (x ∷ h))) ≡ join (step_by step found o) (Q (told tells h))
  told_taken found x h None e = ap (λ (l : List A). join found (Q l)) (told_skip tells x h e)
  told_taken found x h (Some v) e = ap (λ (l : List A). join found (Q l)) (told_hit tells x h v e) ∙ t.turn found v (told tells h)

  pub told_turn : (log : List ℕ) (i : ℕ) {found found' : C} → 0 < i → found' ≡ step_by step found (tells (record_at log (i - 1)) (hist log (i - 1)))
      → join found (Q (told tells (hist log i))) ≡ join found' (Q (told tells (hist log (i - 1))))
  told_turn log i {found} {found'} l e =
      look_less (λ h. join found (Q (told tells h))) log i l
      ∙ told_taken found (record_at log (i - 1)) (hist log (i - 1)) (tells (record_at log (i - 1)) (hist log (i - 1))) refl
      ∙ ap (λ (c : C). join c (Q (told tells (hist log (i - 1))))) (sym e)

-- the same of the first of each, by what is told afresh
module _ {A : Type 0} (same : A → A → Bool) (tells : Tells A) (log : List ℕ) {i : ℕ} where
  pub firsts_found : {v : A} → 0 < i → fresh same tells (record_at log (i - 1)) (hist log (i - 1)) ≡ Some v
      → firsts same tells (hist log i) ≡ v ∷ firsts same tells (hist log (i - 1))
  firsts_found l e = rw (firsts_afresh same tells (hist log i), firsts_afresh same tells (hist log (i - 1))) (told_found (fresh same tells) log l e)

  pub firsts_end : i ≡ 0 → firsts same tells (hist log i) ≡ []
  unfolding firsts
  firsts_end e = look_end (firsts same tells) log e

pub firsts_outside : {A B : Type 0} {p : A → Bool} {Q : List A → B} (q : Ignores p Q) (same : A → A → Bool) (tells : Tells A)
    (f : Tells ℕ) (b : ℕ) (log : List ℕ)
    → ((x : TraceRecord) (h : History) (v : A) → fresh same tells x h ≡ Some v → p v ≡ true → f x h ≡ Some b)
    → (k : ℕ) → (In f b log k → ⊥) → Q (firsts same tells (hist log (suc k))) ≡ Q (firsts same tells (hist log k))
firsts_outside {Q = Q} q same tells f b log s k n =
    ap Q (firsts_afresh same tells (hist log (suc k))) ∙ told_outside q (fresh same tells) f b log s k n ∙ ap Q (sym (firsts_afresh same tells (hist log k)))

-- a look-back as of an earlier count, along a chain of today: what is above the top is passed over
abbrev pub up_to : {A : Type 0} → ℕ → (ℕ → A) → ℕ → A
up_to top g k = g (min k top)

module _ {A : Type 0} (g : ℕ → A) (top : ℕ) where
  pub up_to_below : (k : ℕ) → k ≤ top → up_to top g k ≡ g k
  up_to_below k l = let e : min k top ≡ k = omega arith in ap g e

  pub up_to_above : (k : ℕ) → top ≤ k → up_to top g k ≡ g top
  up_to_above k l = let e : min k top ≡ top = omega arith in ap g e

  pub up_to_outside : (f : Tells ℕ) (b : ℕ) (log : List ℕ) → ((k : ℕ) → (In f b log k → ⊥) → g (suc k) ≡ g k)
      → (k : ℕ) → (In f b log k → ⊥) → up_to top g (suc k) ≡ up_to top g k
  up_to_outside f b log s k n =
      elim (dec_lt k top) [
        | yes l ↦ up_to_below (suc k) (omega arith) ∙ s k n ∙ sym (up_to_below k (omega arith))
        | no l ↦ up_to_above (suc k) (omega arith) ∙ sym (up_to_above k (omega arith))
      ]
