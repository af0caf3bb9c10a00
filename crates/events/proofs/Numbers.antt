-- Events as a number: the word of a run's events is their number; and refusal 11 by the log.
use mathlib.Core.Path.{◌≡◌, refl, sym, ap, ◌∙◌}
use mathlib.Core.Bool.{Bool, true, false, cond, not, ◌&&◌, ◌||◌}
use mathlib.Core.List.{List, ◌∷◌}
use Prim.Native.Nat.{ℕ, suc, ◌+◌, ◌-◌, ◌≤◌, ◌<◌}
use native.Mathlib.Omega.{arith}
use native.Mathlib.Numerals.{add-one}
use lib.ListN.{length}
use lib.Dec.{eqb}
use borrow.Author.Tests.{ne_eqb}
use Rattle.record.specs.Records.{TraceRecord, decode}
use Rattle.rules.specs.History.{History}
use Rattle.rules.specs.Events.{continues, event_after, events, goes_on, stray}
use Rattle.rules.proofs.Events.{events_step, events_few}
use Rattle.history.specs.Logs.{bytes_at, record_at, hist}
use Rattle.history.proofs.Logs.{hist_none, hist_less, record_bytes}
use Rattle.events.specs.Numbers.{most, event_in}

-- below the greatest number the word is the number
word_by : (n : ℕ) (b m : Bool) → m ≡ false → cond (b || m) n (n + 1) ≡ cond b n (suc n)
word_by n true m e = refl
word_by n false m e = ap (λ (z : Bool). cond z n (n + 1)) e ∙ add-one n

event_in_lem : (n : ℕ) (x : TraceRecord) → n < most → event_in n x ≡ event_after n x
event_in_lem n x l = word_by n (continues x) (eqb n most) (ne_eqb n most (λ e. omega arith))

-- THE WORD OF A RUN: after few records it is the number of their events
pub event_is : (n : ℕ) (x : TraceRecord) (h : History) → n ≡ events h → length h ≤ 4096 → event_in n x ≡ events (x ∷ h)
event_is n x h e l =
    let few : events h ≤ length h = events_few h in
    event_in_lem n x (omega arith) ∙ ap (λ (k : ℕ). event_after k x) e ∙ sym (events_step x h)

-- ---- refusal 11 by the log

module _ (x : TraceRecord) (log : List ℕ) (n : ℕ) (e : continues x ≡ true) where
  pub stray_first : n ≡ 0 → stray x (hist log n) ≡ true
  stray_first z = ap (λ (k : ℕ). stray x (hist log k)) z ∙ ap (stray x) (hist_none log) ∙ e

  pub stray_after : (last : List ℕ) → (n ≡ 0 → ⊥) → last ≡ bytes_at (n - 1) log → not (goes_on x (decode last)) ≡ stray x (hist log n)
  stray_after last z l =
      ap (λ (y : TraceRecord). not (goes_on x y)) (record_bytes log (n - 1) l)
      ∙ sym (ap (stray x) (hist_less log n (omega arith)) ∙ ap (λ (b : Bool). b && not (goes_on x (record_at log (n - 1)))) e)
