-- Beginnings by records: the first n records, when one more is taken, all of them, none, and the first of the first.
use mathlib.Core.Path.{◌≡◌, refl, ap, sym, ◌∙◌}
use mathlib.Core.List.{[], ◌∷◌}
use Prim.Native.Nat.{ℕ, suc, ◌-◌, ◌≤◌, ◌<◌}
use native.Mathlib.Omega.{arith}
use native.Mathlib.Decide.{dec_le}
use lib.ListN.{length, drop}
use Rattle.record.specs.Records.{TraceRecord}
use Rattle.rules.specs.History.{History}
use Rattle.rules.specs.Events.{first}

pub first_later : (n : ℕ) (x : TraceRecord) (h : History) → n ≤ length h → first n (x ∷ h) ≡ first n h
first_later n x h l = let e : suc (length h) - n ≡ suc (length h - n) = omega arith in ap (λ (k : ℕ). drop k (x ∷ h)) e

pub first_all : (h : History) → first (length h) h ≡ h
first_all h = let e : length h - length h ≡ 0 = omega arith in ap (λ (k : ℕ). drop k h) e

pub first_nil : (n : ℕ) → first n [] ≡ []
first_nil n = let e : 0 - n ≡ 0 = omega arith in ap (λ (k : ℕ). drop {A = TraceRecord} k []) e

pub first_none : (h : History) → first 0 h ≡ []
first_none [] = refl
first_none (x ∷ h) = first_later 0 x h (omega arith) ∙ first_none h

-- all that n reaches past
pub first_past : (n : ℕ) (h : History) → length h ≤ n → first n h ≡ h
first_past n h l = let e : length h - n ≡ 0 = omega arith in ap (λ (k : ℕ). drop k h) e

pub first_length : (n : ℕ) (h : History) → n ≤ length h → length (first n h) ≡ n
first_length n [] l = let e : n ≡ 0 = omega arith in ap (λ (k : ℕ). length (first k [])) e ∙ sym e
first_length n (x ∷ h) l = elim (dec_le n (length h)) [
  | yes m ↦ ap length (first_later n x h m) ∙ first_length n h m
  | no m ↦ let e : length (x ∷ h) ≡ n = omega arith in ap length (first_past n (x ∷ h) (omega arith)) ∙ e
]

-- a beginning of a beginning
pub first_first : (k n : ℕ) (h : History) → k ≤ n → n ≤ length h → first k (first n h) ≡ first k h
first_first k n [] l m = ap (first k) (first_nil n)
first_first k n (x ∷ h) l m = elim (dec_le n (length h)) [
  | yes p ↦ ap (first k) (first_later n x h p) ∙ first_first k n h l p ∙ sym (first_later k x h (omega arith))
  | no p ↦ ap (first k) (first_past n (x ∷ h) (omega arith))
]

-- the record that follows a beginning
pub first_next : (k : ℕ) (h : History) → k < length h → (x : TraceRecord) × (first (suc k) h ≡ x ∷ first k h)
first_next k [] l = absurd (omega arith)
first_next k (x ∷ h) l = elim (dec_le (suc k) (length h)) [
  | yes m ↦
      let w = first_next k h m in
      (w.0, first_later (suc k) x h m ∙ w.1 ∙ ap (λ (g : History). w.0 ∷ g) (sym (first_later k x h (omega arith))))
  | no m ↦
      let s : first k (x ∷ h) ≡ h = first_later k x h (omega arith) ∙ first_past k h (omega arith) in
      (x, first_past (suc k) (x ∷ h) (omega arith) ∙ ap (λ (g : History). x ∷ g) (sym s))
]
