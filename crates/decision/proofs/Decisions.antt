-- What is decided of a record, refusal by refusal, and what a record that is not refused has. Assumes nothing.
use Rattle.std.specs.Prelude.{Some, None}
use mathlib.Core.Path.{◌≡◌, refl, sym, ap, ◌∙◌}
use mathlib.Core.Bool.{Bool, true, false, cond}
use mathlib.Core.List.{List}
use mathlib.Core.Logic.{inl, inr}
use Prim.Native.Nat.{ℕ, zero, suc, ◌≤◌, ◌<◌}
use native.Mathlib.Omega.{arith}
use native.Mathlib.Decide.{ℕ_discrete}
use lib.ListN.{length}
use lib.Dec.{eqb}
use borrow.Author.Tests.{eqb-true, eqb-false, ne_eqb}
use Rattle.record.specs.Numbers.{byte_at}
use Rattle.record.specs.Records.{decode}
use Rattle.form.specs.KindTable.{shape_of, Shaped}
use Rattle.form.specs.Form.{values_fit, unused_clear, shaped_refusal, refusal_of}
use Rattle.form.proofs.Shapes.{past}
use Rattle.form.proofs.Sound.{wrong_size, by_shape}
use Rattle.rules.specs.History.{History}
use Rattle.rules.specs.Events.{stray}
use Rattle.history.specs.Bounds.{Bounds}
use Rattle.history.specs.Logs.{hist}
use Rattle.history.proofs.Logs.{hist_length}
use Rattle.decision.specs.declared.refusal.Refusal.{Refusal}
use Rattle.decision.specs.declared.refusal.Refusal.TheVariants.{Length, Kind, Value, Unused, Judge, Full, Opening, Output, Ticket, Event}
use Rattle.decision.specs.Refusals.{refusal_number, suits_by, or_next, refusal_after, push_refusal_by, PushNumber}
use Rattle.decision.proofs.Suiting.{Suiting, suiting, bounded}

-- ---- what a push is refused for, where the judge's numbers and the lengths suit

module _ (cap count : ℕ) (log : List ℕ) (words : ℕ) (bytes : List ℕ) (suited : suits_by cap count (length log) words ≡ true) where
  by_table : refusal_after cap (hist log count) bytes ≡ push_refusal_by cap count log words bytes
  by_table = sym (ap (λ (b : Bool). cond b (refusal_after cap (hist log count) bytes) 5) suited)

  -- a form that draws a refusal
  pub drawn : {f : ℕ} → (f ≡ 0 → ⊥) → refusal_of bytes ≡ f → f ≡ push_refusal_by cap count log words bytes
  drawn {f} n e =
      let lost = stray (decode bytes) (hist log count) in
      let full = eqb (length (hist log count)) cap in
      sym (ap (λ (g : ℕ). or_next g lost full) e ∙ ap (λ (b : Bool). cond b (cond lost 11 (cond full 6 0)) f) (ne_eqb f 0 n)) ∙ by_table

  -- a form that draws none, of a record that has an event to continue or begins one: the room is left to ask for
  pub roomed : {full : Bool} → refusal_of bytes ≡ 0 → stray (decode bytes) (hist log count) ≡ false → eqb count cap ≡ full
      → cond full 6 0 ≡ push_refusal_by cap count log words bytes
  roomed {full} e g f =
      let many : length (hist log count) ≡ count = hist_length log count in
      sym (rw (e, g, many, f)) ∙ by_table

-- a refusal's number is not 0
pub refuses : (f : Refusal) → refusal_number f ≡ 0 → ⊥
refuses Length e = omega arith
refuses Kind e = omega arith
refuses Value e = omega arith
refuses Unused e = omega arith
refuses Judge e = omega arith
refuses Full e = omega arith
refuses Opening e = omega arith
refuses Output e = omega arith
refuses Ticket e = omega arith
refuses Event e = omega arith

-- a kind that is none of document 01's
unknown_kind : (kind : ℕ) → (1 ≤ kind → kind ≤ 12 → ⊥) → shape_of kind ≡ None
unknown_kind zero n = refl
unknown_kind (suc k) n = past (suc k) (let m = n (omega arith) in omega arith)

pub wrong_kind : (bytes : List ℕ) → length bytes ≡ 368 → (1 ≤ byte_at 0 bytes → byte_at 0 bytes ≤ 12 → ⊥) → refusal_of bytes ≡ 2
wrong_kind bytes l n = by_shape bytes l None (unknown_kind (byte_at 0 bytes) n)

-- ---- what a record that is not refused has

suits_zero : (b : Bool) (x : ℕ) → cond b x 5 ≡ 0 → (b ≡ true) × (x ≡ 0)
suits_zero true x e = (refl, e)
suits_zero false x e = absurd (omega arith)

pub next_zero : (form : ℕ) (lost full b : Bool) → eqb form 0 ≡ b → cond b (cond lost 11 (cond full 6 0)) form ≡ 0
    → (form ≡ 0) × (lost ≡ false) × (full ≡ false)
next_zero form true full true e z = absurd (omega arith)
next_zero form false true true e z = absurd (omega arith)
next_zero form false false true e z = (eqb-true form 0 e, refl, refl)
next_zero form lost full false e z = absurd (eqb-false form 0 e z)

pub sized : (bytes : List ℕ) → refusal_of bytes ≡ 0 → length bytes ≡ 368
sized bytes z = elim (ℕ_discrete (length bytes) 368) [
  | yes e ↦ e
  | no n ↦ absurd (let w = wrong_size bytes n in omega arith)
]

-- the numbers and lengths where nothing is refused
pub record Room (cap count : ℕ) (log work bytes : List ℕ) : Type 0 where
  pub suits : Suiting cap count (length log) (length work)
  pub room : count < cap
  pub size : length bytes ≡ 368

pub room_of : {cap count : ℕ} {log work bytes : List ℕ} → push_refusal_by cap count log (length work) bytes ≡ 0 → Room cap count log work bytes
room_of {cap} {count} {log} {work} {bytes} z =
    let h = hist log count in
    let form = refusal_of bytes in
    let s = suits_zero (suits_by cap count (length log) (length work)) (refusal_after cap h bytes) z in
    let f = next_zero form (stray (decode bytes) h) (eqb (length h) cap) (eqb form 0) refl s.1 in
    let u = suiting s.0 in
    let l : count ≤ cap = u.within in
    let n : length h ≡ cap → ⊥ = eqb-false _ _ f.2 in
    let many : length h ≡ count = hist_length log count in
    record { suits = u; room = omega arith; size = sized bytes f.0 }

pub room_bounds : {cap count : ℕ} {log work bytes : List ℕ} → Room cap count log work bytes → Bounds log work count cap
room_bounds r = let d = r.room in bounded r.suits (λ z. omega arith)

-- ---- the numbers of a push's refusals

values_few : (a b : Bool) → cond a (cond b 0 4) 3 ≤ 4
values_few true true = omega arith
values_few true false = omega arith
values_few false b = omega arith

shaped_few : (k : Shaped) (bytes : List ℕ) → shaped_refusal k bytes ≤ 4
shaped_few None bytes = omega arith
shaped_few (Some k) bytes = values_few (values_fit k bytes) (unused_clear k bytes)

size_few : (b : Bool) (x : ℕ) → x ≤ 4 → cond b x 1 ≤ 4
size_few true x l = l
size_few false x l = omega arith

form_few : (bytes : List ℕ) → refusal_of bytes ≤ 4
unfolding refusal_of
form_few bytes = size_few (eqb (length bytes) 368) (shaped_refusal (shape_of (byte_at 0 bytes)) bytes) (shaped_few (shape_of (byte_at 0 bytes)) bytes)

next_number : (form : ℕ) (lost full b : Bool) → form ≤ 4 → PushNumber (cond b (cond lost 11 (cond full 6 0)) form)
next_number form true full true l = inr refl
next_number form false true true l = inl (omega arith)
next_number form false false true l = inl (omega arith)
next_number form lost full false l = inl (omega arith)

number_by : (b : Bool) (x : ℕ) → PushNumber x → PushNumber (cond b x 5)
number_by true x l = l
number_by false x l = inl (omega arith)

after_number : (bytes : List ℕ) (cap : ℕ) (h : History) → PushNumber (refusal_after cap h bytes)
after_number bytes cap h =
    next_number (refusal_of bytes) (stray (decode bytes) h) (eqb (length h) cap) (eqb (refusal_of bytes) 0) (form_few bytes)

pub push_number : (cap count : ℕ) (log : List ℕ) (words : ℕ) (bytes : List ℕ) → PushNumber (push_refusal_by cap count log words bytes)
push_number cap count log words bytes =
    number_by (suits_by cap count (length log) words) (refusal_after cap (hist log count) bytes) (after_number bytes cap (hist log count))

-- ---- 5 is of the judge and its lengths alone

next_sound : (form : ℕ) (lost full b : Bool) → form ≤ 4 → cond b (cond lost 11 (cond full 6 0)) form ≡ 5 → ⊥
next_sound form true full true l e = omega arith
next_sound form false true true l e = omega arith
next_sound form false false true l e = omega arith
next_sound form lost full false l e = omega arith

pub after_sound : (bytes : List ℕ) (cap : ℕ) (h : History) → refusal_after cap h bytes ≡ 5 → ⊥
after_sound bytes cap h =
    next_sound (refusal_of bytes) (stray (decode bytes) h) (eqb (length h) cap) (eqb (refusal_of bytes) 0) (form_few bytes)
