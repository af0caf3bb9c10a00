-- Events of a beginning, and the beginnings by events: they are the longest with at most n events, and whole.
use mathlib.Core.Path.{◌≡◌, refl, ap, ◌∙◌}
use mathlib.Core.Bool.{true, false, cond}
use mathlib.Core.List.{[], ◌∷◌}
use mathlib.Core.Logic.{⊎_elim}
use Prim.Native.Nat.{ℕ, suc, ◌≤◌, ◌<◌}
use native.Mathlib.Omega.{arith}
use native.Mathlib.Decide.{dec_le}
use lib.ListN.{length}
use lib.Dec.{leb}
use borrow.Author.Tests.{le-leb, lt-leb}
use Rattle.record.specs.Records.{TraceRecord}
use Rattle.rules.specs.History.{History}
use Rattle.rules.specs.Events.{continues, event_after, events, first, records_in, first_events, stray}
use Rattle.record.proofs.Booleans.{decide}
use Rattle.rules.proofs.Beginnings.{first_later, first_all, first_nil, first_past, first_first, first_next}

-- ---- how many events

pub events_none : events [] ≡ 0
unfolding events
events_none = refl

pub events_step : (x : TraceRecord) (h : History) → events (x ∷ h) ≡ event_after (events h) x
unfolding events
events_step x h = refl

-- a record that continues, and one that begins an event
pub events_same : (x : TraceRecord) (h : History) → continues x ≡ true → events (x ∷ h) ≡ events h
events_same x h e = events_step x h ∙ rw e

pub events_next : (x : TraceRecord) (h : History) → continues x ≡ false → events (x ∷ h) ≡ suc (events h)
events_next x h e = events_step x h ∙ rw e

pub events_rise : (x : TraceRecord) (h : History) → events h ≤ events (x ∷ h)
events_rise x h = ⊎_elim
    (λ e. let q : events (x ∷ h) ≡ events h = events_same x h e in omega arith)
    (λ e. let q : events (x ∷ h) ≡ suc (events h) = events_next x h e in omega arith)
    (decide (continues x))

-- no more than records
pub events_few : (h : History) → events h ≤ length h
events_few [] = let z : events [] ≡ 0 = events_none in omega arith
events_few (x ∷ h) =
    let w : events h ≤ length h = events_few h in
    ⊎_elim
    (λ e. let q : events (x ∷ h) ≡ events h = events_same x h e in omega arith)
    (λ e. let q : events (x ∷ h) ≡ suc (events h) = events_next x h e in omega arith)
    (decide (continues x))

-- a beginning has no more events
pub events_first : (k : ℕ) (h : History) → events (first k h) ≤ events h
events_first k [] = let q : events (first k []) ≡ events [] = ap events (first_nil k) in omega arith
events_first k (x ∷ h) = elim (dec_le k (length h)) [
  | yes l ↦
      let q : events (first k (x ∷ h)) ≡ events (first k h) = ap events (first_later k x h l) in
      let w : events (first k h) ≤ events h = events_first k h in
      let r : events h ≤ events (x ∷ h) = events_rise x h in
      omega arith
  | no l ↦
      let q : events (first k (x ∷ h)) ≡ events (x ∷ h) = ap events (first_past k (x ∷ h) (omega arith)) in
      omega arith
]

pub events_order : (k n : ℕ) (h : History) → k ≤ n → n ≤ length h → events (first k h) ≤ events (first n h)
events_order k n h l m =
    let w : events (first k (first n h)) ≤ events (first n h) = events_first k (first n h) in
    let q : events (first k (first n h)) ≡ events (first k h) = ap events (first_first k n h l m) in
    omega arith

-- ---- the first n events

records_in_none : (n : ℕ) → records_in n [] ≡ 0
unfolding records_in
records_in_none n = refl

records_in_step : (n : ℕ) (x : TraceRecord) (h : History)
    → records_in n (x ∷ h) ≡ cond (leb (events (x ∷ h)) n) (suc (length h)) (records_in n h)
unfolding records_in
records_in_step n x h = refl

records_in_whole : (n : ℕ) (x : TraceRecord) (h : History) → events (x ∷ h) ≤ n → records_in n (x ∷ h) ≡ suc (length h)
records_in_whole n x h l = records_in_step n x h ∙ rw (le-leb (events (x ∷ h)) n l)

records_in_before : (n : ℕ) (x : TraceRecord) (h : History) → n < events (x ∷ h) → records_in n (x ∷ h) ≡ records_in n h
records_in_before n x h l = records_in_step n x h ∙ rw (lt-leb (events (x ∷ h)) n l)

-- all the events are all the records
pub records_in_all : (n : ℕ) (h : History) → events h ≤ n → records_in n h ≡ length h
records_in_all n [] l = records_in_none n
records_in_all n (x ∷ h) l = records_in_whole n x h l

pub first_events_all : (n : ℕ) (h : History) → events h ≤ n → first_events n h ≡ h
first_events_all n h l = ap (λ (k : ℕ). first k h) (records_in_all n h l) ∙ first_all h

pub records_in_within : (n : ℕ) (h : History) → records_in n h ≤ length h
records_in_within n [] = let q : records_in n [] ≡ 0 = records_in_none n in omega arith
records_in_within n (x ∷ h) = elim (dec_le (events (x ∷ h)) n) [
  | yes l ↦ let q : records_in n (x ∷ h) ≡ suc (length h) = records_in_whole n x h l in omega arith
  | no l ↦
      let q : records_in n (x ∷ h) ≡ records_in n h = records_in_before n x h (omega arith) in
      let w : records_in n h ≤ length h = records_in_within n h in
      omega arith
]

-- a record past the first n events leaves them as they are
pub first_events_later : (n : ℕ) (x : TraceRecord) (h : History) → n < events (x ∷ h)
    → first_events n (x ∷ h) ≡ first_events n h
first_events_later n x h l =
    ap (λ (k : ℕ). first k (x ∷ h)) (records_in_before n x h l) ∙ first_later (records_in n h) x h (records_in_within n h)

-- "the first n events" have at most n ..
pub first_events_most : (n : ℕ) (h : History) → events (first_events n h) ≤ n
first_events_most n [] =
    let q : events (first_events n []) ≡ events [] = ap events (first_nil (records_in n [])) in
    let z : events [] ≡ 0 = events_none in
    omega arith
first_events_most n (x ∷ h) = elim (dec_le (events (x ∷ h)) n) [
  | yes l ↦
      let q : events (first_events n (x ∷ h)) ≡ events (x ∷ h) = ap events (first_events_all n (x ∷ h) l) in
      omega arith
  | no l ↦
      let q : events (first_events n (x ∷ h)) ≡ events (first_events n h) =
      ap events (first_events_later n x h (omega arith)) in
      let w : events (first_events n h) ≤ n = first_events_most n h in
      omega arith
]

-- .. and no beginning with at most n is longer
pub records_in_longest : (n m : ℕ) (h : History) → m ≤ length h → events (first m h) ≤ n → m ≤ records_in n h
records_in_longest n m [] l b = omega arith
records_in_longest n m (x ∷ h) l b = elim (dec_le (events (x ∷ h)) n) [
  | yes p ↦ let q : records_in n (x ∷ h) ≡ suc (length h) = records_in_whole n x h p in omega arith
  | no p ↦ elim (dec_le m (length h)) [
    | yes k ↦
        let q : records_in n (x ∷ h) ≡ records_in n h = records_in_before n x h (omega arith) in
        let e : events (first m (x ∷ h)) ≡ events (first m h) = ap events (first_later m x h k) in
        let w : m ≤ records_in n h = records_in_longest n m h k (omega arith) in
        omega arith
    | no k ↦
        let e : events (first m (x ∷ h)) ≡ events (x ∷ h) = ap events (first_past m (x ∷ h) (omega arith)) in
        absurd (omega arith)
  ]
]

-- exactly n, where there are as many
pub first_events_exact : (n : ℕ) (h : History) → n ≤ events h → events (first_events n h) ≡ n
first_events_exact n [] l =
    let q : events (first_events n []) ≡ events [] = ap events (first_nil (records_in n [])) in
    let z : events [] ≡ 0 = events_none in
    omega arith
first_events_exact n (x ∷ h) l = elim (dec_le (events (x ∷ h)) n) [
  | yes p ↦
      let q : events (first_events n (x ∷ h)) ≡ events (x ∷ h) = ap events (first_events_all n (x ∷ h) p) in
      omega arith
  | no p ↦
      let q : events (first_events n (x ∷ h)) ≡ events (first_events n h) =
      ap events (first_events_later n x h (omega arith)) in
      let b : n ≤ events h =
      ⊎_elim
      (λ e. let t : events (x ∷ h) ≡ events h = events_same x h e in omega arith)
      (λ e. let t : events (x ∷ h) ≡ suc (events h) = events_next x h e in omega arith)
      (decide (continues x)) in
      let w : events (first_events n h) ≡ n = first_events_exact n h b in
      omega arith
]

-- "whole events": where there are more than n events, a record follows the first n, and it begins another
pub first_events_whole : (n : ℕ) (h : History) → n < events h
    → (x : TraceRecord) × (first (suc (records_in n h)) h ≡ x ∷ first_events n h) × (continues x ≡ false)
first_events_whole n h l =
    let b : events (first_events n h) ≤ n = first_events_most n h in
    let r : records_in n h ≤ length h = records_in_within n h in
    let o : records_in n h < length h = elim (dec_le (length h) (records_in n h)) [
      | yes m ↦
          let q : events (first_events n h) ≡ events h = ap events (first_past (records_in n h) h m) in
          absurd (omega arith)
      | no m ↦ omega arith
    ] in
    let w = first_next (records_in n h) h o in (
      w.0,
      w.1,
      ⊎_elim
          (λ c.
          let q : events (first (suc (records_in n h)) h) ≡ events (first_events n h) =
          ap events w.1 ∙ events_same w.0 (first_events n h) c in
          let z : suc (records_in n h) ≤ records_in n h =
          records_in_longest n (suc (records_in n h)) h (omega arith) (omega arith) in
          absurd (omega arith))
          (λ c. c)
          (decide (continues w.0)),
    )

-- ---- events from 1

-- no record stands before the first event: each beginning with a record has an event
abbrev pub Begun : History → Type 0
Begun h = (k : ℕ) → 1 ≤ k → k ≤ length h → 1 ≤ events (first k h)

pub begun_none : Begun []
begun_none k l m = absurd (omega arith)

-- a record that is not refused by 11 has an event
begun_last : (x : TraceRecord) (h : History) → Begun h → stray x h ≡ false → 1 ≤ events (x ∷ h)
begun_last x [] b e = let q : events (x ∷ []) ≡ suc (events []) = events_next x [] e in omega arith
begun_last x (y ∷ h) b e =
    let w : 1 ≤ events (first (length (y ∷ h)) (y ∷ h)) = b (length (y ∷ h)) (omega arith) (omega arith) in
    let q : events (first (length (y ∷ h)) (y ∷ h)) ≡ events (y ∷ h) = ap events (first_all (y ∷ h)) in
    let r : events (y ∷ h) ≤ events (x ∷ y ∷ h) = events_rise x (y ∷ h) in
    omega arith

pub begun_more : (x : TraceRecord) (h : History) → Begun h → stray x h ≡ false → Begun (x ∷ h)
begun_more x h b e k l m = elim (dec_le k (length h)) [
  | yes p ↦ let w : 1 ≤ events (first k h) = b k l p in let q : events (first k (x ∷ h)) ≡ events (first k h) = ap events (first_later k x h p) in omega arith
  | no p ↦
      let w : 1 ≤ events (x ∷ h) = begun_last x h b e in
      let q : events (first k (x ∷ h)) ≡ events (x ∷ h) = ap events (first_past k (x ∷ h) (omega arith)) in
      omega arith
]
