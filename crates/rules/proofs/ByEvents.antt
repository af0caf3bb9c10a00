-- A report that is right by records is right by events, for any check whose fault is had to the end of its event; and such are the
-- checks whose cases arise at records, and those judged as a whole that are constant along events.
use Rattle.std.specs.Prelude.{None}
use mathlib.Core.Path.{◌≡◌, refl, sym, ap, ◌∙◌, subst}
use mathlib.Core.Bool.{true, false}
use mathlib.Core.List.{[], ◌∷◌}
use mathlib.Core.Logic.{◌⊎◌, inl, inr, ⊎_elim}
use Prim.Native.Nat.{ℕ, suc, ◌≤◌, ◌<◌}
use native.Mathlib.Omega.{arith}
use native.Mathlib.Decide.{dec_le}
use lib.ListN.{length}
use Rattle.rules.specs.Cases.{Case, fault_with, is_fault}
use Rattle.rules.specs.declared.Evidence.{Evidence}
use Rattle.rules.specs.declared.Report.{Report}
use Rattle.rules.specs.declared.Verdict.TheVariants.{Pass}
use Rattle.record.specs.Records.{TraceRecord}
use Rattle.rules.specs.History.{History}
use Rattle.rules.specs.Events.{first, continues, events, position, records_in, first_events}
use Rattle.rules.specs.Reports.{passed, faulted, AtRecord, at_last, HasWhole, Arises, Steady, FirstFault, Right, report_of}
use Rattle.record.proofs.Booleans.{decide, never}
use Rattle.rules.proofs.Beginnings.{first_later, first_all, first_nil, first_none, first_past, first_length, first_first}
use Rattle.rules.proofs.Events.{events_same, events_next, events_first, events_order, records_in_within, records_in_longest, first_events_all, first_events_later, first_events_most, Begun}
use Rattle.rules.proofs.CaseLists.{clear_of}
use Rattle.rules.proofs.Reports.{FirstRecord, RightByRecords, Judged, clean, faulty, judged, right_by_records, report_of_none, report_of_clear, report_of_pass}

-- what a check has to supply: an empty history has no fault, what its last record has it has, what it has its last record has or it
-- had before, and what it has it has with a record that continues
pub record Lawful (has : History → Type 0) (case_at : History → Case) : Type 0 where
  pub nothing : has [] → ⊥
  pub last : (h : History) → is_fault (case_at h) ≡ true → has h
  pub only : (x : TraceRecord) (h : History) → has (x ∷ h) → (is_fault (case_at (x ∷ h)) ≡ true) ⊎ has h
  pub along : (x : TraceRecord) (h : History) → continues x ≡ true → has h → has (x ∷ h)

module _ {has : History → Type 0} {case_at : History → Case} (lawful : Lawful has case_at) where
  open lawful use {nothing, last, only, along}

  -- what the first m records have, they have with the rest of the event of record m, as far as it has been taken
  pub event_has : (m n : ℕ) (h : History) → m ≤ length h → events (first m h) ≡ n → has (first m h) → has (first_events n h)
  event_has m n [] l e y = absurd (nothing (subst has (first_nil m) y))
  event_has m n (x ∷ h) l e y = elim (dec_le m (length h)) [
    | yes k ↦
        let s : first m (x ∷ h) ≡ first m h = first_later m x h k in
        let t : events (first m h) ≡ n = ap events (sym s) ∙ e in
        let w : has (first_events n h) = event_has m n h k t (subst has s y) in
        elim (dec_le (events (x ∷ h)) n) [
          | yes p ↦
              let b : events (first m h) ≤ events h = events_first m h in
              ⊎_elim
              (λ c.
              let q : events (x ∷ h) ≡ events h = events_same x h c in
              let g : first_events n h ≡ h = first_events_all n h (omega arith) in
              subst has (sym (first_events_all n (x ∷ h) p)) (along x h c (subst has g w)))
              (λ c. let q : events (x ∷ h) ≡ suc (events h) = events_next x h c in absurd (omega arith))
              (decide (continues x))
          | no p ↦ subst has (sym (first_events_later n x h (omega arith))) w
        ]
    | no k ↦
        let s : first m (x ∷ h) ≡ x ∷ h = first_past m (x ∷ h) (omega arith) in
        let t : events (x ∷ h) ≡ n = ap events (sym s) ∙ e in
        subst has (s ∙ sym (first_events_all n (x ∷ h) (omega arith))) y
  ]

  -- where a beginning has the fault, the check says one at one of its records
  pub has_found : (g : History) → has g → (k : ℕ) × (k ≤ length g) × (is_fault (case_at (first k g)) ≡ true)
  has_found [] y = absurd (nothing y)
  has_found (x ∷ g) y = ⊎_elim
      (λ b. (length (x ∷ g), omega arith, ap (λ (h : History). is_fault (case_at h)) (first_all (x ∷ g)) ∙ b))
      (λ z.
      let w = has_found g z in
      let l : w.0 ≤ length g = w.1 in
      (w.0, omega arith, ap (λ (h : History). is_fault (case_at h)) (first_later w.0 x g l) ∙ w.2))
      (only x g y)

  -- the first n events are the first records, as many as those have
  module _ (h : History) where
    inside : (n k : ℕ) → k ≤ records_in n h → first k (first_events n h) ≡ first k h
    inside n k l = first_first k (records_in n h) h l (records_in_within n h)

    -- the first fault by records is the first fault by events
    pub first_by_events : (m n kind : ℕ) (e : Evidence) → events (first m h) ≡ n → FirstRecord has case_at h m (fault_with kind e)
        → FirstFault has case_at h n kind e
    first_by_events m n kind e q a =
        let w : m ≤ length h = a.within in
        let l : m ≤ records_in n h = records_in_longest n m h w (omega arith) in
        let r : records_in n h ≤ length h = records_in_within n h in
        record {
          within = let b : events (first m h) ≤ events h = events_first m h in omega arith;
          here = event_has m n h w q a.here;
          shorter = λ k below y.
              let b : events (first_events k h) ≤ k = first_events_most k h in
              let j = records_in k h in
              let i : j ≤ length h = records_in_within k h in
              elim (dec_le m j) [
                | yes o ↦
                    let c : events (first m h) ≤ events (first j h) = events_order m j h o i in
                    absurd (omega arith)
                | no o ↦ a.shorter j (omega arith) y
              ];
          case = record {
            number = m;
            within = let z : length (first_events n h) ≡ records_in n h = first_length (records_in n h) h r in omega arith;
            here = ap case_at (inside n m l) ∙ a.case;
            earlier = λ k below. ⊎_elim
                (λ b. absurd (a.shorter k below (last (first k h) (ap (λ (g : History). is_fault (case_at g)) (sym (inside n k (omega arith))) ∙ b))))
                (λ b. b)
                (decide (is_fault (case_at (first k (first_events n h)))));
          };
        }

    -- the record of a first fault by events is within them
    number_within : (n kind : ℕ) (e : Evidence) (a : FirstFault has case_at h n kind e) → a.case.number ≤ records_in n h
    number_within n kind e a =
        let l : a.case.number ≤ length (first_events n h) = a.case.within in
        let z : length (first_events n h) ≡ records_in n h = first_length (records_in n h) h (records_in_within n h) in
        omega arith

    -- and it is the first fault by records
    pub first_by_records : (n kind : ℕ) (e : Evidence) (a : FirstFault has case_at h n kind e)
        → FirstRecord has case_at h a.case.number (fault_with kind e)
    first_by_records n kind e a =
        let m = a.case.number in
        let l : m ≤ records_in n h = number_within n kind e a in
        let r : records_in n h ≤ length h = records_in_within n h in
        let c : case_at (first m h) ≡ fault_with kind e = ap case_at (sym (inside n m l)) ∙ a.case.here in
        record {
          within = omega arith;
          here = last (first m h) (ap is_fault c);
          shorter = λ j below y.
              let f = has_found (first j h) y in
              let k = f.0 in
              let p : k ≤ length (first j h) = f.1 in
              let q : length (first j h) ≡ j = first_length j h (omega arith) in
              let s : first k (first j h) ≡ first k h = first_first k j h (omega arith) (omega arith) in
              let t : first k (first_events n h) ≡ first k (first j h) = inside n k (omega arith) ∙ sym s in
              never (ap (λ (g : History). is_fault (case_at g)) t ∙ f.2) (a.case.earlier k (omega arith));
          case = c;
        }

    -- "A fault inside an event has that event's number": the faulty record stands in event n
    pub first_event : (n kind : ℕ) (e : Evidence) (a : FirstFault has case_at h n kind e) → events (first a.case.number h) ≡ n
    first_event n kind e a =
        let m = a.case.number in
        let l : m ≤ records_in n h = number_within n kind e a in
        let r : records_in n h ≤ length h = records_in_within n h in
        let b : events (first m h) ≤ events (first_events n h) = events_order m (records_in n h) h l r in
        let d : events (first_events n h) ≤ n = first_events_most n h in
        let z : events (first m h) < n → ⊥ =
        λ o. a.shorter (events (first m h)) o (event_has m (events (first m h)) h (omega arith) refl (first_by_records n kind e a).here) in
        omega arith

    -- positions are from 1
    pub fault_from_one : (n kind : ℕ) (e : Evidence) → FirstFault has case_at h n kind e → Begun h → 1 ≤ n
    fault_from_one n kind e a begun =
        let m = a.case.number in
        let w = first_by_records n kind e a in
        let l : m ≤ length h = w.within in
        let q : events (first m h) ≡ n = first_event n kind e a in
        elim (dec_le 1 m) [
          | yes o ↦ let b : 1 ≤ events (first m h) = begun m o l in omega arith
          | no o ↦ let z : m ≡ 0 = omega arith in absurd (nothing (subst has (ap (λ (k : ℕ). first k h) z ∙ first_none h) w.here))
        ]

    -- right by records, so right by events
    pub right_by_events : (r : Report) → RightByRecords has case_at h r → Right has case_at h r
    right_by_events r p = record {
      fault_only = λ n kind e q. let w = p.fault_only n kind e q in first_by_events w.0 n kind e (sym w.1) w.2;
      fault_if = λ n kind e a.
          p.fault_if a.case.number kind e (first_by_records n kind e a) ∙ ap (λ (k : ℕ). faulted k kind e) (first_event n kind e a);
      pass_only = λ q n l y. p.pass_only q (records_in n h) (records_in_within n h) y;
      pass_if = λ none. p.pass_if (λ m l y.
          none (events (first m h)) (events_first m h) (event_has m (events (first m h)) h l refl y));
    }

    pub right : Right has case_at h (report_of case_at h)
    right = right_by_events (report_of case_at h) (right_by_records has case_at nothing last only h)

    -- a right report is one
    right_is : (r : Report) → Right has case_at h r → Judged has case_at h (report_of case_at h) → r ≡ report_of case_at h
    right_is r p (clean q none) =
        p.pass_if (λ n l y. none (records_in n h) (records_in_within n h) y) ∙ sym q
    right_is r p (faulty m kind e q a) = p.fault_if (position (first m h)) kind e (first_by_events m (position (first m h)) kind e refl a) ∙ sym q

    pub right_one : (r : Report) → Right has case_at h r → r ≡ report_of case_at h
    right_one r p = right_is r p (judged has case_at nothing last only h)

-- ---- a fault that a beginning has as a whole, by a check that is constant along events: agreement's

pub whole_lawful : (f : History → Case) → f [] ≡ None → Steady f → Lawful (HasWhole f) f
whole_lawful f e steady = record {
  nothing = λ y. never y (ap is_fault e);
  last = λ h y. y;
  only = λ x h y. inl y;
  along = λ x h c y. ap is_fault (steady x h c) ∙ y;
}

-- ---- a case that arises at one of the beginning's records: the other checks'

module _ (f : AtRecord) where
  arises_none : Arises f [] → ⊥
  unfolding Arises
  arises_none y = y

  arises_last : (h : History) → is_fault (at_last f h) ≡ true → Arises f h
  unfolding Arises
  arises_last [] y = never y refl
  arises_last (x ∷ h) y = inl y

  arises_only : (x : TraceRecord) (h : History) → Arises f (x ∷ h) → (is_fault (f x h) ≡ true) ⊎ Arises f h
  unfolding Arises
  arises_only x h y = y

  arises_more : (x : TraceRecord) (h : History) → Arises f h → Arises f (x ∷ h)
  unfolding Arises
  arises_more x h y = inr y

  pub arises_lawful : Lawful (Arises f) (at_last f)
  arises_lawful = record { nothing = arises_none; last = arises_last; only = arises_only; along = λ x h c y. arises_more x h y }

  -- the report is a pass exactly where no case arose
  pub none_arose : (h : History) → (report_of (at_last f) h).verdict ≡ Pass → Arises f h → ⊥
  unfolding Arises
  none_arose [] e = λ y. y
  none_arose (x ∷ h) e =
      let s = report_of_pass (at_last f) x h e in
      ⊎_elim (λ y. never y s.1) (none_arose h s.0)

  pub none_passes : (h : History) → (Arises f h → ⊥) → report_of (at_last f) h ≡ passed
  unfolding Arises
  none_passes [] n = report_of_none (at_last f)
  none_passes (x ∷ h) n =
      let c : is_fault (f x h) ≡ false = ⊎_elim (λ y. absurd (n (inl y))) (λ y. y) (decide (is_fault (f x h))) in
      report_of_clear (at_last f) x h (none_passes h (λ y. n (inr y))) (clear_of (f x h) c)
