-- The report of a history is right by records, each way, for any check, which is the stage before right by events; one more record
-- steps it; after a fault it stays.
use Rattle.std.specs.Prelude.{None, Some}
use mathlib.Core.Path.{◌≡◌, refl, sym, ap, ◌∙◌, subst}
use mathlib.Core.Bool.{true, false}
use mathlib.Core.List.{List, [], ◌∷◌, ◌++◌}
use mathlib.Core.Logic.{◌⊎◌, ⊎_elim}
use Prim.Native.Nat.{ℕ, ◌≤◌, ◌<◌}
use native.Mathlib.Omega.{arith}
use native.Mathlib.Decide.{dec_le}
use lib.ListN.{length}
use Rattle.record.specs.Records.{TraceRecord}
use Rattle.rules.specs.Cases.{Case, fault_with, is_fault}
use Rattle.rules.specs.declared.Evidence.{Evidence}
use Rattle.rules.specs.declared.Report.{Report}
use Rattle.rules.specs.declared.Verdict.{Verdict}
use Rattle.rules.specs.declared.Verdict.TheVariants.{Pass, Faulted}
use Rattle.rules.specs.History.{History}
use Rattle.rules.specs.Events.{first, position}
use Rattle.rules.specs.Reports.{passed, faulted, at_first, report_of}
use Rattle.record.proofs.Booleans.{never}
use Rattle.rules.proofs.Beginnings.{first_later, first_all, first_nil}
use Rattle.rules.proofs.CaseLists.{clear_of}

-- ---- one more record

-- a report as the case that it is of
abbrev case_by : Verdict → Evidence → Case
case_by Pass e = None
case_by (Faulted kind) e = fault_with kind e

-- a case as the report of it
abbrev as_report : ℕ → Case → Report
as_report n None = passed
as_report n (Some f) = faulted n f.kind f.evidence

pub passed_or : {A : Type 0} (n kind : ℕ) (e : Evidence) → passed ≡ faulted n kind e → A
passed_or n kind e q =
    let v : Pass ≡ Faulted kind = ap (λ (r : Report). r.verdict) q in
    let z : ◌≡◌ {A = ℕ} 0 1 = cc in
    absurd (omega arith)

pass_by : (v : Verdict) (r : Report) (c : Case) (n : ℕ) → r.verdict ≡ v → (at_first v r c n).verdict ≡ Pass → (v ≡ Pass) × (is_fault c ≡ false)
pass_by Pass r None n e d = (refl, refl)
pass_by Pass r (Some f) n e d = let z : ◌≡◌ {A = ℕ} 0 1 = cc in absurd (omega arith)
pass_by (Faulted kind) r c n e d = let z : ◌≡◌ {A = ℕ} 0 1 = cc in absurd (omega arith)

module _ (f : History → Case) where
  pub report_of_none : report_of f [] ≡ passed
  unfolding report_of
  report_of_none = refl

  -- one more record
  pub report_of_step : (x : TraceRecord) (h : History)
      → report_of f (x ∷ h) ≡ at_first (report_of f h).verdict (report_of f h) (f (x ∷ h)) (position (x ∷ h))
  unfolding report_of
  report_of_step x h = refl

  pub report_of_clear : (x : TraceRecord) (h : History) → report_of f h ≡ passed → f (x ∷ h) ≡ None → report_of f (x ∷ h) ≡ passed
  report_of_clear x h p q = report_of_step x h ∙ rw (p, q)

  pub report_of_fault : (x : TraceRecord) (h : History) (kind : ℕ) (e : Evidence) → report_of f h ≡ passed → f (x ∷ h) ≡ fault_with kind e
      → report_of f (x ∷ h) ≡ faulted (position (x ∷ h)) kind e
  report_of_fault x h kind e p q = report_of_step x h ∙ rw (p, q)

  pub report_of_kept : (x : TraceRecord) (h : History) (kind : ℕ) → (report_of f h).verdict ≡ Faulted kind → report_of f (x ∷ h) ≡ report_of f h
  report_of_kept x h kind v = report_of_step x h ∙ rw v

  -- a pass says that the report before was one, and that the check is clear now
  pub report_of_pass : (x : TraceRecord) (h : History) → (report_of f (x ∷ h)).verdict ≡ Pass → ((report_of f h).verdict ≡ Pass)
      × (is_fault (f (x ∷ h)) ≡ false)
  report_of_pass x h e =
      pass_by (report_of f h).verdict (report_of f h) (f (x ∷ h)) (position (x ∷ h)) refl (ap (λ (r : Report). r.verdict) (sym (report_of_step x h)) ∙ e)

  -- a report that passes is the report of a pass
  pub report_of_passed : (h : History) → (report_of f h).verdict ≡ Pass → report_of f h ≡ passed
  report_of_passed [] v = report_of_none
  report_of_passed (x ∷ h) v =
      let before = report_of_pass x h v in
      report_of_clear x h (report_of_passed h before.0) (clear_of (f (x ∷ h)) before.1)

  -- "after a fault the report stays", whatever records follow
  pub report_of_stays : (more : List TraceRecord) (h : History) (kind : ℕ) → (report_of f h).verdict ≡ Faulted kind
      → report_of f (more ++ h) ≡ report_of f h
  report_of_stays [] h kind v = refl
  report_of_stays (x ∷ more) h kind v =
      let s : report_of f (more ++ h) ≡ report_of f h = report_of_stays more h kind v in
      report_of_kept x (more ++ h) kind (ap (λ (r : Report). r.verdict) s ∙ v) ∙ s

-- ---- the first fault by records, whatever having the fault means

-- the first n records have it, no fewer do, and it is the case c
pub record FirstRecord (has : History → Type 0) (case_at : History → Case) (h : History) (n : ℕ) (c : Case) : Type 0 where
  pub within : n ≤ length h
  pub here : has (first n h)
  pub shorter : (m : ℕ) → m < n → has (first m h) → ⊥
  pub case : case_at (first n h) ≡ c

-- a report that is right by records, each way: its position is that of the first faulty record
pub record RightByRecords (has : History → Type 0) (case_at : History → Case) (h : History) (r : Report) : Type 0 where
  pub fault_only : (n kind : ℕ) (e : Evidence) → r ≡ faulted n kind e
      → (m : ℕ) × (n ≡ position (first m h)) × FirstRecord has case_at h m (fault_with kind e)
  pub fault_if : (n kind : ℕ) (e : Evidence) → FirstRecord has case_at h n (fault_with kind e) → r ≡ faulted (position (first n h)) kind e
  pub pass_only : r ≡ passed → (n : ℕ) → n ≤ length h → has (first n h) → ⊥
  pub pass_if : ((n : ℕ) → n ≤ length h → has (first n h) → ⊥) → r ≡ passed

module _ (has : History → Type 0) (case_at : History → Case) where
  first_place : (h : History) {n m : ℕ} {c d : Case} → FirstRecord has case_at h n c → FirstRecord has case_at h m d → n ≡ m
  first_place h {n} {m} a b =
      let x : n < m → ⊥ = λ l. b.shorter n l a.here in
      let y : m < n → ⊥ = λ l. a.shorter m l b.here in
      omega arith

  first_report : (h : History) {n m : ℕ} {c d : Case} → FirstRecord has case_at h n c → FirstRecord has case_at h m d
      → as_report (position (first n h)) c ≡ as_report (position (first m h)) d
  first_report h {n} {m} {c} {d} a b =
      let p : n ≡ m = first_place h a b in
      let q : c ≡ d = sym a.case ∙ ap (λ (k : ℕ). case_at (first k h)) p ∙ b.case in
      λ i. as_report (position (first (p i) h)) (q i)

  first_kept : (x : TraceRecord) (h : History) {n : ℕ} {c : Case} → FirstRecord has case_at h n c → FirstRecord has case_at (x ∷ h) n c
  first_kept x h {n} a =
      let w = a.within in
      let s : first n (x ∷ h) ≡ first n h = first_later n x h w in
      record {
        within = omega arith;
        here = subst has (sym s) a.here;
        shorter = λ m l y. a.shorter m l (subst has (first_later m x h (omega arith)) y);
        case = ap case_at s ∙ a.case;
      }

  -- no beginning has the fault
  abbrev pub Free : History → Type 0
  Free h = (n : ℕ) → n ≤ length h → has (first n h) → ⊥

  -- a report as it has to be: a pass and no beginning with the fault, or the first fault
  pub data Judged (h : History) (r : Report) : Type 0 where
    clean : r ≡ passed → Free h → Judged h r
    faulty : (n kind : ℕ) (e : Evidence) → r ≡ faulted (position (first n h)) kind e → FirstRecord has case_at h n (fault_with kind e) → Judged h r

  is_first : (h : History) (r : Report) (n kind : ℕ) (e : Evidence) → r ≡ faulted n kind e → Judged h r
      → (m : ℕ) × (n ≡ position (first m h)) × FirstRecord has case_at h m (fault_with kind e)
  is_first h r n kind e q (clean p none) = passed_or n kind e (sym p ∙ q)
  is_first h r n kind e q (faulty m k d p x) =
      let t : faulted (position (first m h)) k d ≡ faulted n kind e = sym p ∙ q in
      (m, sym (ap (λ (z : Report). z.at) t), subst (λ (z : Report). FirstRecord has case_at h m (case_by z.verdict z.evidence)) t x)

  is_fault_lem : (h : History) (r : Report) (n kind : ℕ) (e : Evidence) → FirstRecord has case_at h n (fault_with kind e) → Judged h r
      → r ≡ faulted (position (first n h)) kind e
  is_fault_lem h r n kind e a (clean p none) = absurd (none n a.within a.here)
  is_fault_lem h r n kind e a (faulty m k d p x) = p ∙ first_report h x a

  is_free : (h : History) (r : Report) → r ≡ passed → Judged h r → Free h
  is_free h r q (clean p none) = none
  is_free h r q (faulty m k d p x) = passed_or _ k d (sym q ∙ p)

  is_pass : (h : History) (r : Report) → Free h → Judged h r → r ≡ passed
  is_pass h r none (clean p none') = p
  is_pass h r none (faulty m k d p x) = absurd (none m x.within x.here)

  pub right_of : (h : History) (r : Report) → Judged h r → RightByRecords has case_at h r
  right_of h r s = record {
    fault_only = λ n kind e q. is_first h r n kind e q s;
    fault_if = λ n kind e a. is_fault_lem h r n kind e a s;
    pass_only = λ q. is_free h r q s;
    pass_if = λ none. is_pass h r none s;
  }

  -- where a beginning with a fault has one in its last record, or had one before, and a fault in a last record is had, the report is right
  module _ (nothing : has [] → ⊥)
      (last : (h : History) → is_fault (case_at h) ≡ true → has h)
      (only : (x : TraceRecord) (h : History) → has (x ∷ h) → (is_fault (case_at (x ∷ h)) ≡ true) ⊎ has h) where
    free_more : (x : TraceRecord) (h : History) → case_at (x ∷ h) ≡ None → Free h → Free (x ∷ h)
    free_more x h q none n l y = elim (dec_le n (length h)) [
      | yes m ↦ none n m (subst has (first_later n x h m) y)
      | no m ↦
          let e : n ≡ length (x ∷ h) = omega arith in
          let z : has (x ∷ h) = subst has (ap (λ (k : ℕ). first k (x ∷ h)) e ∙ first_all (x ∷ h)) y in
          ⊎_elim
          (λ b. never b (ap is_fault q))
          (λ w. none (length h) (omega arith) (subst has (sym (first_all h)) w))
          (only x h z)
    ]

    judged_clean : (x : TraceRecord) (h : History) (c : Case) → case_at (x ∷ h) ≡ c → report_of case_at h ≡ passed → Free h
        → Judged (x ∷ h) (report_of case_at (x ∷ h))
    judged_clean x h None q p none = clean (report_of_clear case_at x h p q) (free_more x h q none)
    judged_clean x h (Some f) q p none =
        faulty (length (x ∷ h)) f.kind f.evidence
        (report_of_fault case_at x h f.kind f.evidence p q ∙ ap (λ (g : History). faulted (position g) f.kind f.evidence) (sym (first_all (x ∷ h))))
        (record {
          within = omega arith;
          here = subst has (sym (first_all (x ∷ h))) (last (x ∷ h) (ap is_fault q));
          shorter = λ m l y. none m (omega arith) (subst has (first_later m x h (omega arith)) y);
          case = ap case_at (first_all (x ∷ h)) ∙ q;
        })

    pub judged : (h : History) → Judged h (report_of case_at h)
    judged [] = clean (report_of_none case_at) (λ n l y. nothing (subst has (first_nil n) y))
    judged (x ∷ h) = elim (judged h) [
      | clean p none ↦ judged_clean x h (case_at (x ∷ h)) refl p none
      | faulty n kind e p a ↦
          faulty n kind e
          (report_of_kept case_at x h kind (ap (λ (r : Report). r.verdict) p)
          ∙ p
          ∙ ap (λ (g : History). faulted (position g) kind e) (sym (first_later n x h a.within)))
          (first_kept x h a)
    ]

    pub right_by_records : (h : History) → RightByRecords has case_at h (report_of case_at h)
    right_by_records h = right_of h (report_of case_at h) (judged h)
