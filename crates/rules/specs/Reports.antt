-- What is reported of a history: a check's fault of a beginning, the first fault by events, and the report.
use Rattle.std.specs.Prelude.{◌≡◌, true, false, [], ◌∷◌, ◌⊎◌, ℕ, ◌≤◌, ◌<◌, length, None, Some}
use Rattle.record.specs.Records.{TraceRecord}
use Rattle.rules.specs.Cases.{Case, fault_with, evidence, is_fault}
use Rattle.rules.specs.declared.Evidence.{Evidence}
use Rattle.rules.specs.declared.Report.{Report}
use Rattle.rules.specs.declared.Verdict.{Verdict}
use Rattle.rules.specs.declared.Verdict.TheVariants.{Pass, Faulted}
use Rattle.rules.specs.History.{History}
use Rattle.rules.specs.Events.{continues, first, events, position, first_events}

-- what a check says of a record, judged by it and those before, and so of a beginning's last record
abbrev pub AtRecord : Type 0
AtRecord = TraceRecord → History → Case

abbrev pub at_last : AtRecord → History → Case
at_last f [] = None
at_last f (x ∷ h) = f x h

-- the beginning has agreement's fault as a whole ..
abbrev pub HasWhole : (History → Case) → History → Type 0
HasWhole f h = is_fault (f h) ≡ true

-- .. "and another check's when a case listed for that check arises at one of the beginning's records"
unfoldable pub Arises : AtRecord → History → Type 0
Arises f [] = ⊥
Arises f (x ∷ h) = (is_fault (f x h) ≡ true) ⊎ Arises f h

-- the report of a pass, and of a fault
abbrev pub passed : Report
passed = record { verdict = Pass; at = 0; evidence = evidence [] }

abbrev pub faulted : ℕ → ℕ → Evidence → Report
faulted n kind e = record { verdict = Faulted kind; at = n; evidence = e }

-- "that first fault's kind and evidence": at record `number` of the beginning g the check says this fault, and at no record of g
-- before that one does it say any
pub record FirstCase (case_at : History → Case) (g : History) (kind : ℕ) (e : Evidence) : Type 0 where
  pub number : ℕ
  pub within : number ≤ length g
  pub here : case_at (first number g) ≡ fault_with kind e
  pub earlier : (k : ℕ) → k < number → is_fault (case_at (first k g)) ≡ false

-- "a fault at event n exactly when the first n events taken have that fault and no shorter beginning has it, with that first
-- fault's kind and evidence"
pub record FirstFault (has : History → Type 0) (case_at : History → Case) (h : History) (n kind : ℕ) (e : Evidence) : Type 0 where
  pub within : n ≤ events h
  pub here : has (first_events n h)
  pub shorter : (m : ℕ) → m < n → has (first_events m h) → ⊥
  pub case : FirstCase case_at (first_events n h) kind e

-- no beginning has the fault: "whole events, the last as far as it has been taken"
abbrev pub Free : (History → Type 0) → History → Type 0
Free has h = (n : ℕ) → n ≤ events h → has (first_events n h) → ⊥

-- a report that is right for a history, each way
pub record Right (has : History → Type 0) (case_at : History → Case) (h : History) (r : Report) : Type 0 where
  pub fault_only : (n kind : ℕ) (e : Evidence) → r ≡ faulted n kind e → FirstFault has case_at h n kind e
  pub fault_if : (n kind : ℕ) (e : Evidence) → FirstFault has case_at h n kind e → r ≡ faulted n kind e
  pub pass_only : r ≡ passed → Free has h
  pub pass_if : Free has h → r ≡ passed

-- a check judged as a whole is constant along an event, as agreement is: kind 12 neither puts nor states
abbrev pub Steady : (History → Case) → Type 0
Steady f = (x : TraceRecord) (h : History) → continues x ≡ true → f (x ∷ h) ≡ f h

-- the report after one more record, of which the check says c: "after a fault the report stays"
abbrev pub at_first : Verdict → Report → Case → ℕ → Report
at_first (Faulted kind) r c n = r
at_first Pass r None n = r
at_first Pass r (Some f) n = faulted n f.kind f.evidence

-- the report of a history: its first fault
unfoldable pub report_of : (History → Case) → History → Report
report_of f [] = passed
report_of f (x ∷ h) = at_first (report_of f h).verdict (report_of f h) (f (x ∷ h)) (position (x ∷ h))
