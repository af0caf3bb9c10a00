-- The third demand's words: a list of calls, and the claim about what it leaves.
use Rattle.std.specs.Prelude.{◌≡◌, true, List, [], ◌∷◌, ℕ, ◌<◌, get_or}
use Rattle.rules.specs.Cases.{Case}
use Rattle.rules.specs.declared.Opening.{Opening}
use Rattle.rules.specs.declared.Report.{Report}
use Rattle.rules.specs.declared.Verdict.TheVariants.{Faulted}
use Rattle.rules.specs.History.{History}
use Rattle.rules.specs.Reports.{passed, Right}
use Rattle.rules.specs.Checks.{check_count, check_at, HasBy, case_at}
use Rattle.judge.specs.States.{State}
use Rattle.judge.specs.Pushes.{Indexing, Pushed, Committed}
use Rattle.demands.specs.Calls.{Call, push, commit, preview}

module _ (Indexed : Indexing) where
  -- what a call leaves; a preview everything as it stands
  abbrev pub Called : State → Call → State → Type 0
  Called s (push bytes) t = Pushed Indexed s bytes t
  Called s (commit k) t = Committed Indexed s k t
  Called s (preview bytes) t = t ≡ s

  -- a list of calls: "Each push gets the judge, log and work area as the last one left them, and any bytes as its record"
  pub data Run : State → List Call → State → Type 0 where
    none : {s : State} → Run s [] s
    more : {s t u : State} {c : Call} {cs : List Call} → Called s c t → Run t cs u → Run s (c ∷ cs) u

-- a report in printing order
abbrev pub report_at : ℕ → State → Report
report_at k s = get_or s.judge.reports k passed

-- one check's claim: its report is right for the records taken, by events, each way; and after a fault, whatever is called, it stays
pub record Claim (Indexed : Indexing) (has : History → Type 0) (case_at : History → Case) (k : ℕ) (h : History) (t : State) : Type 0 where
  pub right : Right has case_at h (report_at k t)
  pub stays : (kind : ℕ) → (report_at k t).verdict ≡ Faulted kind → (cs : List Call) (u : State) → Run Indexed t cs u → report_at k u ≡ report_at k t

-- the third demand, undivided: of every history check of the table
pub record Demand3 (Indexed : Indexing) (o : Opening) (h : History) (t : State) : Type 0 where
  pub claim : (k : ℕ) → k < check_count → (check_at k).history ≡ true → Claim Indexed (HasBy (check_at k).rule o) (case_at o (check_at k)) k h t
