-- The tables' rows, and document 01's examples E1 to E10 with its wrong answers: a trace in the order of time, the check, its report.
-- MoreExamples, RightHalfExamples and EventExamples have further rows, LookUpExamples the look-ups'.
use Rattle.std.specs.Prelude.{List, [], ◌∷◌, ◌++◌, reverse, ℕ}
use Rattle.record.specs.Records.{TraceRecord}
use Rattle.rules.specs.declared.Report.{Report}
use Rattle.rules.specs.declared.Verdict.TheVariants.{Pass, Faulted}
use Rattle.rules.specs.Cases.{evidence}
use Rattle.rules.specs.Reports.{passed, faulted, report_of}
use Rattle.rules.specs.Checks.{check_at, case_at}
use Rattle.rules.specs.Builders.{by, b, c, d, f, span, bootstrap, snapshot, created, descriptor, write, restated, crashed, range_split, leased, put, meta_applied}

-- ---- rows

-- the checks in printing order
pub data Check : Type 0 where
  agreement overlap install twice half generations ids meta : Check

abbrev pub place : Check → ℕ
place agreement = 0
place overlap = 1
place install = 2
place twice = 3
place half = 4
place generations = 5
place ids = 6
place meta = 7

pub record Row : Type 0 where
  pub tenant : ℕ
  pub trace : List TraceRecord
  pub check : Check
  pub report : Report

-- a row under tenant 0, as the printed sheets are, or under another
abbrev pub row : Check → List TraceRecord → Report → Row
row check trace report = record { tenant = 0; trace = trace; check = check; report = report }

abbrev pub row_under : ℕ → Check → List TraceRecord → Report → Row
row_under tenant check trace report = record { tenant = tenant; trace = trace; check = check; report = report }

-- a fault at event n: its kind and evidence
abbrev pub fault_at : ℕ → ℕ → List ℕ → Report
fault_at n kind ns = faulted n kind (evidence ns)

-- what the rules say of a row's trace
abbrev pub answer : Row → Report
answer r = report_of (case_at (record { tenant = r.tenant }) (check_at (place r.check))) (reverse r.trace)

-- ---- the examples

-- E1 no records: all pass
abbrev e1 : List Row
e1 =
    row agreement [] passed
    ∷ row overlap [] passed
    ∷ row install [] passed
    ∷ row twice [] passed
    ∷ row half [] passed
    ∷ row generations [] passed
    ∷ row ids [] passed
    ∷ row meta [] passed
    ∷ []

-- E2 the grants of the printed sheet
abbrev grants : List TraceRecord
grants = leased 1 5 1 10 19 ∷ leased 2 6 1 19 30 ∷ []

abbrev e2 : List Row
e2 =
    row agreement grants passed
    ∷ row overlap grants passed
    ∷ row install grants passed
    ∷ row twice grants passed
    ∷ row half grants passed
    ∷ row generations grants passed
    ∷ row ids grants (fault_at 2 3 (6 ∷ 10 ∷ []))
    ∷ row meta grants passed
    ∷ []

-- E3 one grant repeated: pass. E4 7 to 7 passes, 8 to 7 is kind 2
abbrev e3_e4 : List Row
e3_e4 =
    row ids (leased 1 5 1 10 19 ∷ leased 1 5 1 10 19 ∷ []) passed
    ∷ row ids (leased 1 5 1 7 7 ∷ []) passed
    ∷ row ids (leased 1 5 1 8 7 ∷ []) (fault_at 1 2 (5 ∷ []))
    ∷ []

-- E5 holding [b, f), then another range [c, c): overlap; [b, b): pass
abbrev pub holding : TraceRecord
holding = created (by 1) bootstrap 2 3 1 b f

abbrev e5 : List Row
e5 =
    row overlap (holding ∷ created (by 1) bootstrap 3 3 1 c c ∷ []) (fault_at 2 1 (1 ∷ 3 ∷ 2 ∷ []))
    ∷ row overlap (holding ∷ created (by 1) bootstrap 3 3 1 b b ∷ []) passed
    ∷ []

-- E6 put at 3, generation 1; statement at 5, generation 2; equal put at 9: kind 2, 2 5 9 for range 2; put at 4 instead: pass
abbrev stated_ahead : List TraceRecord
stated_ahead = created (by 1) bootstrap 2 3 1 b f ∷ created (by 2) snapshot 2 5 2 b d ∷ []

abbrev e6 : List Row
e6 =
    row agreement (stated_ahead ++ (descriptor (by 1) 2 9 9 2 [] b d ∷ [])) (fault_at 3 2 (2 ∷ 5 ∷ 9 ∷ []))
    ∷ row agreement (stated_ahead ++ (descriptor (by 1) 2 4 4 2 [] b d ∷ [])) passed
    ∷ []

-- E7 value at 3, write at 3: kind 1; at 4: pass
abbrev e7 : List Row
e7 =
    row generations (holding ∷ write 2 3 c ∷ []) (fault_at 2 1 (2 ∷ 3 ∷ []))
    ∷ row generations (holding ∷ write 2 4 c ∷ []) passed
    ∷ []

-- E8 one key, two ranges, equal generations: kind 2
abbrev two_writes : ℕ → List TraceRecord
two_writes generation = holding ∷ write 2 4 c ∷ created (by 2) bootstrap 5 3 generation b f ∷ write 5 4 c ∷ []

abbrev e8 : List Row
e8 =
    row generations (two_writes 1) (fault_at 4 2 (5 ∷ 4 ∷ 1 ∷ 1 ∷ 2 ∷ []))
    ∷ row generations (two_writes 2) passed
    ∷ []

-- E9 RangeCreated, crash, RangeCreated: pass; no crash: fault
abbrev e9 : List Row
e9 =
    row twice (holding ∷ crashed (by 1) ∷ holding ∷ []) passed
    ∷ row twice (holding ∷ holding ∷ []) (fault_at 2 1 (1 ∷ 2 ∷ 3 ∷ []))
    ∷ []

-- E10 with both descriptors put before: meta generation 2 at 10, then overlapping 1 at 11: kind 3; 1 at 10: pass
abbrev pub named : List TraceRecord
named =
    created (by 1) bootstrap 2 3 1 b f
    ∷ descriptor (by 1) 2 5 5 2 [] b d
    ∷ meta_applied 2 10 2 b d (span b d ∷ [])
    ∷ []

abbrev e10 : List Row
e10 =
    row meta (named ++ (meta_applied 2 11 1 b f (span c f ∷ []) ∷ [])) (fault_at 4 3 (11 ∷ 2 ∷ 1 ∷ 2 ∷ []))
    ∷ row meta (named ++ (meta_applied 2 10 1 b f (span c f ∷ []) ∷ [])) passed
    ∷ []

-- document 01's wrong answers. Replacing a meta name at equal index: then generation 1 would stand, and the last record pass
abbrev wrong1 : List Row
wrong1 =
    row meta (named ++ (meta_applied 2 10 1 b f (span c f ∷ []) ∷ meta_applied 2 11 1 b f (span c d ∷ []) ∷ []))
    (fault_at 5 3 (11 ∷ 2 ∷ 1 ∷ 2 ∷ []))
    ∷ []

-- ceasing to put after a fault: then the write would find no value
abbrev pub disputed : List TraceRecord
disputed = created (by 1) bootstrap 2 3 1 b f ∷ created (by 2) bootstrap 2 3 1 b d ∷ []

abbrev wrong2 : List Row
wrong2 = row generations (disputed ++ (created (by 1) bootstrap 9 3 1 b f ∷ write 9 4 c ∷ [])) passed ∷ []

-- dropping debts at a crash: then nothing would be owed at the restatement
abbrev pub indebted : List TraceRecord
indebted = range_split (by 1) 2 5 7 ∷ descriptor (by 1) 2 5 5 2 (1 ∷ []) b d ∷ []

abbrev wrong3 : List Row
wrong3 = row half (indebted ++ (crashed (by 1) ∷ restated (by 1) ∷ [])) (fault_at 4 2 (1 ∷ 2 ∷ 5 ∷ 7 ∷ [])) ∷ []

-- three reports written out, for what the other rows call `passed` and `fault_at`: a pass, a fault with missing numbers, one with all five
abbrev lowered : List TraceRecord
lowered = put 7 1 1 b d ∷ put 7 2 2 b d ∷ put 7 3 3 b d ∷ meta_applied 7 10 1 b d (span b d ∷ []) ∷ meta_applied 7 9 3 b d (span b d ∷ []) ∷ []

abbrev written : List Row
written =
    row ids [] (record { verdict = Pass; at = 0; evidence = record { e0 = 0; e1 = 0; e2 = 0; e3 = 0; e4 = 0 } })
    ∷ row ids grants (record { verdict = Faulted 3; at = 2; evidence = record { e0 = 6; e1 = 10; e2 = 0; e3 = 0; e4 = 0 } })
    ∷ row meta lowered (record { verdict = Faulted 4; at = 5; evidence = record { e0 = 9; e1 = 7; e2 = 3; e3 = 1; e4 = 10 } })
    ∷ []

abbrev pub table : List Row
table =
    e1 ++ e2 ++ e3_e4 ++ e5 ++ e6 ++ e7 ++ e8 ++ e9 ++ e10
    ++ wrong1 ++ wrong2 ++ wrong3 ++ written
