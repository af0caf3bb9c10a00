-- Rows with events of several records: positions count events, and a fault inside one has its first faulty record's kind and evidence.
-- Then beginnings by events, and records that may or may not continue.
use Rattle.std.specs.Prelude.{Bool, true, false, List, [], ◌∷◌, ◌++◌, reverse, ℕ}
use Rattle.record.specs.Records.{TraceRecord}
use Rattle.rules.specs.History.{History}
use Rattle.rules.specs.Events.{events, records_in, stray}
use Rattle.rules.specs.Reports.{passed}
use Rattle.rules.specs.Builders.{by, a, b, c, d, e, f, span, bootstrap, snapshot, created, split_off, descriptor, write, restated, crashed, installed, leased, put, meta_applied, flagged, marked}
use Rattle.rules.specs.Examples.{Row, agreement, overlap, install, twice, half, generations, ids, meta, row, fault_at, holding, named, indebted}

-- an event of three records, and after it the faulty traces of E6, E5, E9, E7, E2 and others: each check's position counts it once
abbrev event : List TraceRecord
event = meta_applied 9 1 1 b d [] ∷ flagged (meta_applied 9 1 1 b d []) ∷ flagged (meta_applied 8 1 2 b d []) ∷ []

abbrev after_event : List Row
after_event =
    row agreement (event ++ (holding ∷ created (by 2) snapshot 2 5 2 b d ∷ descriptor (by 1) 2 9 9 2 [] b d ∷ [])) (fault_at 4 2 (2 ∷ 5 ∷ 9 ∷ []))
    ∷ row overlap (event ++ (holding ∷ created (by 1) bootstrap 3 3 1 c c ∷ [])) (fault_at 3 1 (1 ∷ 3 ∷ 2 ∷ []))
    ∷ row install (event ++ (holding ∷ installed (by 1) (span a c ∷ []) ∷ [])) (fault_at 3 1 (1 ∷ 2 ∷ []))
    ∷ row twice (event ++ (holding ∷ holding ∷ [])) (fault_at 3 1 (1 ∷ 2 ∷ 3 ∷ []))
    ∷ row half (event ++ indebted ++ (crashed (by 1) ∷ restated (by 1) ∷ [])) (fault_at 5 2 (1 ∷ 2 ∷ 5 ∷ 7 ∷ []))
    ∷ row generations (event ++ (holding ∷ write 2 3 c ∷ [])) (fault_at 3 1 (2 ∷ 3 ∷ []))
    ∷ row ids (event ++ (leased 1 5 1 10 19 ∷ leased 2 6 1 19 30 ∷ [])) (fault_at 3 3 (6 ∷ 10 ∷ []))
    -- an event between the records of a fault, and an event of its own for each record
    ∷ row ids (leased 1 5 1 10 19 ∷ event ++ (leased 2 6 1 19 30 ∷ [])) (fault_at 3 3 (6 ∷ 10 ∷ []))
    ∷ row ids (meta_applied 9 1 1 b d [] ∷ meta_applied 9 1 1 b d [] ∷ leased 1 5 1 8 7 ∷ []) (fault_at 3 2 (5 ∷ []))
    -- a RangeCreated's flag is a parent and nothing else
    ∷ row ids (split_off (by 1) 4 3 2 [] ∷ split_off (by 2) 4 3 2 [] ∷ leased 1 5 1 8 7 ∷ []) (fault_at 3 2 (5 ∷ []))
    ∷ []

-- E10's fault in the second record of an event, in its first, and after it
abbrev back : TraceRecord
back = meta_applied 2 11 1 b f (span c f ∷ [])

abbrev nothing : TraceRecord
nothing = meta_applied 9 11 1 b d []

abbrev clear : TraceRecord
clear = meta_applied 2 11 2 b d (span b c ∷ [])

abbrev two_values : List TraceRecord
two_values = put 1 3 2 b f ∷ put 2 3 3 b f ∷ []

abbrev low : TraceRecord
low = meta_applied 1 10 2 b f (span b d ∷ [])

abbrev high : TraceRecord
high = meta_applied 2 10 3 b f (span c e ∷ [])

abbrev inside : List Row
inside =
    row meta (named ++ (clear ∷ flagged back ∷ [])) (fault_at 4 3 (11 ∷ 2 ∷ 1 ∷ 2 ∷ []))
    ∷ row meta (named ++ (back ∷ flagged clear ∷ [])) (fault_at 4 3 (11 ∷ 2 ∷ 1 ∷ 2 ∷ []))
    ∷ row meta (named ++ (clear ∷ back ∷ [])) (fault_at 5 3 (11 ∷ 2 ∷ 1 ∷ 2 ∷ []))
    ∷ row meta (named ++ (clear ∷ flagged clear ∷ flagged clear ∷ [])) passed
    -- two faulty records in one event: the first one's kind and evidence
    ∷ row meta (named ++ (back ∷ flagged nothing ∷ [])) (fault_at 4 3 (11 ∷ 2 ∷ 1 ∷ 2 ∷ []))
    ∷ row meta (named ++ (nothing ∷ flagged back ∷ [])) (fault_at 4 1 (9 ∷ 1 ∷ 11 ∷ []))
    ∷ row meta (named ++ (clear ∷ flagged nothing ∷ flagged back ∷ [])) (fault_at 4 1 (9 ∷ 1 ∷ 11 ∷ []))
    -- what an event's first record names counts for its second, inside the event as after it; in the other order all pass
    ∷ row meta (two_values ++ (low ∷ flagged high ∷ [])) (fault_at 3 4 (10 ∷ 2 ∷ 3 ∷ 2 ∷ 10 ∷ []))
    ∷ row meta (two_values ++ (low ∷ high ∷ [])) (fault_at 4 4 (10 ∷ 2 ∷ 3 ∷ 2 ∷ 10 ∷ []))
    ∷ row meta (two_values ++ (high ∷ flagged low ∷ [])) passed
    -- a record that continues puts no value
    ∷ row agreement (put 2 3 1 b f ∷ meta_applied 2 3 1 b f [] ∷ flagged (meta_applied 2 3 1 b d []) ∷ []) passed
    ∷ []

abbrev pub event_rows : List Row
event_rows = after_event ++ inside

-- ---- beginnings

-- a trace of four events, of 1, 3, 1 and 2 records: how many records its first n events have
abbrev four_events : History
four_events = reverse (holding ∷ event ++ (holding ∷ back ∷ flagged back ∷ []))

abbrev pub beginnings : List ℕ
beginnings = events four_events ∷ records_in 0 four_events ∷ records_in 1 four_events ∷ records_in 2 four_events ∷ records_in 3 four_events ∷ records_in 4 four_events ∷ []

-- ---- refusal 11

-- a record after others, the last of them first, and whether it is refused
pub record Continuing : Type 0 where
  pub record_after : TraceRecord
  pub last : History
  pub refused : Bool

abbrev after : TraceRecord → List TraceRecord → Bool → Continuing
after x h refused = record { record_after = x; last = h; refused = refused }

abbrev pub continuing : List Continuing
continuing =
    -- as the first record; after another kind; after MetaApplied, also one that continues
    after (flagged back) [] true
    ∷ after (flagged back) (holding ∷ back ∷ []) true
    ∷ after (flagged back) (back ∷ []) false
    ∷ after (flagged back) (flagged back ∷ back ∷ []) false
    -- range, generation, voters and spans may differ, the index may not
    ∷ after (flagged nothing) (back ∷ []) false
    ∷ after (flagged (meta_applied 2 12 1 b f [])) (back ∷ []) true
    -- the node mark and the node may not
    ∷ after (flagged (marked 1 back)) (marked 1 back ∷ []) false
    ∷ after (flagged (marked 1 back)) (marked 2 back ∷ []) true
    ∷ after (flagged (marked 0 back)) (back ∷ []) true
    ∷ after (flagged back) (marked 0 back ∷ []) true
    -- with flag 0, and of another kind with flag 1, nothing is asked
    ∷ after back [] false
    ∷ after back (holding ∷ []) false
    ∷ after (split_off (by 1) 4 3 2 []) [] false
    ∷ []

abbrev pub is_stray : Continuing → Bool
is_stray q = stray q.record_after q.last
