-- Events: which records continue one, how many a history has, its beginnings by events, and what may not continue.
use Rattle.std.specs.Prelude.{Bool, true, false, cond, not, ◌&&◌, [], ◌∷◌, ℕ, suc, ◌-◌, length, drop, eqb, leb, Some, None}
use Rattle.record.specs.Named.{Node}
use Rattle.record.specs.Records.{TraceRecord}
use Rattle.rules.specs.History.{History, is_kind}

-- "In kind 12, flag 1 means that the record continues the event before it; flag 0 begins one"; any record of another kind begins one
abbrev pub continues : TraceRecord → Bool
continues x = is_kind 12 x && eqb x.flag 1

-- how many events there are with one more record, after n of them
abbrev pub event_after : ℕ → TraceRecord → ℕ
event_after n x = cond (continues x) n (suc n)

-- "Positions in reports now count events": how many records begin one
unfoldable pub events : History → ℕ
events [] = 0
events (x ∷ h) = event_after (events h) x

-- the position of a beginning's last record: "A fault inside an event has that event's number"
abbrev pub position : History → ℕ
position h = events h

-- ---- beginnings

-- the first n records
abbrev pub first : ℕ → History → History
first n h = drop (length h - n) h

-- how many records the first n events have: those of the longest beginning with at most n events
unfoldable pub records_in : ℕ → History → ℕ
records_in n [] = 0
records_in n (x ∷ h) = cond (leb (events (x ∷ h)) n) (suc (length h)) (records_in n h)

-- "the first n events, and a "beginning" whole events, the last as far as it has been taken"
abbrev pub first_events : ℕ → History → History
first_events n h = first (records_in n h) h

-- ---- what may not continue

-- "the same node mark, node": both are marked with one node, or neither is marked
abbrev pub same_node : Node → Node → Bool
same_node (Some m) (Some n) = eqb m.0 n.0
same_node (Some m) None = false
same_node None (Some n) = false
same_node None None = true

-- y is "kind 12 with the same node mark, node and index" as x
abbrev pub goes_on : TraceRecord → TraceRecord → Bool
goes_on x y = is_kind 12 y && same_node x.node y.node && eqb x.b y.b

-- refusal 11: "flag 1 where no record has been taken, or the last one is not kind 12 with the same node mark, node and index"
abbrev pub stray : TraceRecord → History → Bool
stray x [] = continues x
stray x (y ∷ h) = continues x && not (goes_on x y)
