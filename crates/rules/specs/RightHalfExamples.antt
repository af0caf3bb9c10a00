-- Further rows of the check half: each clause of its definition each way. In most of them range 2 splits at index 5 and its right half is
-- range 7, node 1 is the one that owes it, and node 2 tells of the split.
use Rattle.std.specs.Prelude.{List, [], ◌∷◌, ◌++◌}
use Rattle.record.specs.Records.{TraceRecord}
use Rattle.rules.specs.Reports.{passed}
use Rattle.rules.specs.Builders.{by, unmarked, d, f, span, record_of, bootstrap, snapshot, applied, took, created, child, split_off, orphan, tells, apply, recovered, restated, crashed, range_split, removed, refused}
use Rattle.rules.specs.Examples.{Row, half, row, fault_at, indebted}

-- node 2 registers the split of range 2 at index 5, with range 7 and voter 1
abbrev registered : TraceRecord
registered = split_off (by 2) 7 5 2 (1 ∷ [])

-- ---- where an owed range that is not held is a fault

abbrev judged : List Row
judged =
    -- kind 1 at a Took of a registered split, kind 2 at a restatement, by the node that owes
    row half (indebted ++ (apply (by 1) took 2 5 ∷ [])) (fault_at 3 1 (1 ∷ 2 ∷ 5 ∷ 7 ∷ []))
    ∷ row half (indebted ++ (restated (by 1) ∷ [])) (fault_at 3 2 (1 ∷ 2 ∷ 5 ∷ 7 ∷ []))
    ∷ row half indebted passed
    ∷ row half (indebted ++ (apply (by 1) applied 2 5 ∷ [])) passed
    ∷ row half (indebted ++ (apply (by 1) took 2 6 ∷ [])) passed
    ∷ row half (indebted ++ (apply (by 1) took 3 5 ∷ [])) passed
    ∷ row half (indebted ++ (apply (by 2) took 2 5 ∷ [])) passed
    ∷ row half (indebted ++ (apply unmarked took 2 5 ∷ [])) passed
    ∷ row half (indebted ++ (restated (by 2) ∷ [])) passed
    ∷ row half (indebted ++ (restated unmarked ∷ [])) passed
    ∷ row half (indebted ++ (crashed (by 1) ∷ [])) passed
    -- the right range is held, by that node, still
    ∷ row half (indebted ++ (created (by 1) snapshot 7 5 1 d f ∷ apply (by 1) took 2 5 ∷ [])) passed
    ∷ row half (indebted ++ (created (by 1) snapshot 7 5 1 d f ∷ restated (by 1) ∷ [])) passed
    ∷ row half (indebted ++ (created (by 1) snapshot 8 5 1 d f ∷ restated (by 1) ∷ [])) (fault_at 4 2 (1 ∷ 2 ∷ 5 ∷ 7 ∷ []))
    ∷ row half (indebted ++ (created (by 2) snapshot 7 5 1 d f ∷ restated (by 1) ∷ [])) (fault_at 4 2 (1 ∷ 2 ∷ 5 ∷ 7 ∷ []))
    ∷ row half (indebted ++ (created (by 1) snapshot 7 5 1 d f ∷ crashed (by 1) ∷ restated (by 1) ∷ [])) (fault_at 5 2 (1 ∷ 2 ∷ 5 ∷ 7 ∷ []))
    -- a Took judges every range that is owed: the lowest that is not held, with its own debt's parent and index
    ∷ row half (indebted ++ (split_off (by 2) 9 8 3 [] ∷ apply (by 1) took 3 8 ∷ [])) (fault_at 4 1 (1 ∷ 2 ∷ 5 ∷ 7 ∷ []))
    ∷ row half (indebted ++ (split_off (by 2) 6 8 3 (1 ∷ []) ∷ apply (by 1) took 3 8 ∷ [])) (fault_at 4 1 (1 ∷ 3 ∷ 8 ∷ 6 ∷ []))
    ∷ row half (indebted ++ (split_off (by 2) 9 8 3 (1 ∷ []) ∷ apply (by 1) took 3 8 ∷ [])) (fault_at 4 1 (1 ∷ 2 ∷ 5 ∷ 7 ∷ []))
    ∷ row half (indebted ++ (split_off (by 2) 6 8 3 (1 ∷ []) ∷ created (by 1) snapshot 6 8 1 d f ∷ apply (by 1) took 3 8 ∷ []))
    (fault_at 5 1 (1 ∷ 2 ∷ 5 ∷ 7 ∷ []))
    ∷ []

-- ---- what ends a debt

abbrev ended : List Row
ended =
    row half (indebted ++ (removed (by 1) 7 ∷ restated (by 1) ∷ [])) passed
    ∷ row half (indebted ++ (removed (by 1) 2 ∷ restated (by 1) ∷ [])) (fault_at 4 2 (1 ∷ 2 ∷ 5 ∷ 7 ∷ []))
    ∷ row half (indebted ++ (removed (by 2) 7 ∷ restated (by 1) ∷ [])) (fault_at 4 2 (1 ∷ 2 ∷ 5 ∷ 7 ∷ []))
    ∷ row half (indebted ++ (refused (by 1) ∷ restated (by 1) ∷ [])) passed
    ∷ row half (indebted ++ (refused (by 2) ∷ restated (by 1) ∷ [])) (fault_at 4 2 (1 ∷ 2 ∷ 5 ∷ 7 ∷ []))
    -- one of two debts: the other is still owed
    ∷ row half (indebted ++ (range_split (by 1) 2 6 8 ∷ tells (by 1) 2 6 6 (1 ∷ []) ∷ removed (by 1) 7 ∷ restated (by 1) ∷ []))
    (fault_at 6 2 (1 ∷ 2 ∷ 6 ∷ 8 ∷ []))
    ∷ row half (indebted ++ (range_split (by 1) 2 6 8 ∷ tells (by 1) 2 6 6 (1 ∷ []) ∷ removed (by 1) 8 ∷ restated (by 1) ∷ []))
    (fault_at 6 2 (1 ∷ 2 ∷ 5 ∷ 7 ∷ []))
    -- a debt that ended can come again
    ∷ row half (indebted ++ (removed (by 1) 7 ∷ apply (by 1) took 2 5 ∷ [])) (fault_at 4 1 (1 ∷ 2 ∷ 5 ∷ 7 ∷ []))
    ∷ row half (indebted ++ (refused (by 1) ∷ apply (by 1) took 2 5 ∷ [])) (fault_at 4 1 (1 ∷ 2 ∷ 5 ∷ 7 ∷ []))
    ∷ []

-- ---- the server that is to be a voter

abbrev servers : List Row
servers =
    -- the node's number, and after a RaftRecovered that record's server
    row half (registered ∷ apply (by 1) took 2 5 ∷ []) (fault_at 2 1 (1 ∷ 2 ∷ 5 ∷ 7 ∷ []))
    ∷ row half (registered ∷ apply (by 3) took 2 5 ∷ []) passed
    ∷ row half (split_off (by 2) 7 5 2 (4 ∷ 1 ∷ []) ∷ apply (by 1) took 2 5 ∷ []) (fault_at 2 1 (1 ∷ 2 ∷ 5 ∷ 7 ∷ []))
    ∷ row half (split_off (by 2) 7 5 2 (4 ∷ []) ∷ apply (by 1) took 2 5 ∷ []) passed
    ∷ row half (registered ∷ recovered (by 1) 2 4 9 ∷ apply (by 1) took 2 5 ∷ []) passed
    ∷ row half (registered ∷ recovered (by 3) 2 4 1 ∷ apply (by 3) took 2 5 ∷ []) (fault_at 3 1 (3 ∷ 2 ∷ 5 ∷ 7 ∷ []))
    ∷ row half (registered ∷ recovered (by 2) 2 4 9 ∷ apply (by 1) took 2 5 ∷ []) (fault_at 3 1 (1 ∷ 2 ∷ 5 ∷ 7 ∷ []))
    -- the latest, and neither a crash nor a refusal drops it
    ∷ row half (registered ∷ recovered (by 1) 2 4 1 ∷ recovered (by 1) 2 4 9 ∷ apply (by 1) took 2 5 ∷ []) passed
    ∷ row half (registered ∷ recovered (by 1) 2 4 9 ∷ recovered (by 1) 2 4 1 ∷ apply (by 1) took 2 5 ∷ []) (fault_at 4 1 (1 ∷ 2 ∷ 5 ∷ 7 ∷ []))
    ∷ row half (registered ∷ recovered (by 1) 2 4 9 ∷ crashed (by 1) ∷ apply (by 1) took 2 5 ∷ []) passed
    -- at that moment: what comes later changes no debt
    ∷ row half (indebted ++ (recovered (by 1) 2 4 9 ∷ restated (by 1) ∷ [])) (fault_at 4 2 (1 ∷ 2 ∷ 5 ∷ 7 ∷ []))
    ∷ row half (recovered (by 1) 2 4 9 ∷ indebted ++ (recovered (by 1) 2 4 1 ∷ restated (by 1) ∷ [])) passed
    ∷ []

-- ---- how a split registers

-- node 1 split range 2 at index 5; then what, and node 1 restated
abbrev after_split : List TraceRecord → List TraceRecord
after_split told = range_split (by 1) 2 5 8 ∷ told ++ (restated (by 1) ∷ [])

abbrev registrations : List Row
registrations =
    -- by kind 1, Split, with a parent, at its floor, marked; the right range is the one it names
    row half (after_split (registered ∷ [])) (fault_at 3 2 (1 ∷ 2 ∷ 5 ∷ 7 ∷ []))
    ∷ row half (after_split []) passed
    ∷ row half (after_split (child (by 2) bootstrap 7 5 2 (1 ∷ []) ∷ [])) passed
    ∷ row half (after_split (child (by 2) snapshot 7 5 2 (1 ∷ []) ∷ [])) passed
    ∷ row half (after_split (split_off unmarked 7 5 2 (1 ∷ []) ∷ [])) passed
    ∷ row half (after_split (split_off (by 2) 7 6 2 (1 ∷ []) ∷ [])) passed
    ∷ row half (after_split (split_off (by 2) 7 5 3 (1 ∷ []) ∷ [])) passed
    -- a Split without a parent registers nothing
    ∷ row half (tells (by 1) 0 3 6 [] ∷ orphan (by 2) 7 5 (1 ∷ []) ∷ restated (by 1) ∷ []) passed
    ∷ row half (tells (by 1) 0 3 6 [] ∷ split_off (by 2) 7 5 0 (1 ∷ []) ∷ restated (by 1) ∷ []) (fault_at 3 2 (1 ∷ 0 ∷ 5 ∷ 7 ∷ []))
    -- by kind 2 at the range and index of the node's pending split
    ∷ row half (after_split (tells (by 1) 2 5 0 (1 ∷ []) ∷ [])) (fault_at 3 2 (1 ∷ 2 ∷ 5 ∷ 8 ∷ []))
    ∷ row half (after_split (tells (by 1) 1 5 0 (1 ∷ []) ∷ [])) passed
    ∷ row half (after_split (tells (by 1) 3 5 0 (1 ∷ []) ∷ [])) passed
    ∷ row half (after_split (tells (by 1) 2 6 0 (1 ∷ []) ∷ [])) passed
    ∷ row half (after_split (tells (by 1) 2 4 5 (1 ∷ []) ∷ [])) passed
    ∷ row half (after_split (tells (by 2) 2 5 0 (1 ∷ []) ∷ [])) passed
    ∷ row half (after_split (tells unmarked 2 5 0 (1 ∷ []) ∷ [])) passed
    -- a RaftApply there neither registers nor uses it up
    ∷ row half (after_split (apply (by 1) applied 2 5 ∷ [])) passed
    ∷ row half (after_split (apply (by 1) applied 2 5 ∷ tells (by 1) 2 5 0 (1 ∷ []) ∷ [])) (fault_at 4 2 (1 ∷ 2 ∷ 5 ∷ 8 ∷ []))
    -- pending is the latest one, and a crash or a refusal drops it
    ∷ row half (after_split (range_split (by 1) 3 6 9 ∷ tells (by 1) 2 5 0 (1 ∷ []) ∷ [])) passed
    ∷ row half (after_split (range_split (by 1) 3 6 9 ∷ tells (by 1) 3 6 0 (1 ∷ []) ∷ [])) (fault_at 4 2 (1 ∷ 3 ∷ 6 ∷ 9 ∷ []))
    ∷ row half (after_split (range_split (by 2) 3 6 9 ∷ tells (by 1) 2 5 0 (1 ∷ []) ∷ [])) (fault_at 4 2 (1 ∷ 2 ∷ 5 ∷ 8 ∷ []))
    ∷ row half (after_split (crashed (by 1) ∷ tells (by 1) 2 5 0 (1 ∷ []) ∷ [])) passed
    ∷ row half (after_split (crashed (by 2) ∷ tells (by 1) 2 5 0 (1 ∷ []) ∷ [])) (fault_at 4 2 (1 ∷ 2 ∷ 5 ∷ 8 ∷ []))
    ∷ row half (after_split (removed (by 1) 2 ∷ tells (by 1) 2 5 0 (1 ∷ []) ∷ [])) (fault_at 4 2 (1 ∷ 2 ∷ 5 ∷ 8 ∷ []))
    ∷ row half (after_split (refused (by 1) ∷ tells (by 1) 2 5 5 (1 ∷ []) ∷ [])) passed
    -- once: a later one with another right range or other voters changes nothing
    ∷ row half (after_split (registered ∷ split_off (by 3) 6 5 2 (1 ∷ []) ∷ [])) (fault_at 4 2 (1 ∷ 2 ∷ 5 ∷ 7 ∷ []))
    ∷ row half (after_split (split_off (by 2) 7 5 2 [] ∷ registered ∷ [])) passed
    ∷ row half (split_off (by 2) 7 5 2 [] ∷ registered ∷ apply (by 1) took 2 5 ∷ []) passed
    ∷ row half (split_off (by 2) 7 5 2 [] ∷ split_off (by 2) 7 6 2 (1 ∷ []) ∷ apply (by 1) took 2 6 ∷ []) (fault_at 3 1 (1 ∷ 2 ∷ 6 ∷ 7 ∷ []))
    ∷ row half (split_off (by 2) 7 5 2 [] ∷ split_off (by 2) 7 5 3 (1 ∷ []) ∷ apply (by 1) took 3 5 ∷ []) (fault_at 3 1 (1 ∷ 3 ∷ 5 ∷ 7 ∷ []))
    ∷ []

-- ---- how a node applies a split

abbrev applications : List Row
applications =
    -- at RangeSplit, before it registers or after
    row half (range_split (by 1) 2 5 8 ∷ registered ∷ restated (by 1) ∷ []) (fault_at 3 2 (1 ∷ 2 ∷ 5 ∷ 7 ∷ []))
    ∷ row half (registered ∷ range_split (by 1) 2 5 8 ∷ restated (by 1) ∷ []) (fault_at 3 2 (1 ∷ 2 ∷ 5 ∷ 7 ∷ []))
    ∷ row half (registered ∷ range_split (by 1) 2 4 8 ∷ restated (by 1) ∷ []) passed
    ∷ row half (registered ∷ range_split (by 1) 2 6 8 ∷ restated (by 1) ∷ []) passed
    ∷ row half (registered ∷ range_split (by 1) 3 5 8 ∷ restated (by 1) ∷ []) passed
    ∷ row half (registered ∷ range_split (by 2) 2 5 8 ∷ restated (by 1) ∷ []) passed
    -- at Took, only if it is registered by then
    ∷ row half (apply (by 1) took 2 5 ∷ registered ∷ restated (by 1) ∷ []) passed
    ∷ row half (registered ∷ apply (by 1) took 2 5 ∷ []) (fault_at 2 1 (1 ∷ 2 ∷ 5 ∷ 7 ∷ []))
    ∷ row half (registered ∷ apply (by 1) applied 2 5 ∷ restated (by 1) ∷ []) passed
    ∷ row half (registered ∷ apply (by 1) took 2 4 ∷ restated (by 1) ∷ []) passed
    ∷ row half (registered ∷ apply (by 1) took 2 6 ∷ restated (by 1) ∷ []) passed
    -- while not restated, at kind 2, every registered index up to applied
    ∷ row half (registered ∷ tells (by 1) 2 3 5 [] ∷ restated (by 1) ∷ []) (fault_at 3 2 (1 ∷ 2 ∷ 5 ∷ 7 ∷ []))
    ∷ row half (registered ∷ tells (by 1) 2 3 6 [] ∷ restated (by 1) ∷ []) (fault_at 3 2 (1 ∷ 2 ∷ 5 ∷ 7 ∷ []))
    ∷ row half (registered ∷ tells (by 1) 2 6 4 [] ∷ restated (by 1) ∷ []) passed
    ∷ row half (registered ∷ tells (by 1) 3 3 6 [] ∷ restated (by 1) ∷ []) passed
    ∷ row half (registered ∷ tells (by 2) 2 3 6 [] ∷ restated (by 1) ∷ []) passed
    ∷ row half (registered ∷ restated (by 1) ∷ tells (by 1) 2 3 6 [] ∷ restated (by 1) ∷ []) passed
    ∷ row half (registered ∷ restated (by 2) ∷ tells (by 1) 2 3 6 [] ∷ restated (by 1) ∷ []) (fault_at 4 2 (1 ∷ 2 ∷ 5 ∷ 7 ∷ []))
    -- only a crash drops the restated mark
    ∷ row half (registered ∷ restated (by 1) ∷ crashed (by 1) ∷ tells (by 1) 2 3 6 [] ∷ restated (by 1) ∷ []) (fault_at 5 2 (1 ∷ 2 ∷ 5 ∷ 7 ∷ []))
    ∷ row half (registered ∷ restated (by 1) ∷ crashed (by 2) ∷ tells (by 1) 2 3 6 [] ∷ restated (by 1) ∷ []) passed
    ∷ row half (registered ∷ restated (by 1) ∷ refused (by 1) ∷ tells (by 1) 2 3 6 [] ∷ restated (by 1) ∷ []) passed
    -- a recorded index that reaches it when it registers; the latest index, dropped by a refusal and not by a crash
    ∷ row half (tells (by 1) 2 3 5 [] ∷ registered ∷ restated (by 1) ∷ []) (fault_at 3 2 (1 ∷ 2 ∷ 5 ∷ 7 ∷ []))
    ∷ row half (tells (by 1) 2 6 4 [] ∷ registered ∷ restated (by 1) ∷ []) passed
    ∷ row half (tells (by 1) 3 3 5 [] ∷ registered ∷ restated (by 1) ∷ []) passed
    ∷ row half (tells (by 1) 2 3 5 [] ∷ tells (by 1) 2 3 4 [] ∷ registered ∷ restated (by 1) ∷ []) passed
    ∷ row half (tells (by 1) 2 3 5 [] ∷ crashed (by 1) ∷ registered ∷ restated (by 1) ∷ []) (fault_at 4 2 (1 ∷ 2 ∷ 5 ∷ 7 ∷ []))
    ∷ row half (tells (by 1) 2 3 5 [] ∷ refused (by 1) ∷ registered ∷ restated (by 1) ∷ []) passed
    ∷ row half (tells (by 1) 2 3 5 [] ∷ refused (by 2) ∷ registered ∷ restated (by 1) ∷ []) (fault_at 4 2 (1 ∷ 2 ∷ 5 ∷ 7 ∷ []))
    -- it owes the right range of the split that registers, and no other: 6 and 9 are other splits' right ranges, without voters
    ∷ row half (split_off (by 2) 6 8 3 [] ∷ tells (by 1) 2 3 5 [] ∷ registered ∷ restated (by 1) ∷ []) (fault_at 4 2 (1 ∷ 2 ∷ 5 ∷ 7 ∷ []))
    ∷ row half (split_off (by 2) 9 8 3 [] ∷ tells (by 1) 2 3 5 [] ∷ registered ∷ created (by 1) snapshot 7 5 1 d f ∷ restated (by 1) ∷ []) passed
    -- registering applies the split that registers, and no other of its index or of its parent
    ∷ row half (tells (by 5) 5 3 5 [] ∷ split_off (by 2) 6 5 5 [] ∷ split_off (by 2) 7 5 3 (5 ∷ []) ∷ restated (by 5) ∷ []) passed
    ∷ row half (tells (by 5) 5 3 5 [] ∷ split_off (by 2) 6 5 5 [] ∷ split_off (by 2) 7 9 5 (5 ∷ []) ∷ restated (by 5) ∷ []) passed
    ∷ row half (tells (by 5) 5 3 9 [] ∷ split_off (by 2) 6 5 5 [] ∷ split_off (by 2) 7 9 5 (5 ∷ []) ∷ restated (by 5) ∷ [])
    (fault_at 4 2 (5 ∷ 5 ∷ 9 ∷ 7 ∷ []))
    -- what it applied before the split registers: dropped by a refusal, and not by a crash nor by a removal
    ∷ row half (range_split (by 1) 2 5 8 ∷ refused (by 1) ∷ registered ∷ restated (by 1) ∷ []) passed
    ∷ row half (range_split (by 1) 2 5 8 ∷ refused (by 2) ∷ registered ∷ restated (by 1) ∷ []) (fault_at 4 2 (1 ∷ 2 ∷ 5 ∷ 7 ∷ []))
    ∷ row half (range_split (by 1) 2 5 8 ∷ crashed (by 1) ∷ registered ∷ restated (by 1) ∷ []) (fault_at 4 2 (1 ∷ 2 ∷ 5 ∷ 7 ∷ []))
    ∷ row half (range_split (by 1) 2 5 8 ∷ removed (by 1) 7 ∷ registered ∷ restated (by 1) ∷ []) (fault_at 4 2 (1 ∷ 2 ∷ 5 ∷ 7 ∷ []))
    ∷ []

-- ---- which debt stands, where two splits have one right range

-- range 7 is the right half of the splits at 3 and at 5
abbrev two_splits : List TraceRecord
two_splits = split_off (by 2) 7 5 2 (1 ∷ []) ∷ split_off (by 2) 7 3 2 (1 ∷ []) ∷ []

abbrev replaced : List Row
replaced =
    -- the latest
    row half (two_splits ++ (range_split (by 1) 2 3 7 ∷ range_split (by 1) 2 5 7 ∷ restated (by 1) ∷ [])) (fault_at 5 2 (1 ∷ 2 ∷ 5 ∷ 7 ∷ []))
    ∷ row half (two_splits ++ (range_split (by 1) 2 5 7 ∷ range_split (by 1) 2 3 7 ∷ restated (by 1) ∷ [])) (fault_at 5 2 (1 ∷ 2 ∷ 3 ∷ 7 ∷ []))
    -- at one kind 2 they rise
    ∷ row half (two_splits ++ (tells (by 1) 2 1 6 [] ∷ restated (by 1) ∷ [])) (fault_at 4 2 (1 ∷ 2 ∷ 5 ∷ 7 ∷ []))
    ∷ row half (two_splits ++ (tells (by 1) 2 1 4 [] ∷ restated (by 1) ∷ [])) (fault_at 4 2 (1 ∷ 2 ∷ 3 ∷ 7 ∷ []))
    -- a kind 2 that registers a split and applies: first it registers, then it applies every one up to applied
    ∷ row half (split_off (by 2) 7 3 2 (1 ∷ []) ∷ range_split (by 1) 2 5 7 ∷ tells (by 1) 2 5 5 (1 ∷ []) ∷ restated (by 1) ∷ [])
    (fault_at 4 2 (1 ∷ 2 ∷ 5 ∷ 7 ∷ []))
    ∷ row half (split_off (by 2) 7 3 2 (1 ∷ []) ∷ range_split (by 1) 2 5 7 ∷ tells (by 1) 2 5 4 (1 ∷ []) ∷ restated (by 1) ∷ [])
    (fault_at 4 2 (1 ∷ 2 ∷ 3 ∷ 7 ∷ []))
    ∷ row half (split_off (by 2) 7 6 2 (1 ∷ []) ∷ range_split (by 1) 2 5 7 ∷ tells (by 1) 2 5 6 (1 ∷ []) ∷ restated (by 1) ∷ [])
    (fault_at 4 2 (1 ∷ 2 ∷ 6 ∷ 7 ∷ []))
    ∷ []

-- ---- the fault at a registering

-- node 1 restated, with index 6 recorded for range 2; then what
abbrev reached : List TraceRecord → List TraceRecord
reached told = tells (by 1) 2 3 6 [] ∷ restated (by 1) ∷ told

-- a record of node 1 of each kind that leaves alone what it held at its restatement
abbrev others : List TraceRecord
others =
    created (by 1) bootstrap 8 5 1 d f
    ∷ tells (by 1) 8 6 6 []
    ∷ apply (by 1) applied 8 7
    ∷ recovered (by 1) 8 7 1
    ∷ range_split (by 1) 8 9 9
    ∷ record_of 8 (by 1) 0 0 0 0 0 0 0 [] []
    ∷ record_of 11 (by 1) 0 0 1 5 1 10 19 [] []
    ∷ record_of 12 (by 1) 0 0 8 5 0 1 0 [] (span d f ∷ [])
    ∷ []

abbrev registerings : List Row
registerings =
    row half (reached (registered ∷ [])) (fault_at 3 2 (1 ∷ 2 ∷ 5 ∷ 7 ∷ []))
    -- the recorded index reaches it, or not
    ∷ row half (reached (split_off (by 2) 7 6 2 (1 ∷ []) ∷ [])) (fault_at 3 2 (1 ∷ 2 ∷ 6 ∷ 7 ∷ []))
    ∷ row half (reached (split_off (by 2) 7 7 2 (1 ∷ []) ∷ [])) passed
    ∷ row half (reached (split_off (by 2) 7 5 3 (1 ∷ []) ∷ [])) passed
    ∷ row half (range_split (by 1) 2 5 7 ∷ restated (by 1) ∷ registered ∷ []) passed
    ∷ row half (restated (by 1) ∷ tells (by 1) 2 3 6 [] ∷ registered ∷ []) passed
    -- it owes the right range, or not: not a voter; by any split of that right range
    ∷ row half (reached (split_off (by 2) 7 5 2 (4 ∷ []) ∷ [])) passed
    ∷ row half (reached (split_off (by 2) 7 9 3 (1 ∷ []) ∷ range_split (by 1) 3 9 7 ∷ split_off (by 2) 7 5 2 [] ∷ []))
    (fault_at 5 2 (1 ∷ 2 ∷ 5 ∷ 7 ∷ []))
    -- restated, or not
    ∷ row half (tells (by 1) 2 3 6 [] ∷ registered ∷ []) passed
    ∷ row half (reached (crashed (by 1) ∷ registered ∷ [])) passed
    ∷ row half (reached (crashed (by 2) ∷ registered ∷ [])) (fault_at 4 2 (1 ∷ 2 ∷ 5 ∷ 7 ∷ []))
    -- it held the right range at its latest RangesRestated, or not
    ∷ row half (created (by 1) snapshot 7 5 1 d f ∷ reached (registered ∷ [])) passed
    ∷ row half (created (by 1) snapshot 8 5 1 d f ∷ reached (registered ∷ [])) (fault_at 4 2 (1 ∷ 2 ∷ 5 ∷ 7 ∷ []))
    ∷ row half (reached (created (by 1) snapshot 7 5 1 d f ∷ registered ∷ [])) (fault_at 4 2 (1 ∷ 2 ∷ 5 ∷ 7 ∷ []))
    ∷ row half (reached (created (by 1) snapshot 7 5 1 d f ∷ restated (by 1) ∷ registered ∷ [])) passed
    ∷ row half (created (by 1) snapshot 7 5 1 d f ∷ reached (removed (by 1) 7 ∷ registered ∷ [])) passed
    ∷ row half (created (by 1) snapshot 7 5 1 d f ∷ reached (removed (by 1) 7 ∷ restated (by 1) ∷ registered ∷ []))
    (fault_at 6 2 (1 ∷ 2 ∷ 5 ∷ 7 ∷ []))
    ∷ row half (created (by 1) snapshot 7 5 1 d f ∷ reached (removed (by 1) 7 ∷ restated (by 2) ∷ registered ∷ [])) passed
    ∷ row half (created (by 1) snapshot 7 5 1 d f ∷ reached (others ++ (registered ∷ []))) passed
    -- a refusal drops the recorded index
    ∷ row half (reached (refused (by 1) ∷ registered ∷ [])) passed
    -- it registers for the first time
    ∷ row half (registered ∷ reached (registered ∷ [])) (fault_at 3 2 (1 ∷ 2 ∷ 5 ∷ 7 ∷ []))
    ∷ row half (split_off (by 2) 7 5 2 [] ∷ reached (registered ∷ [])) passed
    -- the lowest such node
    ∷ row half (tells (by 3) 2 3 6 [] ∷ restated (by 3) ∷ reached (split_off (by 2) 7 5 2 (1 ∷ 3 ∷ []) ∷ [])) (fault_at 5 2 (1 ∷ 2 ∷ 5 ∷ 7 ∷ []))
    ∷ row half (reached (tells (by 3) 2 3 6 [] ∷ restated (by 3) ∷ split_off (by 2) 7 5 2 (1 ∷ 3 ∷ []) ∷ [])) (fault_at 5 2 (1 ∷ 2 ∷ 5 ∷ 7 ∷ []))
    ∷ row half (reached (tells (by 3) 2 3 6 [] ∷ restated (by 3) ∷ split_off (by 2) 7 5 2 (3 ∷ []) ∷ [])) (fault_at 5 2 (3 ∷ 2 ∷ 5 ∷ 7 ∷ []))
    -- by a kind 2
    ∷ row half (reached (range_split (by 2) 2 5 7 ∷ tells (by 2) 2 5 0 (1 ∷ []) ∷ [])) (fault_at 4 2 (1 ∷ 2 ∷ 5 ∷ 7 ∷ []))
    ∷ []

abbrev pub right_halves : List Row
right_halves = judged ++ ended ++ servers ++ registrations ++ applications ++ replaced ++ registerings
