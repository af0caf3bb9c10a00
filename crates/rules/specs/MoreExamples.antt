-- Further rows of the checks agreement, overlap, install, twice, generations, ids and meta: each clause of each definition each way.
use Rattle.std.specs.Prelude.{List, [], ◌∷◌, ◌++◌, ℕ, replicate}
use Rattle.record.specs.Keys.{Key}
use Rattle.record.specs.Records.{TraceRecord}
use Rattle.rules.specs.Reports.{passed}
use Rattle.rules.specs.Builders.{by, unmarked, a, b, c, d, e, f, g, group_key, span, bootstrap, split, snapshot, live, merging, subsumed, applied, took, created, descriptor, put_in, put, keyed, write, apply, recovered, crashed, range_split, installed, removed, refused, leased, meta_for, meta_applied}
use Rattle.rules.specs.Examples.{Row, agreement, overlap, install, twice, generations, ids, meta, row, row_under, fault_at, holding, disputed}

-- ---- agreement

-- a put at an index where a value stands: each part of the value alone, then another range, another index
abbrev puts : List Row
puts =
    row agreement (put_in live 2 3 1 (1 ∷ 2 ∷ []) b f ∷ put_in live 2 3 1 (1 ∷ 2 ∷ []) b f ∷ []) passed
    ∷ row agreement (put 2 3 1 b f ∷ put 2 3 1 c f ∷ []) (fault_at 2 1 (2 ∷ 3 ∷ []))
    ∷ row agreement (put 2 3 1 b f ∷ put 2 3 1 b d ∷ []) (fault_at 2 1 (2 ∷ 3 ∷ []))
    ∷ row agreement (put 2 3 1 b f ∷ put 2 3 2 b f ∷ []) (fault_at 2 1 (2 ∷ 3 ∷ []))
    ∷ row agreement (put 2 3 1 b f ∷ put_in live 2 3 1 (1 ∷ []) b f ∷ []) (fault_at 2 1 (2 ∷ 3 ∷ []))
    ∷ row agreement (put 2 3 1 b f ∷ put_in merging 2 3 1 [] b f ∷ []) (fault_at 2 1 (2 ∷ 3 ∷ []))
    ∷ row agreement (put 2 3 1 b f ∷ put 4 3 1 c f ∷ []) passed
    ∷ row agreement (put 4 3 1 c f ∷ put 2 3 1 b f ∷ []) passed
    ∷ row agreement (put 2 3 1 b f ∷ put 2 4 1 c f ∷ []) passed
    ∷ row agreement (put 2 4 1 c f ∷ put 2 3 1 b f ∷ []) passed
    -- voters compare as lists
    ∷ row agreement (put_in live 2 3 1 (1 ∷ 2 ∷ []) b f ∷ put_in live 2 3 1 (2 ∷ 1 ∷ []) b f ∷ []) (fault_at 2 1 (2 ∷ 3 ∷ []))
    -- the value that stands is the one at that index, and a later equal one changes nothing
    ∷ row agreement (put 2 3 1 b f ∷ put 2 4 1 c f ∷ put 2 3 1 b f ∷ []) passed
    ∷ row agreement (put 2 3 1 b f ∷ put 2 3 1 b f ∷ put 2 3 1 c f ∷ []) (fault_at 3 1 (2 ∷ 3 ∷ []))
    -- RangeCreated by Bootstrap or Split puts a Live value at its floor
    ∷ row agreement disputed (fault_at 2 1 (2 ∷ 3 ∷ []))
    ∷ row agreement (holding ∷ holding ∷ []) passed
    ∷ row agreement (created unmarked split 2 3 1 b f ∷ put 2 3 1 b f ∷ []) passed
    ∷ row agreement (created unmarked split 2 3 1 b f ∷ put 2 3 1 b d ∷ []) (fault_at 2 1 (2 ∷ 3 ∷ []))
    ∷ row agreement (created unmarked split 2 3 1 b f ∷ put_in merging 2 3 1 [] b f ∷ []) (fault_at 2 1 (2 ∷ 3 ∷ []))
    -- no other kind puts: a meta record of that range at that index
    ∷ row agreement (put 2 3 1 b f ∷ meta_applied 2 3 1 c f [] ∷ []) passed
    ∷ []

-- after a value at 3 by no node: what a RangeDescriptor of node 1 at index 4, with applied 5 and another value, is
abbrev after : List TraceRecord → List TraceRecord
after told = put 2 3 1 b f ∷ told ++ (descriptor (by 1) 2 4 5 1 [] b d ∷ [])

-- a statement at 5 where a known applied index of that node and range is 5 or more, else a put at 4
abbrev knowings : List Row
knowings =
    row agreement (after []) passed
    ∷ row agreement (after (apply (by 1) applied 2 5 ∷ [])) (fault_at 3 3 (2 ∷ 5 ∷ []))
    ∷ row agreement (after (apply (by 1) applied 2 6 ∷ [])) (fault_at 3 3 (2 ∷ 5 ∷ []))
    ∷ row agreement (after (apply (by 1) applied 2 4 ∷ [])) passed
    ∷ row agreement (after (recovered (by 1) 2 5 3 ∷ [])) (fault_at 3 3 (2 ∷ 5 ∷ []))
    ∷ row agreement (after (recovered (by 1) 2 4 9 ∷ [])) passed
    ∷ row agreement (after (created (by 1) bootstrap 2 5 1 b f ∷ [])) (fault_at 3 3 (2 ∷ 5 ∷ []))
    ∷ row agreement (after (created (by 1) bootstrap 2 2 1 b f ∷ [])) passed
    -- of another node, of no node, of another range, by another kind
    ∷ row agreement (after (apply (by 2) applied 2 5 ∷ [])) passed
    ∷ row agreement (after (apply unmarked applied 2 5 ∷ [])) passed
    ∷ row agreement (after (apply (by 1) applied 1 5 ∷ [])) passed
    ∷ row agreement (after (apply (by 1) applied 3 5 ∷ [])) passed
    ∷ row agreement (after (range_split (by 1) 2 5 7 ∷ [])) passed
    ∷ row agreement (after (descriptor (by 1) 2 6 6 1 [] b f ∷ [])) passed
    -- the latest counts, and a crash does not forget it
    ∷ row agreement (after (apply (by 1) applied 2 4 ∷ apply (by 1) applied 2 5 ∷ [])) (fault_at 4 3 (2 ∷ 5 ∷ []))
    ∷ row agreement (after (apply (by 1) applied 2 5 ∷ recovered (by 1) 2 4 1 ∷ [])) passed
    ∷ row agreement (after (apply (by 1) applied 2 5 ∷ crashed (by 1) ∷ [])) (fault_at 4 3 (2 ∷ 5 ∷ []))
    -- the statement itself has to be marked
    ∷ row agreement (put 2 3 1 b f ∷ apply (by 1) applied 2 5 ∷ put 2 4 1 b d ∷ []) passed
    -- a RangeDescriptor at or below the node's own floor states, and puts nothing
    ∷ row agreement (holding ∷ descriptor (by 1) 2 3 3 1 [] b d ∷ []) (fault_at 2 3 (2 ∷ 3 ∷ []))
    ∷ []

-- a statement: with which value it is compared, and when a difference is a fault
abbrev stating : List Row
stating =
    -- the value at the greatest index not above its own
    row agreement (put 2 3 1 b f ∷ put 2 5 2 b d ∷ created (by 2) snapshot 2 5 2 b d ∷ []) passed
    ∷ row agreement (put 2 5 2 b d ∷ put 2 3 1 b f ∷ created (by 2) snapshot 2 5 2 b f ∷ []) (fault_at 3 3 (2 ∷ 5 ∷ []))
    ∷ row agreement (put 2 3 1 b f ∷ put 2 5 2 b d ∷ created (by 2) snapshot 2 4 1 b f ∷ []) passed
    ∷ row agreement (put 2 5 2 b d ∷ created (by 2) snapshot 2 4 1 b f ∷ []) passed
    ∷ row agreement (put 3 4 1 b d ∷ created (by 2) snapshot 2 5 1 b f ∷ []) passed
    -- the same generation or a lower one: kind 3; a larger one: only if a value at a higher index has it
    ∷ row agreement (holding ∷ created (by 2) snapshot 2 5 1 b d ∷ []) (fault_at 2 3 (2 ∷ 5 ∷ []))
    ∷ row agreement (holding ∷ created (by 2) snapshot 2 5 1 b f ∷ []) passed
    ∷ row agreement (holding ∷ created (by 2) snapshot 2 5 0 b f ∷ []) (fault_at 2 3 (2 ∷ 5 ∷ []))
    ∷ row agreement (holding ∷ created (by 2) snapshot 2 5 2 b f ∷ []) passed
    ∷ row agreement (holding ∷ created (by 2) snapshot 2 5 2 b d ∷ put 2 9 3 b d ∷ []) passed
    ∷ row agreement (holding ∷ created (by 2) snapshot 2 5 3 b d ∷ put 2 9 2 b d ∷ []) passed
    ∷ row agreement (holding ∷ created (by 2) snapshot 2 5 2 b d ∷ put 1 9 2 b d ∷ []) passed
    ∷ row agreement (holding ∷ created (by 2) snapshot 2 5 2 b d ∷ put 3 9 2 b d ∷ []) passed
    -- a value at a lower index with that generation is none
    ∷ row agreement (put 2 4 2 b d ∷ put 2 5 1 b f ∷ created (by 2) snapshot 2 6 2 b d ∷ []) passed
    -- the lowest such index
    ∷ row agreement (put 2 3 1 b f ∷ put 2 11 2 b d ∷ put 2 9 2 b d ∷ created (by 2) snapshot 2 5 2 b d ∷ []) (fault_at 4 2 (2 ∷ 5 ∷ 9 ∷ []))
    ∷ row agreement (put 2 3 1 b f ∷ put 2 9 2 b d ∷ put 2 11 2 b d ∷ created (by 2) snapshot 2 5 2 b d ∷ []) (fault_at 4 2 (2 ∷ 5 ∷ 9 ∷ []))
    ∷ row agreement (put 2 3 1 b f ∷ put 2 9 2 b d ∷ put 2 11 2 b d ∷ put 3 7 2 b d ∷ created (by 2) snapshot 2 5 2 b d ∷ [])
    (fault_at 5 2 (2 ∷ 5 ∷ 9 ∷ []))
    -- a value may come after the statement, and of several statements the earliest is reported
    ∷ row agreement (created unmarked snapshot 2 5 1 b d ∷ put 2 3 1 b f ∷ []) (fault_at 2 3 (2 ∷ 5 ∷ []))
    ∷ row agreement (created (by 2) snapshot 2 6 1 b d ∷ created (by 3) snapshot 2 5 1 b d ∷ put 2 3 1 b f ∷ []) (fault_at 3 3 (2 ∷ 6 ∷ []))
    ∷ row agreement (created (by 2) snapshot 2 5 1 b d ∷ created (by 3) snapshot 2 6 1 b d ∷ put 2 3 1 b f ∷ []) (fault_at 3 3 (2 ∷ 5 ∷ []))
    ∷ row agreement (created (by 2) snapshot 2 5 1 b d ∷ created (by 3) snapshot 2 6 1 b d ∷ created (by 4) snapshot 2 7 1 b d ∷ put 2 3 1 b f ∷ [])
    (fault_at 4 3 (2 ∷ 5 ∷ []))
    -- a statement does not stand: a later put at its index may differ from it, and mend it
    ∷ row agreement (created (by 2) snapshot 2 5 1 b d ∷ put 2 5 1 b d ∷ []) passed
    ∷ row agreement (created (by 2) snapshot 2 5 1 b d ∷ put 2 5 1 b f ∷ []) (fault_at 2 3 (2 ∷ 5 ∷ []))
    ∷ row agreement (holding ∷ created (by 2) snapshot 2 5 1 b d ∷ descriptor (by 1) 2 4 4 1 [] b d ∷ []) (fault_at 2 3 (2 ∷ 5 ∷ []))
    ∷ []

-- ---- overlap

abbrev overlaps : List Row
overlaps =
    -- from < end and start < to
    row overlap (holding ∷ created (by 1) bootstrap 3 3 1 f g ∷ []) passed
    ∷ row overlap (holding ∷ created (by 1) bootstrap 3 3 1 a b ∷ []) passed
    ∷ row overlap (holding ∷ created (by 1) bootstrap 3 3 1 e g ∷ []) (fault_at 2 1 (1 ∷ 3 ∷ 2 ∷ []))
    ∷ row overlap (holding ∷ created (by 1) bootstrap 3 3 1 a c ∷ []) (fault_at 2 1 (1 ∷ 3 ∷ 2 ∷ []))
    -- by a kind 2, of a kind 2, by no other kind
    ∷ row overlap (holding ∷ descriptor (by 1) 3 3 3 1 [] c d ∷ []) (fault_at 2 1 (1 ∷ 3 ∷ 2 ∷ []))
    ∷ row overlap (descriptor (by 1) 3 3 3 1 [] c d ∷ holding ∷ []) (fault_at 2 1 (1 ∷ 2 ∷ 3 ∷ []))
    ∷ row overlap (holding ∷ installed (by 1) (span c d ∷ []) ∷ []) passed
    ∷ row overlap (installed (by 1) (span c d ∷ []) ∷ holding ∷ []) passed
    -- by one node
    ∷ row overlap (holding ∷ created (by 2) bootstrap 3 3 1 c d ∷ []) passed
    ∷ row overlap (holding ∷ created unmarked bootstrap 3 3 1 c d ∷ []) passed
    ∷ row overlap (created unmarked bootstrap 3 3 1 c d ∷ holding ∷ []) passed
    -- the latest span replaces, and a range does not overlap itself
    ∷ row overlap (holding ∷ descriptor (by 1) 2 5 5 2 [] b c ∷ created (by 1) bootstrap 3 3 1 d f ∷ []) passed
    ∷ row overlap (descriptor (by 1) 2 5 5 2 [] b c ∷ holding ∷ created (by 1) bootstrap 3 3 1 d f ∷ []) (fault_at 3 1 (1 ∷ 3 ∷ 2 ∷ []))
    -- the lowest other that overlaps
    ∷ row overlap (created (by 1) bootstrap 3 3 1 d f ∷ created (by 1) bootstrap 2 3 1 b d ∷ created (by 1) bootstrap 5 3 1 c e ∷ [])
    (fault_at 3 1 (1 ∷ 5 ∷ 2 ∷ []))
    ∷ row overlap (created (by 1) bootstrap 2 3 1 b d ∷ created (by 1) bootstrap 3 3 1 d f ∷ created (by 1) bootstrap 5 3 1 c e ∷ [])
    (fault_at 3 1 (1 ∷ 5 ∷ 2 ∷ []))
    ∷ row overlap (created (by 1) bootstrap 2 3 1 b d ∷ created (by 1) bootstrap 3 3 1 d f ∷ created (by 1) bootstrap 5 3 1 d e ∷ [])
    (fault_at 3 1 (1 ∷ 5 ∷ 3 ∷ []))
    -- removal, crash or RaftRefused end it; of another range, by another node they do not
    ∷ row overlap (holding ∷ removed (by 1) 2 ∷ created (by 1) bootstrap 3 3 1 c d ∷ []) passed
    ∷ row overlap (holding ∷ crashed (by 1) ∷ created (by 1) bootstrap 3 3 1 c d ∷ []) passed
    ∷ row overlap (holding ∷ refused (by 1) ∷ created (by 1) bootstrap 3 3 1 c d ∷ []) passed
    ∷ row overlap (holding ∷ removed (by 1) 1 ∷ created (by 1) bootstrap 3 3 1 c d ∷ []) (fault_at 3 1 (1 ∷ 3 ∷ 2 ∷ []))
    ∷ row overlap (holding ∷ removed (by 1) 3 ∷ created (by 1) bootstrap 3 3 1 c d ∷ []) (fault_at 3 1 (1 ∷ 3 ∷ 2 ∷ []))
    ∷ row overlap (holding ∷ removed (by 2) 2 ∷ created (by 1) bootstrap 3 3 1 c d ∷ []) (fault_at 3 1 (1 ∷ 3 ∷ 2 ∷ []))
    ∷ row overlap (holding ∷ crashed (by 2) ∷ created (by 1) bootstrap 3 3 1 c d ∷ []) (fault_at 3 1 (1 ∷ 3 ∷ 2 ∷ []))
    ∷ row overlap (holding ∷ refused (by 2) ∷ created (by 1) bootstrap 3 3 1 c d ∷ []) (fault_at 3 1 (1 ∷ 3 ∷ 2 ∷ []))
    -- nor does another record of that range
    ∷ row overlap (holding ∷ apply (by 1) applied 2 4 ∷ created (by 1) bootstrap 3 3 1 c d ∷ []) (fault_at 3 1 (1 ∷ 3 ∷ 2 ∷ []))
    ∷ []

-- ---- install

-- 15 bytes: one too few to name a group
abbrev short_key : Key
short_key = replicate 15 0

abbrev installs : List Row
installs =
    -- a span that names no group overlaps, or touches, a held range
    row install (holding ∷ installed (by 1) (span a c ∷ []) ∷ []) (fault_at 2 1 (1 ∷ 2 ∷ []))
    ∷ row install (holding ∷ installed (by 1) (span a b ∷ []) ∷ []) passed
    ∷ row install (holding ∷ installed (by 1) (span f g ∷ []) ∷ []) passed
    ∷ row install (holding ∷ installed (by 1) (span c c ∷ []) ∷ []) (fault_at 2 1 (1 ∷ 2 ∷ []))
    ∷ row install (holding ∷ installed (by 1) [] ∷ []) passed
    -- no other kind installs
    ∷ row install (holding ∷ descriptor (by 1) 3 3 3 1 [] a c ∷ []) passed
    -- held by that node, still
    ∷ row install (holding ∷ installed unmarked (span a c ∷ []) ∷ []) passed
    ∷ row install (holding ∷ installed (by 2) (span a c ∷ []) ∷ []) passed
    ∷ row install (holding ∷ refused (by 1) ∷ installed (by 1) (span a c ∷ []) ∷ []) passed
    ∷ row install (holding ∷ removed (by 1) 2 ∷ installed (by 1) (span a c ∷ []) ∷ []) passed
    -- a held range that a start in the record names, after or before; that no start names
    ∷ row install (holding ∷ installed (by 1) (span a c ∷ span (group_key 0 2) [] ∷ []) ∷ []) passed
    ∷ row install (holding ∷ installed (by 1) (span (group_key 0 2) [] ∷ span a c ∷ []) ∷ []) passed
    ∷ row install (holding ∷ installed (by 1) (span [] (group_key 0 2) ∷ span a c ∷ []) ∷ []) (fault_at 2 1 (1 ∷ 2 ∷ []))
    ∷ row install (holding ∷ installed (by 1) (span (group_key 0 1) [] ∷ span a c ∷ []) ∷ []) (fault_at 2 1 (1 ∷ 2 ∷ []))
    ∷ row install (holding ∷ installed (by 1) (span (group_key 0 3) [] ∷ span a c ∷ []) ∷ []) (fault_at 2 1 (1 ∷ 2 ∷ []))
    -- a span whose start names a group is not judged itself: 16 bytes or more, under the tenant
    ∷ row install (holding ∷ installed (by 1) (span (group_key 0 3) c ∷ []) ∷ []) passed
    ∷ row install (holding ∷ installed (by 1) (span (group_key 0 3 ++ a) c ∷ []) ∷ []) passed
    ∷ row install (holding ∷ installed (by 1) (span short_key c ∷ []) ∷ []) (fault_at 2 1 (1 ∷ 2 ∷ []))
    ∷ row install (holding ∷ installed (by 1) (span (group_key 4 3) c ∷ []) ∷ []) (fault_at 2 1 (1 ∷ 2 ∷ []))
    ∷ row_under 4 install (holding ∷ installed (by 1) (span (group_key 4 3) c ∷ []) ∷ []) passed
    ∷ row_under 4 install (holding ∷ installed (by 1) (span (group_key 0 3) c ∷ []) ∷ []) (fault_at 2 1 (1 ∷ 2 ∷ []))
    -- the group is the 8 bytes after the tenant's
    ∷ row install (holding ∷ installed (by 1) (span (group_key 0 2 ++ a) [] ∷ span a c ∷ []) ∷ []) passed
    ∷ row_under 2 install (holding ∷ installed (by 1) (span (group_key 2 3) [] ∷ span a c ∷ []) ∷ []) (fault_at 2 1 (1 ∷ 2 ∷ []))
    -- the first span, then the lowest range
    ∷ row install (created (by 1) bootstrap 2 3 1 d f ∷ created (by 1) bootstrap 3 3 1 b c ∷ installed (by 1) (span b c ∷ span d e ∷ []) ∷ [])
    (fault_at 3 1 (1 ∷ 3 ∷ []))
    ∷ row install
    (created (by 1) bootstrap 2 3 1 d f ∷ created (by 1) bootstrap 3 3 1 b c ∷ installed (by 1) (span a b ∷ span b c ∷ span d e ∷ []) ∷ [])
    (fault_at 3 1 (1 ∷ 3 ∷ []))
    ∷ row install (created (by 1) bootstrap 2 3 1 d f ∷ created (by 1) bootstrap 3 3 1 b c ∷ installed (by 1) (span a g ∷ []) ∷ [])
    (fault_at 3 1 (1 ∷ 2 ∷ []))
    ∷ row install (created (by 1) bootstrap 3 3 1 b c ∷ created (by 1) bootstrap 2 3 1 d f ∷ installed (by 1) (span a g ∷ []) ∷ [])
    (fault_at 3 1 (1 ∷ 2 ∷ []))
    ∷ []

-- ---- twice

abbrev twices : List Row
twices =
    -- held by a kind 1 or a kind 2, by that node
    row twice (descriptor (by 1) 2 5 5 1 [] b f ∷ holding ∷ []) (fault_at 2 1 (1 ∷ 2 ∷ 3 ∷ []))
    ∷ row twice (holding ∷ created (by 1) snapshot 2 6 1 c d ∷ []) (fault_at 2 1 (1 ∷ 2 ∷ 6 ∷ []))
    ∷ row twice (holding ∷ created (by 2) bootstrap 2 3 1 b f ∷ []) passed
    ∷ row twice (holding ∷ created unmarked bootstrap 2 3 1 b f ∷ []) passed
    ∷ row twice (holding ∷ created (by 1) bootstrap 3 3 1 b f ∷ []) passed
    -- a RangeDescriptor of a held range is no creation
    ∷ row twice (holding ∷ descriptor (by 1) 2 5 5 1 [] b f ∷ []) passed
    -- ended, and held again
    ∷ row twice (holding ∷ removed (by 1) 2 ∷ holding ∷ []) passed
    ∷ row twice (holding ∷ refused (by 1) ∷ holding ∷ []) passed
    ∷ row twice (holding ∷ removed (by 1) 3 ∷ holding ∷ []) (fault_at 3 1 (1 ∷ 2 ∷ 3 ∷ []))
    ∷ row twice (holding ∷ crashed (by 2) ∷ holding ∷ []) (fault_at 3 1 (1 ∷ 2 ∷ 3 ∷ []))
    ∷ row twice (holding ∷ crashed (by 1) ∷ descriptor (by 1) 2 5 5 1 [] b f ∷ holding ∷ []) (fault_at 4 1 (1 ∷ 2 ∷ 3 ∷ []))
    -- the first fault stays
    ∷ row twice (holding ∷ holding ∷ created (by 1) bootstrap 2 7 1 b f ∷ []) (fault_at 2 1 (1 ∷ 2 ∷ 3 ∷ []))
    ∷ []

-- ---- generations

-- one range whose generation falls from 3 to 1 at index 5
abbrev falling : List TraceRecord
falling = put 2 3 3 b f ∷ put 2 5 1 b f ∷ []

-- one range whose generation rises from 1 to 3 there
abbrev rising : List TraceRecord
rising = put 2 3 1 b f ∷ put 2 5 3 b f ∷ []

-- three ranges: 5 and 6 at generation 1, 7 at generation 2
abbrev three : List TraceRecord
three = put 5 3 1 b f ∷ put 6 3 1 b f ∷ put 7 3 2 b f ∷ []

abbrev rises : List Row
rises =
    -- an Applied write with a key, below which there is no value of that range
    row generations (write 2 4 c ∷ []) (fault_at 1 1 (2 ∷ 4 ∷ []))
    ∷ row generations (apply (by 1) applied 2 4 ∷ []) passed
    ∷ row generations (keyed took 2 4 c ∷ []) passed
    ∷ row generations (put 3 3 1 b f ∷ write 2 4 c ∷ []) (fault_at 2 1 (2 ∷ 4 ∷ []))
    ∷ row generations (write 2 4 c ∷ put 2 3 1 b f ∷ []) (fault_at 1 1 (2 ∷ 4 ∷ []))
    -- two writes of one range and generation; of a lower generation
    ∷ row generations (holding ∷ write 2 4 c ∷ write 2 5 c ∷ []) passed
    ∷ row generations (falling ++ (write 2 4 c ∷ write 2 6 c ∷ [])) (fault_at 4 2 (2 ∷ 6 ∷ 1 ∷ 3 ∷ 2 ∷ []))
    ∷ row generations (falling ++ (write 2 6 c ∷ write 2 4 c ∷ [])) passed
    ∷ row generations (rising ++ (write 2 6 c ∷ write 2 4 c ∷ [])) (fault_at 4 2 (2 ∷ 4 ∷ 1 ∷ 3 ∷ 2 ∷ []))
    ∷ row generations (rising ++ (write 2 4 c ∷ write 2 6 c ∷ [])) passed
    -- of two ranges: at a higher generation, the same, a lower
    ∷ row generations (three ++ (write 5 4 c ∷ write 7 6 c ∷ [])) passed
    ∷ row generations (three ++ (write 5 4 c ∷ write 6 6 c ∷ [])) (fault_at 5 2 (6 ∷ 6 ∷ 1 ∷ 1 ∷ 5 ∷ []))
    ∷ row generations (three ++ (write 7 4 c ∷ write 6 4 c ∷ [])) (fault_at 5 2 (6 ∷ 4 ∷ 1 ∷ 2 ∷ 7 ∷ []))
    -- of two keys
    ∷ row generations (three ++ (write 7 4 c ∷ write 6 6 d ∷ [])) passed
    ∷ row generations (three ++ (write 7 4 c ∷ write 6 6 d ∷ write 6 8 d ∷ [])) passed
    -- any earlier write of the key counts, and the last one is named
    ∷ row generations (put 2 3 3 b f ∷ put 4 3 3 b f ∷ put 5 3 2 b f ∷ write 2 4 c ∷ write 4 4 d ∷ write 5 4 c ∷ [])
    (fault_at 6 2 (5 ∷ 4 ∷ 2 ∷ 3 ∷ 2 ∷ []))
    ∷ row generations (three ++ (write 5 4 c ∷ write 7 4 c ∷ write 6 8 c ∷ [])) (fault_at 6 2 (6 ∷ 8 ∷ 1 ∷ 2 ∷ 7 ∷ []))
    ∷ row generations (three ++ (write 5 4 c ∷ write 7 4 c ∷ write 7 5 d ∷ write 6 8 c ∷ [])) (fault_at 7 2 (6 ∷ 8 ∷ 1 ∷ 2 ∷ 7 ∷ []))
    ∷ row generations (three ++ (put 5 6 2 b f ∷ write 6 4 c ∷ write 5 7 c ∷ write 7 8 c ∷ [])) (fault_at 7 2 (7 ∷ 8 ∷ 2 ∷ 2 ∷ 5 ∷ []))
    -- the first write at a range and index counts, and no other there: a second is not judged, nor is anything judged by it
    ∷ row generations (holding ∷ write 2 4 c ∷ write 2 4 c ∷ []) passed
    ∷ row generations (put 2 3 3 b f ∷ write 2 6 c ∷ put 2 5 1 b f ∷ write 2 6 c ∷ []) passed
    ∷ row generations (put 2 3 3 b f ∷ write 2 6 c ∷ put 2 5 1 b f ∷ write 2 7 c ∷ []) (fault_at 4 2 (2 ∷ 7 ∷ 1 ∷ 3 ∷ 2 ∷ []))
    ∷ row generations (three ++ (write 7 4 c ∷ write 7 4 d ∷ write 6 4 d ∷ [])) passed
    -- an Applied without a key, or another effect, leaves the index to the write
    ∷ row generations (apply unmarked applied 2 4 ∷ write 2 4 c ∷ []) (fault_at 2 1 (2 ∷ 4 ∷ []))
    ∷ row generations (keyed took 2 4 c ∷ write 2 4 c ∷ []) (fault_at 2 1 (2 ∷ 4 ∷ []))
    -- at the generation that `before` has at the write's own record: the greatest index below, and no later value
    ∷ row generations (put 2 5 2 b f ∷ put 2 3 1 b f ∷ put 3 3 2 b f ∷ write 2 6 c ∷ write 3 6 c ∷ []) (fault_at 5 2 (3 ∷ 6 ∷ 2 ∷ 2 ∷ 2 ∷ []))
    ∷ row generations (put 2 3 1 b f ∷ put 3 3 2 b f ∷ write 2 6 c ∷ put 2 5 2 b f ∷ write 3 6 c ∷ []) passed
    ∷ row generations (put 2 3 1 b f ∷ put 3 3 1 b f ∷ write 2 6 c ∷ put 2 5 2 b f ∷ write 3 6 c ∷ []) (fault_at 5 2 (3 ∷ 6 ∷ 1 ∷ 1 ∷ 2 ∷ []))
    ∷ []

-- ---- ids

abbrev grantings : List Row
grantings =
    -- a second grant at an index: node, run, first and last, each alone above and below the first grant's
    row ids (leased 3 5 4 10 19 ∷ leased 3 5 4 10 19 ∷ []) passed
    ∷ row ids (leased 3 5 4 10 19 ∷ leased 2 5 4 10 19 ∷ []) (fault_at 2 1 (5 ∷ []))
    ∷ row ids (leased 3 5 4 10 19 ∷ leased 4 5 4 10 19 ∷ []) (fault_at 2 1 (5 ∷ []))
    ∷ row ids (leased 3 5 4 10 19 ∷ leased 3 5 3 10 19 ∷ []) (fault_at 2 1 (5 ∷ []))
    ∷ row ids (leased 3 5 4 10 19 ∷ leased 3 5 5 10 19 ∷ []) (fault_at 2 1 (5 ∷ []))
    ∷ row ids (leased 3 5 4 10 19 ∷ leased 3 5 4 9 19 ∷ []) (fault_at 2 1 (5 ∷ []))
    ∷ row ids (leased 3 5 4 10 19 ∷ leased 3 5 4 11 19 ∷ []) (fault_at 2 1 (5 ∷ []))
    ∷ row ids (leased 3 5 4 10 19 ∷ leased 3 5 4 10 18 ∷ []) (fault_at 2 1 (5 ∷ []))
    ∷ row ids (leased 3 5 4 10 19 ∷ leased 3 5 4 10 20 ∷ []) (fault_at 2 1 (5 ∷ []))
    -- it is compared with the first at its own index alone, even where it is empty
    ∷ row ids (leased 1 5 1 10 19 ∷ leased 2 6 1 20 30 ∷ leased 1 5 1 10 19 ∷ []) passed
    ∷ row ids (leased 1 5 1 10 19 ∷ leased 1 5 1 40 39 ∷ []) (fault_at 2 1 (5 ∷ []))
    ∷ row ids (leased 1 5 1 10 19 ∷ leased 1 6 1 40 39 ∷ []) (fault_at 2 2 (6 ∷ []))
    -- an empty first grant is kind 2 although its ends lie about a block
    ∷ row ids (leased 1 5 1 10 19 ∷ leased 1 6 1 15 12 ∷ []) (fault_at 2 2 (6 ∷ []))
    -- two blocks share an id, or touch: above, below, within, around
    ∷ row ids (leased 1 5 1 10 19 ∷ leased 2 6 1 20 30 ∷ []) passed
    ∷ row ids (leased 1 5 1 10 19 ∷ leased 2 6 1 5 9 ∷ []) passed
    ∷ row ids (leased 1 5 1 10 19 ∷ leased 2 6 1 5 10 ∷ []) (fault_at 2 3 (6 ∷ 10 ∷ []))
    ∷ row ids (leased 1 5 1 10 19 ∷ leased 2 6 1 15 16 ∷ []) (fault_at 2 3 (6 ∷ 10 ∷ []))
    ∷ row ids (leased 1 5 1 10 19 ∷ leased 2 6 1 5 30 ∷ []) (fault_at 2 3 (6 ∷ 10 ∷ []))
    ∷ row ids (leased 1 5 1 7 7 ∷ leased 2 6 1 7 7 ∷ []) (fault_at 2 3 (6 ∷ 7 ∷ []))
    ∷ row ids (leased 1 5 1 1 3 ∷ leased 1 6 1 10 19 ∷ leased 1 7 1 5 9 ∷ []) passed
    -- the greatest older first not above the new last, in either order of time
    ∷ row ids (leased 1 5 1 50 59 ∷ leased 1 6 1 10 19 ∷ leased 1 7 1 15 16 ∷ []) (fault_at 3 3 (7 ∷ 10 ∷ []))
    ∷ row ids (leased 1 5 1 10 19 ∷ leased 1 6 1 30 39 ∷ leased 1 7 1 15 35 ∷ []) (fault_at 3 3 (7 ∷ 30 ∷ []))
    ∷ row ids (leased 1 5 1 30 39 ∷ leased 1 6 1 10 19 ∷ leased 1 7 1 15 30 ∷ []) (fault_at 3 3 (7 ∷ 30 ∷ []))
    -- no other kind is a grant: a RangeCreated with the same numbers
    ∷ row ids (leased 1 5 1 10 19 ∷ created unmarked bootstrap 1 5 8 b f ∷ []) passed
    ∷ []

-- ---- meta

-- range 7 with one value at generations 1, 2 and 3
abbrev values : List TraceRecord
values = put 7 1 1 b g ∷ put 7 2 2 b g ∷ put 7 3 3 b g ∷ []

-- range 7's meta: index, generation, won span
abbrev won : ℕ → ℕ → Key → Key → TraceRecord
won index generation s t = meta_applied 7 index generation b g (span s t ∷ [])

abbrev metas : List Row
metas =
    -- the first value of that range and generation: there is one, and start, end and voters are its
    row meta (meta_applied 2 10 1 b f [] ∷ []) (fault_at 1 1 (2 ∷ 1 ∷ 10 ∷ []))
    ∷ row meta (holding ∷ meta_applied 2 10 1 b f [] ∷ []) passed
    ∷ row meta (holding ∷ meta_applied 2 10 3 b f [] ∷ []) (fault_at 2 1 (2 ∷ 3 ∷ 10 ∷ []))
    ∷ row meta (holding ∷ meta_applied 3 10 1 b f [] ∷ []) (fault_at 2 1 (3 ∷ 1 ∷ 10 ∷ []))
    ∷ row meta (created (by 1) snapshot 2 3 1 b f ∷ meta_applied 2 10 1 b f [] ∷ []) (fault_at 2 1 (2 ∷ 1 ∷ 10 ∷ []))
    ∷ row meta (meta_applied 2 10 1 b f [] ∷ holding ∷ []) (fault_at 1 1 (2 ∷ 1 ∷ 10 ∷ []))
    ∷ row meta (holding ∷ meta_applied 2 10 1 c f [] ∷ []) (fault_at 2 2 (2 ∷ 1 ∷ 10 ∷ []))
    ∷ row meta (holding ∷ meta_applied 2 10 1 b d [] ∷ []) (fault_at 2 2 (2 ∷ 1 ∷ 10 ∷ []))
    ∷ row meta (holding ∷ meta_for 2 10 1 (1 ∷ []) b f [] ∷ []) (fault_at 2 2 (2 ∷ 1 ∷ 10 ∷ []))
    ∷ row meta (put_in live 2 3 1 (1 ∷ []) b f ∷ meta_for 2 10 1 (1 ∷ []) b f [] ∷ []) passed
    -- first in time, whatever its index and state
    ∷ row meta (put 2 5 3 b c ∷ put 2 4 3 b d ∷ meta_applied 2 10 3 b c [] ∷ []) passed
    ∷ row meta (put 2 4 3 b c ∷ put 2 5 3 b d ∷ meta_applied 2 10 3 b d [] ∷ []) (fault_at 3 2 (2 ∷ 3 ∷ 10 ∷ []))
    ∷ row meta (put_in subsumed 2 3 1 [] b f ∷ meta_applied 2 10 1 b f [] ∷ []) passed
    -- no other kind is judged
    ∷ row meta (write 2 10 c ∷ []) passed
    -- a standing name with a lower index: a higher generation is kind 3
    ∷ row meta (values ++ (won 10 3 c d ∷ won 11 1 c d ∷ [])) (fault_at 5 3 (11 ∷ 7 ∷ 1 ∷ 3 ∷ []))
    ∷ row meta (values ++ (won 10 2 c d ∷ won 11 2 c d ∷ [])) passed
    ∷ row meta (values ++ (won 10 1 c d ∷ won 11 2 c d ∷ [])) passed
    -- one with an equal or a higher index: a lower generation is kind 4
    ∷ row meta (values ++ (won 10 1 c d ∷ won 9 3 c d ∷ [])) (fault_at 5 4 (9 ∷ 7 ∷ 3 ∷ 1 ∷ 10 ∷ []))
    ∷ row meta (values ++ (won 10 1 c d ∷ won 10 3 c d ∷ [])) (fault_at 5 4 (10 ∷ 7 ∷ 3 ∷ 1 ∷ 10 ∷ []))
    ∷ row meta (values ++ (won 10 2 c d ∷ won 9 2 c d ∷ [])) passed
    ∷ row meta (values ++ (won 10 3 c d ∷ won 9 2 c d ∷ [])) passed
    -- the keys of the won span: from its start, up to its end
    ∷ row meta (values ++ (won 10 3 c d ∷ won 11 1 d e ∷ [])) passed
    ∷ row meta (values ++ (won 10 3 d e ∷ won 11 1 c d ∷ [])) passed
    ∷ row meta (values ++ (won 10 3 d e ∷ won 11 1 c e ∷ [])) (fault_at 5 3 (11 ∷ 7 ∷ 1 ∷ 3 ∷ []))
    ∷ row meta (values ++ (won 10 3 c e ∷ won 11 1 d f ∷ [])) (fault_at 5 3 (11 ∷ 7 ∷ 1 ∷ 3 ∷ []))
    -- also below and above the descriptor's own span
    ∷ row meta (values ++ (won 10 3 [] a ∷ won 11 1 [] a ∷ [])) (fault_at 5 3 (11 ∷ 7 ∷ 1 ∷ 3 ∷ []))
    ∷ row meta (values ++ (won 10 3 g (g ++ a) ∷ won 11 1 g (g ++ a) ∷ [])) (fault_at 5 3 (11 ∷ 7 ∷ 1 ∷ 3 ∷ []))
    -- an empty won span names nothing and is not judged; nor does a record without one
    ∷ row meta (values ++ (won 10 3 d c ∷ won 11 1 b g ∷ [])) passed
    ∷ row meta (values ++ (won 10 3 b g ∷ won 11 1 d d ∷ [])) passed
    ∷ row meta (values ++ (meta_applied 7 10 3 b g [] ∷ won 11 1 b g ∷ [])) passed
    ∷ row meta (values ++ (won 10 3 b g ∷ meta_applied 7 11 1 b g [] ∷ [])) passed
    -- no other kind names keys: an install with two spans
    ∷ row meta (values ++ (installed (by 1) (span a b ∷ span b g ∷ []) ∷ won 0 1 c d ∷ [])) passed
    -- the standing name has the greatest index, in either order of time, the earliest among equals
    ∷ row meta (values ++ (won 10 1 c d ∷ won 12 2 c d ∷ won 11 1 c d ∷ [])) passed
    ∷ row meta (values ++ (won 12 2 c d ∷ won 10 1 c d ∷ won 11 2 c d ∷ [])) passed
    ∷ row meta (values ++ (won 12 2 c d ∷ won 10 1 c d ∷ won 11 3 c d ∷ [])) (fault_at 6 4 (11 ∷ 7 ∷ 3 ∷ 2 ∷ 12 ∷ []))
    ∷ row meta (values ++ (won 10 2 c d ∷ won 12 2 c d ∷ won 11 3 c d ∷ [])) (fault_at 6 4 (11 ∷ 7 ∷ 3 ∷ 2 ∷ 12 ∷ []))
    ∷ row meta (values ++ (won 10 2 c d ∷ won 10 1 c d ∷ won 11 1 c d ∷ [])) (fault_at 6 3 (11 ∷ 7 ∷ 1 ∷ 2 ∷ []))
    -- the first faulty piece, in key order
    ∷ row meta (values ++ (won 10 2 b c ∷ won 11 3 d e ∷ won 12 1 b f ∷ [])) (fault_at 6 3 (12 ∷ 7 ∷ 1 ∷ 2 ∷ []))
    ∷ row meta (values ++ (won 10 2 d e ∷ won 11 3 b c ∷ won 12 1 b f ∷ [])) (fault_at 6 3 (12 ∷ 7 ∷ 1 ∷ 3 ∷ []))
    ∷ row meta (values ++ (won 10 2 c d ∷ won 11 3 e f ∷ won 12 1 b g ∷ [])) (fault_at 6 3 (12 ∷ 7 ∷ 1 ∷ 2 ∷ []))
    ∷ row meta (values ++ (won 10 2 e f ∷ won 11 3 c d ∷ won 12 1 b g ∷ [])) (fault_at 6 3 (12 ∷ 7 ∷ 1 ∷ 3 ∷ []))
    ∷ row meta (values ++ (won 10 1 b d ∷ won 11 2 d e ∷ won 12 1 b f ∷ [])) (fault_at 6 3 (12 ∷ 7 ∷ 1 ∷ 2 ∷ []))
    ∷ row meta (values ++ (won 20 2 b e ∷ won 10 1 d f ∷ won 9 2 c f ∷ [])) (fault_at 6 4 (9 ∷ 7 ∷ 2 ∷ 1 ∷ 10 ∷ []))
    -- in order: kinds 1 and 2 before the walk
    ∷ row meta (values ++ (won 10 3 b g ∷ meta_applied 7 11 1 b f (span b g ∷ []) ∷ [])) (fault_at 5 2 (7 ∷ 1 ∷ 11 ∷ []))
    ∷ row meta (values ++ (won 10 3 b g ∷ meta_applied 7 11 4 b g (span b g ∷ []) ∷ [])) (fault_at 5 1 (7 ∷ 4 ∷ 11 ∷ []))
    ∷ []

abbrev pub further : List Row
further = puts ++ knowings ++ stating ++ overlaps ++ installs ++ twices ++ rises ++ grantings ++ metas
