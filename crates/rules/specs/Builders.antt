-- Records, spans and keys for the tables of examples: a builder for each kind of record, with document 01's names of its numbers.
use Rattle.std.specs.Prelude.{List, [], ◌∷◌, ◌++◌, ℕ, replicate, Some, None}
use Rattle.record.specs.Named.{Node}
use Rattle.record.specs.Keys.{Key}
use Rattle.record.specs.Records.{Span, TraceRecord}

-- ---- nodes, keys and spans

-- marked with this node
abbrev pub by : ℕ → Node
by n = Some (record { 0 = n })

-- without a node
abbrev pub unmarked : Node
unmarked = None

-- the letters that serve as keys
abbrev pub a : Key
a = 97 ∷ []

abbrev pub b : Key
b = 98 ∷ []

abbrev pub c : Key
c = 99 ∷ []

abbrev pub d : Key
d = 100 ∷ []

abbrev pub e : Key
e = 101 ∷ []

abbrev pub f : Key
f = 102 ∷ []

abbrev pub g : Key
g = 103 ∷ []

-- 16 bytes: a tenant's number and a group's, both below 256
abbrev pub group_key : ℕ → ℕ → Key
group_key tenant group = replicate 7 0 ++ (tenant ∷ replicate 7 0 ++ (group ∷ []))

-- from a start up to an end
abbrev pub span : Key → Key → Span
span s t = record { start = s; end = t }

-- ---- sub-codes

-- the causes of a RangeCreated
abbrev pub bootstrap : ℕ
bootstrap = 1

abbrev pub split : ℕ
split = 2

abbrev pub snapshot : ℕ
snapshot = 3

-- the states of a RangeDescriptor
abbrev pub live : ℕ
live = 1

abbrev pub merging : ℕ
merging = 2

abbrev pub subsumed : ℕ
subsumed = 3

-- the effects of a RaftApply
abbrev pub applied : ℕ
applied = 1

abbrev pub took : ℕ
took = 4

-- ---- records

-- any record: kind, node, sub-code, flag, A to E, voters, spans
abbrev pub record_of : ℕ → Node → ℕ → ℕ → ℕ → ℕ → ℕ → ℕ → ℕ → List ℕ → List Span → TraceRecord
record_of kind node code flag A B C D E voters spans = record {
  kind = kind;
  node = node;
  code = code;
  flag = flag;
  a = A;
  b = B;
  c = C;
  d = D;
  e = E;
  voters = voters;
  spans = spans;
}

-- kind 1 without a parent: cause, range, floor, generation, span
abbrev pub created : Node → ℕ → ℕ → ℕ → ℕ → Key → Key → TraceRecord
created node cause range floor generation s t = record_of 1 node cause 0 range floor 0 generation 0 [] (span s t ∷ [])

-- kind 1 with a parent: cause, range, floor, parent, voters
abbrev pub child : Node → ℕ → ℕ → ℕ → ℕ → List ℕ → TraceRecord
child node cause range floor parent voters = record_of 1 node cause 1 range floor parent 1 0 voters (span [] [] ∷ [])

-- the same by a split
abbrev pub split_off : Node → ℕ → ℕ → ℕ → List ℕ → TraceRecord
split_off node range floor parent voters = child node split range floor parent voters

-- kind 1 by a split, but without a parent: range, floor, voters
abbrev pub orphan : Node → ℕ → ℕ → List ℕ → TraceRecord
orphan node range floor voters = record_of 1 node split 0 range floor 0 1 0 voters (span [] [] ∷ [])

-- kind 2, Live: range, index, applied, generation, voters, span
abbrev pub descriptor : Node → ℕ → ℕ → ℕ → ℕ → List ℕ → Key → Key → TraceRecord
descriptor node range index at generation voters s t = record_of 2 node live 0 range index at generation 0 voters (span s t ∷ [])

-- kind 2 where generation and span do not matter: range, index, applied, voters
abbrev pub tells : Node → ℕ → ℕ → ℕ → List ℕ → TraceRecord
tells node range index at voters = descriptor node range index at 1 voters [] []

-- kind 2 without a node, and so a put, in this state: range, index, generation, voters, span
abbrev pub put_in : ℕ → ℕ → ℕ → ℕ → List ℕ → Key → Key → TraceRecord
put_in state range index generation voters s t = record_of 2 unmarked state 0 range index 0 generation 0 voters (span s t ∷ [])

-- the same, Live and without voters
abbrev pub put : ℕ → ℕ → ℕ → Key → Key → TraceRecord
put range index generation s t = put_in live range index generation [] s t

-- kind 3 with a key: effect, range, index
abbrev pub keyed : ℕ → ℕ → ℕ → Key → TraceRecord
keyed effect range index key = record_of 3 unmarked effect 0 range index 0 0 0 [] (span key [] ∷ [])

-- an Applied write: range, index
abbrev pub write : ℕ → ℕ → Key → TraceRecord
write range index key = keyed applied range index key

-- kind 3 without a key: effect, range, index
abbrev pub apply : Node → ℕ → ℕ → ℕ → TraceRecord
apply node effect range index = record_of 3 node effect 0 range index 0 0 0 [] []

-- kind 4: range, applied, server
abbrev pub recovered : Node → ℕ → ℕ → ℕ → TraceRecord
recovered node range at server = record_of 4 node 0 0 range at server 0 0 [] []

-- kind 5
abbrev pub restated : Node → TraceRecord
restated node = record_of 5 node 0 0 0 0 0 0 0 [] []

-- kind 6
abbrev pub crashed : Node → TraceRecord
crashed node = record_of 6 node 0 0 0 0 0 0 0 [] []

-- kind 7: range, index, right
abbrev pub range_split : Node → ℕ → ℕ → ℕ → TraceRecord
range_split node range index right = record_of 7 node 0 0 range index right 0 0 [] []

-- kind 8
abbrev pub installed : Node → List Span → TraceRecord
installed node spans = record_of 8 node 0 0 0 0 0 0 0 [] spans

-- kind 9: range
abbrev pub removed : Node → ℕ → TraceRecord
removed node range = record_of 9 node 0 0 range 0 0 0 0 [] []

-- kind 10
abbrev pub refused : Node → TraceRecord
refused node = record_of 10 node 0 0 0 0 0 0 0 [] []

-- kind 11: node, index, run, first, last
abbrev pub leased : ℕ → ℕ → ℕ → ℕ → ℕ → TraceRecord
leased node index run first last = record_of 11 unmarked 0 0 node index run first last [] []

-- kind 12: range, index, generation, voters, the descriptor's span, the won span if there is one
abbrev pub meta_for : ℕ → ℕ → ℕ → List ℕ → Key → Key → List Span → TraceRecord
meta_for range index generation voters s t won = record_of 12 unmarked 0 0 range index 0 generation 0 voters (span s t ∷ won)

-- the same without voters
abbrev pub meta_applied : ℕ → ℕ → ℕ → Key → Key → List Span → TraceRecord
meta_applied range index generation s t won = meta_for range index generation [] s t won

-- the same record with flag 1: of kind 12 it continues the event before it
abbrev pub flagged : TraceRecord → TraceRecord
flagged x = record_of x.kind x.node x.code 1 x.a x.b x.c x.d x.e x.voters x.spans

-- the same record marked with a node
abbrev pub marked : ℕ → TraceRecord → TraceRecord
marked n x = record_of x.kind (by n) x.code x.flag x.a x.b x.c x.d x.e x.voters x.spans
