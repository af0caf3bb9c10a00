-- Document 01's names for the numbers A to E, kind by kind; a view is asked only of a record of its kind. Kind 7's is `Pending`
-- of RightHalf, kind 11's `Grant` of IdsUnique.
use Rattle.std.specs.Prelude.{ℕ}
use Rattle.record.specs.Records.{TraceRecord}

-- "1 RangeCreated: .. A range, B floor, C parent, D generation"
pub record Created : Type 0 where
  pub range : ℕ
  pub floor : ℕ
  pub parent : ℕ
  pub generation : ℕ

abbrev pub created_by : TraceRecord → Created
created_by x = record { range = x.a; floor = x.b; parent = x.c; generation = x.d }

-- "2 RangeDescriptor: .. A range, B index, C applied, D generation"
pub record Descriptor : Type 0 where
  pub range : ℕ
  pub index : ℕ
  pub applied : ℕ
  pub generation : ℕ

abbrev pub descriptor_by : TraceRecord → Descriptor
descriptor_by x = record { range = x.a; index = x.b; applied = x.c; generation = x.d }

-- "3 RaftApply: .. A range, B index"
pub record Apply : Type 0 where
  pub range : ℕ
  pub index : ℕ

abbrev pub apply_by : TraceRecord → Apply
apply_by x = record { range = x.a; index = x.b }

-- "4 RaftRecovered: A range, B applied, C server"
pub record Recovered : Type 0 where
  pub range : ℕ
  pub applied : ℕ
  pub server : ℕ

abbrev pub recovered_by : TraceRecord → Recovered
recovered_by x = record { range = x.a; applied = x.b; server = x.c }

-- "12 MetaApplied: A range, B index, D generation"
pub record Meta : Type 0 where
  pub range : ℕ
  pub index : ℕ
  pub generation : ℕ

abbrev pub meta_by : TraceRecord → Meta
meta_by x = record { range = x.a; index = x.b; generation = x.d }

-- where a sentence speaks of several kinds at once: A is the range in every kind that has one, 1, 2, 3, 4, 7, 9 and 12 ..
abbrev pub range_of : TraceRecord → ℕ
range_of x = x.a

-- .. D is the generation in the kinds that have a value, 1 and 2 ..
abbrev pub generation_by : TraceRecord → ℕ
generation_by x = x.d

-- .. and B is what is applied by "kind 1 (floor), 3 (index) or 4 (applied)"
abbrev pub applied_by : TraceRecord → ℕ
applied_by x = x.b
