-- The split that a record registers, as the code reads it: from the record itself and the record that names its right range.
use Rattle.std.specs.Prelude.{cond, List, ℕ, ◌-◌, eqb, Option, None, Some}
use Rattle.record.specs.Records.{TraceRecord}
use Rattle.rules.specs.History.{is_kind}
use Rattle.rules.specs.RightHalf.{Registered}
use Rattle.history.specs.Logs.{record_at}

-- the parent: kind 1 names it, kind 2 is its own
abbrev pub parent_by : TraceRecord → ℕ
parent_by y = cond (is_kind 1 y) y.c y.a

-- the right range: kind 1 is its own, and for kind 2 the RangeSplit z names it
abbrev pub right_named : TraceRecord → TraceRecord → ℕ
right_named y z = cond (is_kind 1 y) y.a z.c

-- .. which is the record with the number m
abbrev pub right_by : List ℕ → TraceRecord → ℕ → ℕ
right_by log y m = right_named y (record_at log (m - 1))

abbrev pub split_with : List ℕ → TraceRecord → ℕ → Registered
split_with log y m = record { parent = parent_by y; index = y.b; right = right_by log y m; voters = y.voters }

-- .. where it is named
abbrev pub split_as : List ℕ → TraceRecord → ℕ → Option Registered
split_as log y m = cond (eqb m 0) None (Some (split_with log y m))
