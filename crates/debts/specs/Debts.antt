-- The split by which a node comes to owe a right range at a record.
use Rattle.std.specs.Prelude.{Bool, true, ◌&&◌, List, ◌∷◌, ℕ, eqb, leb, ltb, Option, None, Some}
use Rattle.record.specs.Records.{TraceRecord}
use Rattle.rules.specs.History.{any_of, when, given, latest_of, greatest_of}
use Rattle.rules.specs.RightHalf.{Registered, is_split, registered, registers}
use Rattle.history.specs.Logs.{record_at, hist}
use Rattle.debts.specs.Walk.{owes_first}

-- ---- the splits of a right range with a server among their voters

abbrev pub is_right : ℕ → Registered → Bool
is_right right s = eqb s.right right

abbrev pub has_voter : ℕ → Registered → Bool
has_voter server s = any_of (λ v. eqb v server) s.voters

-- .. that x applies as a RangeSplit or a Took
abbrev pub is_applied : TraceRecord → ℕ → ℕ → Registered → Bool
is_applied x right server s = is_split x.a x.b s && is_right right s && has_voter server s

-- .. that x has applied as a RangeDescriptor
abbrev pub is_covered : TraceRecord → ℕ → ℕ → Registered → Bool
is_covered x right server s = eqb s.parent x.a && leb s.index x.c && is_right right s && has_voter server s

-- ---- which of them the record at a place makes owed

abbrev pub applied_split : List ℕ → ℕ → ℕ → ℕ → Option Registered
applied_split log at right server = latest_of (is_applied (record_at log at) right server) (registered (hist log at))

abbrev pub covered_split : List ℕ → ℕ → ℕ → ℕ → Option Registered
covered_split log at right server = greatest_of (λ s. s.index) (is_covered (record_at log at) right server) (registered (record_at log at ∷ hist log at))

-- the one that it registers, to a node that has applied it by then
abbrev pub first_split : List ℕ → ℕ → ℕ → ℕ → Option Registered
first_split log at node right = given (λ s. when (is_right right s && owes_first log at node (record_at log at)) s) (registers (record_at log at) (hist log at))

-- a split has a greater index than the best so far, if there is one
abbrev pub is_above : Option Registered → Registered → Bool
is_above None s = true
is_above (Some best) s = ltb best.index s.index
