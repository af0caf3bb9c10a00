-- The ranges that a record's span may not meet, and those below the lowest so far.
use Rattle.std.specs.Prelude.{Bool, true, not, List, ℕ, eqb, ltb, Option, None, Some}
use Rattle.record.specs.Records.{Span}
use Rattle.rules.specs.OneOwnerPerKey.{is_named}
use Rattle.one_owner_per_key.specs.declared.meeting.Others.{Others}
use Rattle.one_owner_per_key.specs.declared.meeting.Others.TheVariants.{Than, NotNamed}

-- overlap looks at the ranges other than the record's own, install at those that no start in the record names
abbrev pub passes : Others → List Span → ℕ → Bool
passes (Than own) ss r = not (eqb r own)
passes (NotNamed tenant) ss r = not (is_named tenant ss r)

-- a range is below the lowest so far
abbrev pub is_below : ℕ → Option ℕ → Bool
is_below r None = true
is_below r (Some b) = ltb r b
