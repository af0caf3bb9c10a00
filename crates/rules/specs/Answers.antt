-- What a look-up answers for the number of the record that it found.
use Rattle.std.specs.Prelude.{ℕ, zero, suc, Option, Some, None}

-- the number of a record that was found, or nothing
abbrev pub Found : Type 0
Found = Option ℕ

-- the record with a number, nothing for 0
abbrev pub found_at : ℕ → Found
found_at zero = None
found_at (suc k) = Some (suc k)
