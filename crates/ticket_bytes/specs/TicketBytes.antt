-- A ticket as the bytes that a host keeps between a preview and its commit, and the way back.
use Rattle.std.specs.Prelude.{Bool, ◌&&◌, List, ◌++◌, ℕ, ◌+◌, length, drop, eqb, leb}
use Rattle.record.specs.Numbers.{bytes_of, number64}

-- the bytes of the count, and of a ticket
abbrev pub count_size : ℕ
count_size = 8

abbrev pub ticket_size : ℕ
ticket_size = count_size + 368

-- a ticket's bytes: the count, little-endian, then the record
unfoldable pub ticket_bytes : ℕ → List ℕ → List ℕ
ticket_bytes count rec = bytes_of count_size count ++ rec

-- the way back: bytes that are long enough for a count have one, and what follows it is the record
abbrev pub has_count : List ℕ → Bool
has_count bytes = leb count_size (length bytes)

abbrev pub count_in : List ℕ → ℕ
count_in bytes = number64 0 bytes

abbrev pub record_in : List ℕ → List ℕ
record_in bytes = drop count_size bytes

-- a ticket's count is this one
unfoldable pub is_current : List ℕ → ℕ → Bool
is_current bytes count = has_count bytes && eqb (count_in bytes) count
