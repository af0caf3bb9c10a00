-- The sizes and largest counts of the record form, document 01's "Records". The definitions of crates `record` and `form` name
-- them; those of the crates above spell document 01's 368.
use Rattle.std.specs.Prelude.{ℕ}

-- the bytes of a record, and of the place that holds one key
abbrev pub record_size : ℕ
record_size = 368

abbrev pub key_size : ℕ
key_size = 32

-- the most bytes a key can have, the most voters and the most spans a record can have
abbrev pub key_limit : ℕ
key_limit = 31

abbrev pub voter_limit : ℕ
voter_limit = 5

abbrev pub span_limit : ℕ
span_limit = 4

-- where the voters and the four spans begin: there are places for seven voters, and the last two stay zero
abbrev pub voters_at : ℕ
voters_at = 56

abbrev pub spans_at : ℕ
spans_at = 112
