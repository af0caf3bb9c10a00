-- The decoded record: what the 368 bytes say.
use Rattle.std.specs.Prelude.{cond, List, [], ◌∷◌, ℕ, zero, suc, ◌+◌, min, eqb, Some, None}
use Rattle.record.specs.Named.{Node}
use Rattle.record.specs.Limits.{voter_limit, span_limit, voters_at, spans_at}
use Rattle.record.specs.Numbers.{part, byte_at, number32, number64}
use Rattle.record.specs.Keys.{Key, key_in}

-- "A span is two 32-byte keys, start and end"
pub record Span : Type 0 where
  pub start : Key
  pub end : Key

-- a record: kind, the marked node, sub-code, flag, the five numbers, the voters and the spans
pub record TraceRecord : Type 0 where
  pub kind : ℕ
  pub node : Node
  pub code : ℕ
  pub flag : ℕ
  pub a : ℕ
  pub b : ℕ
  pub c : ℕ
  pub d : ℕ
  pub e : ℕ
  pub voters : List ℕ
  pub spans : List Span

-- "1 node mark; 4 to 7 node"
unfoldable pub node_in : List ℕ → Node
node_in s = cond (eqb (byte_at 1 s) 1) (Some (record { 0 = number32 4 s })) None

-- n numbers of 64 bits, the first at p
unfoldable pub numbers_from : ℕ → ℕ → List ℕ → List ℕ
numbers_from p zero s = []
numbers_from p (suc n) s = number64 p s ∷ numbers_from (p + 8) n s

-- "48 voter count; seven 64-bit voters from 56", "at most five": the counted ones, and never more than the limit
abbrev pub voter_count : List ℕ → ℕ
voter_count s = min voter_limit (byte_at 48 s)

unfoldable pub voters_in : List ℕ → List ℕ
voters_in s = numbers_from voters_at (voter_count s) s

-- the span at p: its start's place, then its end's
abbrev pub span_at : ℕ → List ℕ → Span
span_at p s = record { start = key_in (part p (p + 32) s); end = key_in (part (p + 32) (p + 64) s) }

-- n spans, the first at p
unfoldable pub spans_from : ℕ → ℕ → List ℕ → List Span
spans_from p zero s = []
spans_from p (suc n) s = span_at p s ∷ spans_from (p + 64) n s

-- "49 span count; four spans from 112": the counted ones, and never more than there is room for
abbrev pub span_count : List ℕ → ℕ
span_count s = min span_limit (byte_at 49 s)

unfoldable pub spans_in : List ℕ → List Span
spans_in s = spans_from spans_at (span_count s) s

-- the record in 368 bytes; "five 64-bit numbers A to E from byte 8"
unfoldable pub decode : List ℕ → TraceRecord
decode s = record {
  kind = byte_at 0 s;
  node = node_in s;
  code = byte_at 2 s;
  flag = byte_at 3 s;
  a = number64 8 s;
  b = number64 16 s;
  c = number64 24 s;
  d = number64 32 s;
  e = number64 40 s;
  voters = voters_in s;
  spans = spans_in s;
}
