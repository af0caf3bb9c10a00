-- The kinds of records as data: which values and which places each uses, a row for each kind of document 01's "Records".
use Rattle.std.specs.Prelude.{Bool, true, false, List, [], ◌∷◌, ℕ, get_or, Option, Some, None}
use Rattle.form.specs.declared.kind.Values.{Values}
use Rattle.form.specs.declared.kind.Numbers.{Numbers}
use Rattle.form.specs.declared.kind.Shape.{Shape}
use Rattle.record.specs.Limits.{voter_limit, span_limit}

-- the values from low to high; "0 alone where it has none"
abbrev pub values : ℕ → ℕ → Values
values low high = record { low = low; high = high }

abbrev pub zero_alone : Values
zero_alone = values 0 0

abbrev pub numbers : Bool → Bool → Bool → Bool → Bool → Numbers
numbers a b c d e = record { a = a; b = b; c = c; d = d; e = e }

-- a kind that uses numbers and nothing else
abbrev pub plain : Numbers → Shape
plain n = record { codes = zero_alone; flags = zero_alone; voters = zero_alone; spans = zero_alone; numbers = n; parent = false; ends = true }

-- 1 RangeCreated: three causes; the flag if a parent; range, floor, parent with the flag, generation; voters; one span
abbrev pub created : Shape
created = record {
  codes = values 1 3;
  flags = values 0 1;
  voters = values 0 voter_limit;
  spans = values 1 1;
  numbers = numbers true true true true false;
  parent = true;
  ends = true;
}

-- 2 RangeDescriptor: three states; range, index, applied, generation; voters; one span
abbrev pub descriptor : Shape
descriptor = record {
  codes = values 1 3;
  flags = zero_alone;
  voters = values 0 voter_limit;
  spans = values 1 1;
  numbers = numbers true true true true false;
  parent = false;
  ends = true;
}

-- 3 RaftApply: seven effects; range, index; one span with the key as start and no end, or none
abbrev pub apply : Shape
apply = record {
  codes = values 1 7;
  flags = zero_alone;
  voters = zero_alone;
  spans = values 0 1;
  numbers = numbers true true false false false;
  parent = false;
  ends = false;
}

-- 8 SpanInstalled: none to four spans
abbrev pub installed : Shape
installed = record {
  codes = zero_alone;
  flags = zero_alone;
  voters = zero_alone;
  spans = values 0 span_limit;
  numbers = numbers false false false false false;
  parent = false;
  ends = true;
}

-- 12 MetaApplied: the flag if it continues an event; range, index, generation; voters; the descriptor's span, then a won one or none
abbrev pub meta_applied : Shape
meta_applied = record {
  codes = zero_alone;
  flags = values 0 1;
  voters = values 0 voter_limit;
  spans = values 1 2;
  numbers = numbers true true false true false;
  parent = false;
  ends = true;
}

-- what a number's kind may have, where it is one of a kind
abbrev pub Shaped : Type 0
Shaped = Option Shape

-- the kinds by their number, from 0, which is none
abbrev pub shapes : List Shaped
shapes =
    None ∷
    Some created ∷
    Some descriptor ∷
    Some apply ∷
    -- 4 RaftRecovered: range, applied, server; 5 RangesRestated and 6 NodeCrashed: nothing
    Some (plain (numbers true true true false false)) ∷
    Some (plain (numbers false false false false false)) ∷
    Some (plain (numbers false false false false false)) ∷
    -- 7 RangeSplit: range, index, right
    Some (plain (numbers true true true false false)) ∷
    Some installed ∷
    -- 9 RangeRemoved: range; 10 RaftRefused: nothing
    Some (plain (numbers true false false false false)) ∷
    Some (plain (numbers false false false false false)) ∷
    -- 11 RangeIdsLeased: node, index, run, first, last
    Some (plain (numbers true true true true true)) ∷
    Some meta_applied ∷
    []

-- "Every kind is decided by its number alone"
abbrev pub shape_of : ℕ → Shaped
shape_of kind = get_or shapes kind None
