-- What the columns of `Descriptors` hold: chains of the records that tell the applied indexes, put standing values, state
-- values, and put the first value of a generation; and a word for each record: the counts after it, and a mark. What a new record
-- changes in them.
use Rattle.std.specs.Prelude.{◌≡◌, Bool, true, false, cond, not, ◌&&◌, ◌||◌, List, ◌∷◌, ℕ, ◌+◌, ◌*◌, ◌/◌, eqb, leb, Option, None, Some, option_map}
use Rattle.std.specs.Bool.{then_some}
use Rattle.record.specs.Named.{Node}
use Rattle.record.specs.Records.{TraceRecord, decode}
use Rattle.rules.specs.History.{History, Tells, is_kind, is_some, when, given, holds, any_of}
use Rattle.rules.specs.Descriptors.{Entry, held_by, tells_put, tells_stated, same_place, standing, statements, is_empty}
use Rattle.history.specs.Buckets.{bucket_by, bucket_by_two}
use Rattle.history.specs.Columns.{Column, cell_of, Chained, EnteredIf}
use Rattle.history.specs.Places.{applied_heads, applied_links, standing_heads, standing_links, stated_heads, stated_links, generation_heads, generation_links, counts}
use Rattle.history.specs.declared.walk.Taken.{Taken}
use Rattle.descriptors.specs.declared.note.Added.{Added}
use Rattle.descriptors.specs.declared.note.Told.{Told}
use Rattle.descriptors.specs.declared.note.Told.TheVariants.{Puts, States, Neither}

-- the value that a record puts, where none stood at its place
unfoldable pub new_value : Tells Entry
new_value x h = given (λ p. cond (any_of (same_place p) (standing h)) None (Some p)) (tells_put x h)

abbrev pub same_generation : Entry → Entry → Bool
same_generation v w = eqb w.range v.range && eqb w.held.generation v.held.generation

-- the same where it is the first of its range and generation
unfoldable pub first_value : Tells Entry
first_value x h = given (λ p. cond (any_of (same_generation p) (standing h)) None (Some p)) (new_value x h)

-- the records that tell an applied index, by node and range
abbrev pub applied_at : ℕ → TraceRecord → Node → Option ℕ
applied_at cap x None = None
applied_at cap x (Some n) = when (is_kind 1 x || is_kind 3 x || is_kind 4 x) (bucket_by_two cap n.0 x.a)

unfoldable pub applied_bucket : ℕ → Tells ℕ
applied_bucket cap x h = applied_at cap x x.node

-- the records whose values stand, by range; those that state, by range; those that put the first value of a generation
abbrev pub by_range : ℕ → Entry → Option ℕ
by_range cap v = Some (bucket_by cap v.range)

abbrev pub by_generation : ℕ → Entry → Option ℕ
by_generation cap v = Some (bucket_by_two cap v.range v.held.generation)

unfoldable pub standing_bucket : ℕ → Tells ℕ
standing_bucket cap x h = given (by_range cap) (new_value x h)

unfoldable pub stated_bucket : ℕ → Tells ℕ
stated_bucket cap x h = given (by_range cap) (tells_stated x h)

unfoldable pub generation_bucket : ℕ → Tells ℕ
generation_bucket cap x h = given (by_generation cap) (first_value x h)

-- the counts after a record: twice the statements, and one more where a value stands
unfoldable pub counts_of : History → ℕ
counts_of h = 2 * statements h + cond (is_empty h) 0 1

-- a value of p's range at an index not below p's
abbrev pub not_below : Entry → Entry → Bool
not_below p v = eqb v.range p.range && leb p.index v.index

-- the record puts a new value, at an index above that of every standing value of its range
unfoldable pub is_rising : TraceRecord → History → Bool
is_rising x h = holds (λ p. not (any_of (not_below p) (standing h))) (new_value x h)

-- the word of a record: the counts, which are below 16384, and above them the mark of a value that rises
abbrev pub counts_after : TraceRecord → History → ℕ
counts_after x h = counts_of (x ∷ h) + cond (is_rising x h) 16384 0

-- the columns of `Descriptors` are what the history says
pub record DescriptorsIndexed (cap : ℕ) (h : History) (work : List ℕ) : Type 0 where
  pub applied : Chained (applied_bucket cap) (applied_heads * cap) (applied_links * cap) cap h work
  pub standing : Chained (standing_bucket cap) (standing_heads * cap) (standing_links * cap) cap h work
  pub stated : Chained (stated_bucket cap) (stated_heads * cap) (stated_links * cap) cap h work
  pub generation : Chained (generation_bucket cap) (generation_heads * cap) (generation_links * cap) cap h work
  pub counts : Column (cell_of counts_after h) (counts * cap) cap work

-- the value that a record taken puts, with the record's number
abbrev pub put_entry : Taken → Entry
put_entry y = record { range = (decode y.record.now).a; index = (decode y.record.now).b; held = held_by (decode y.record.now); number = y.number }

-- the one that it states: a RangeCreated at its floor, a RangeDescriptor at its applied index
abbrev pub stated_index : TraceRecord → ℕ
stated_index x = cond (is_kind 1 x) x.b x.c

abbrev pub stated_entry : Taken → Entry
stated_entry y = record {
  range = (decode y.record.now).a;
  index = stated_index (decode y.record.now);
  held = held_by (decode y.record.now);
  number = y.number;
}

-- the value or the statement of the record that was found
abbrev pub put : Option Taken → Option Entry
put o = option_map put_entry o

abbrev pub statement : Option Taken → Option Entry
statement o = option_map stated_entry o

-- ---- what a new record changes

-- what a record is told to do: whether it puts, and what its value is where that newly stands; whether it states
abbrev pub puts_value : Told → Bool
puts_value (Puts a) = true
puts_value States = false
puts_value Neither = false

abbrev pub added : Told → Option Added
added (Puts a) = a
added States = None
added Neither = None

abbrev pub states_value : Told → Bool
states_value (Puts a) = false
states_value States = true
states_value Neither = false

abbrev pub adds_first : Told → Bool
adds_first t = holds (λ a. a.first) (added t)

abbrev pub adds_rising : Told → Bool
adds_rising t = holds (λ a. a.rises) (added t)

-- what a record is told to do is what it does
pub record Telling (x : TraceRecord) (h : History) (t : Told) : Type 0 where
  pub puts : puts_value t ≡ is_some (tells_put x h)
  pub states : states_value t ≡ is_some (tells_stated x h)
  pub stands : is_some (added t) ≡ is_some (new_value x h)
  pub first : adds_first t ≡ is_some (first_value x h)
  pub rises : adds_rising t ≡ is_rising x h

-- the four chains, one after the other
pub record AllEntered (work work' : List ℕ) (count cap : ℕ) (x : TraceRecord) (t : Told) : Type 0 where
  pub work1 : List ℕ
  pub work2 : List ℕ
  pub work3 : List ℕ
  pub entered_by_node : EnteredIf work work1 (applied_heads * cap) (applied_links * cap) count (applied_at cap x x.node)
  pub entered_by_range : EnteredIf work1 work2 (standing_heads * cap) (standing_links * cap) count (then_some (is_some (added t)) (bucket_by cap x.a))
  pub entered_by_statement : EnteredIf work2 work3 (stated_heads * cap) (stated_links * cap) count (then_some (states_value t) (bucket_by cap x.a))
  pub entered_by_generation :
      EnteredIf work3 work' (generation_heads * cap) (generation_links * cap) count (then_some (adds_first t) (bucket_by_two cap x.a x.d))

-- the counts after a record
abbrev pub counts_next : ℕ → Bool → Bool → ℕ
counts_next old puts states = cond states (old + 2) (cond puts (old / 2 * 2 + 1) old)

-- how many columns the crate has: they are the first, up to that of the counts
abbrev pub own_columns : ℕ
own_columns = 9
