-- The parts of the check: the names of records taken and a walk along them, the name that stands after one more, the next end of
-- a name above a key, the names that can be in conflict with a new one, and those that cover it.
use Rattle.std.specs.Prelude.{◌≡◌, Bool, cond, not, ◌&&◌, ◌||◌, ◌-◌, ◌<◌, ltb, leb, Option, MatchOption, option_map}
use Rattle.record.specs.Keys.{Key, key_ltb}
use Rattle.record.specs.Records.{TraceRecord, decode}
use Rattle.rules.specs.Descriptors.{span_of}
use Rattle.rules.specs.MetaNeverGoesBack.{Name, name_by, covers}
use Rattle.history.specs.declared.walk.Taken.{Taken}
use Rattle.history.specs.Logs.{bytes_at}
use Rattle.history.specs.Weighing.{greatest_step}
use Rattle.meta_never_goes_back.specs.declared.names.Names.{Names}
use Rattle.meta_never_goes_back.specs.Columns.{name_before}

-- the name that a record taken gives, and the one of the record that was found
abbrev pub named_by : Taken → Name
named_by y = name_by (decode y.record.now)

abbrev pub named : Option Taken → Option Name
named o = option_map named_by o

-- a walk along the names goes on: its next name, and from the word before that one's place the name before it
pub record NameGoes (s : Names) (x : Taken) (t : Names) : Type 0 where
  pub some : 0 < s.next
  pub number : x.number ≡ s.next
  pub bytes : x.record.now ≡ bytes_at (s.next - 1) s.past.log.now
  pub past : t.past ≡ s.past
  pub next : t.next ≡ name_before s.past.cap s.past.work.now (s.next - 1)

abbrev pub NameSteps : Names → Option Taken → Names → Type 0
NameSteps s r t = MatchOption r ((s.next ≡ 0) × (t ≡ s)) (λ x. NameGoes s x t)

-- the name that stands at a key when one more, earlier than those so far, is looked at: of equal indexes the earlier
abbrev pub stood_with : Key → Option Name → Name → Option Name
stood_with k best n = greatest_step (λ (m : Name). m.index) (covers k) best n

-- of two keys the lower that is above c, b where x is not
abbrev pub pull : Key → Key → Key → Key
pull c x b = cond (key_ltb c x && key_ltb x b) x b

-- an earlier name whose numbers alone would be a fault: a lower index with a higher generation, or an index not lower
-- with a lower generation ..
abbrev pub against : TraceRecord → Name → Bool
against x n = (ltb n.index x.b && ltb x.d n.generation) || (leb x.b n.index && ltb n.generation x.d)

-- .. whose span meets the won span
abbrev pub meets : TraceRecord → Name → Bool
meets x n = key_ltb n.start (span_of 1 x).end && key_ltb (span_of 1 x).start n.end

-- only such a name can be in conflict with a won key
abbrev pub opposes : TraceRecord → Name → Bool
opposes x n = against x n && meets x n

-- an earlier name neither of whose numbers is lower ..
abbrev pub not_lower : TraceRecord → Name → Bool
not_lower x n = leb x.b n.index && leb x.d n.generation

-- .. whose span has all the won keys
abbrev pub contains : TraceRecord → Name → Bool
contains x n = not (key_ltb (span_of 1 x).start n.start) && not (key_ltb n.end (span_of 1 x).end)

-- while the report is a pass, no key of a won span that such a name covers is in conflict
abbrev pub covers_all : TraceRecord → Name → Bool
covers_all x n = not_lower x n && contains x n
