-- The registered splits, as a look-back finds them and as a walk over them gives them.
use Rattle.std.specs.Prelude.{◌≡◌, true, ℕ, ◌-◌, ◌<◌, ◌≤◌, Option, Some, None, MatchOption, ⊤}
use Rattle.record.specs.Records.{decode}
use Rattle.rules.specs.RightHalf.{Registered, registers}
use Rattle.history.specs.declared.past.Past.{Past}
use Rattle.history.specs.declared.walk.Taken.{Taken}
use Rattle.history.specs.Logs.{bytes_at, record_at, hist}
use Rattle.history.specs.Pasts.{Indexed}
use Rattle.splits.specs.declared.split.Split.{Split}
use Rattle.splits.specs.declared.walk.Splits.{Splits}
use Rattle.splits.specs.Numbers.{is_registering}
use Rattle.splits.specs.Splits.{parent_by}
use Rattle.splits.specs.Columns.{Known, registering_in}

-- the split that is found: its parent, index and voters are those of the record
abbrev pub split_of : Split → Registered
split_of x = record { parent = parent_by (decode x.record.now); index = (decode x.record.now).b; right = x.right; voters = (decode x.record.now).voters }

-- the record that registered it, with its number
abbrev pub taken_of : Split → Taken
taken_of x = record { number = x.number; «record» = x.record }

-- the number of the record that registered what was found, 0 where that is nothing
abbrev pub number_by : Option Split → ℕ
number_by None = 0
number_by (Some x) = x.number

-- a split that one of the records taken registered
pub record IsSplit (p : Past) (x : Split) : Type 0 where
  pub some : 0 < x.number
  pub within : x.number ≤ p.count
  pub bytes : x.record.now ≡ bytes_at (x.number - 1) p.log.now
  pub is : Indexed Known p → registers (record_at p.log.now (x.number - 1)) (hist p.log.now (x.number - 1)) ≡ Some (split_of x)

-- what was found is such a split, or nothing
abbrev pub AreSplit : Past → Option Split → Type 0
AreSplit p r = MatchOption r ⊤ (IsSplit p)

-- those of the first n records taken
pub record UpTo (p : Past) (n : ℕ) (s : Splits) : Type 0 where
  pub past : s.past ≡ p
  pub next : s.next ≡ registering_in p.work.now p.cap n

-- the next one, and by its word the registering record before it
pub record Goes (s : Splits) (x : Split) (t : Splits) : Type 0 where
  pub some : 0 < s.next
  pub number : x.number ≡ s.next
  pub split : IsSplit s.past x
  pub past : t.past ≡ s.past
  pub next : t.next ≡ registering_in s.past.work.now s.past.cap (s.next - 1)

-- the record at hand registers a split, if there is one
abbrev pub Registers : Splits → Type 0
Registers s = 0 < s.next → is_registering (record_at s.past.log.now (s.next - 1)) (hist s.past.log.now (s.next - 1)) ≡ true

abbrev pub Steps : Splits → Option Split → Splits → Type 0
Steps s r t = MatchOption r (Indexed Known s.past → Registers s → s.next ≡ 0) (λ x. Goes s x t)
