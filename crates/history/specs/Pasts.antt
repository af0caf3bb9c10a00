-- The records taken so far, as a look-back is lent them, and walks along their chains.
use Rattle.std.specs.Prelude.{◌≡◌, List, ℕ, ◌+◌, ◌-◌, ◌*◌, ◌<◌, ◌≤◌, get_or, Option, Some, None, MatchOption, ⊤}
use Rattle.record.specs.Numbers.{part}
use Rattle.rules.specs.History.{History}
use Rattle.history.specs.declared.past.Past.{Past}
use Rattle.history.specs.declared.walk.Chain.{Chain}
use Rattle.history.specs.declared.walk.Taken.{Taken}
use Rattle.history.specs.Logs.{bytes_at, hist}
use Rattle.history.specs.Columns.{clamp}

-- the records taken, newest first
abbrev pub taken : Past → History
taken p = hist p.log.now p.count

-- the columns of the work area are what the records taken say
abbrev pub Indexed : (ℕ → History → List ℕ → Type 0) → Past → Type 0
Indexed I p = I p.cap (taken p) p.work.now

-- the number of what was found, 0 where that is nothing
abbrev pub number_of : Option Taken → ℕ
number_of None = 0
number_of (Some x) = x.number

-- a record that was taken, with its number
pub record IsTaken (p : Past) (x : Taken) : Type 0 where
  pub some : 0 < x.number
  pub within : x.number ≤ p.count
  pub bytes : x.record.now ≡ bytes_at (x.number - 1) p.log.now

-- what was found is one of the records taken, or nothing
abbrev pub IsFound : Past → Option Taken → Type 0
IsFound p r = MatchOption r ⊤ (IsTaken p)

-- the chain of a bucket, from its newest record on
pub record Begins (p : Past) (tops downs bucket : ℕ) (c : Chain) : Type 0 where
  pub log : c.log ≡ p.log
  pub links : c.links.now ≡ part (downs * p.cap) ((downs + 1) * p.cap) p.work.now
  pub next : c.next ≡ clamp (get_or p.work.now (tops * p.cap + bucket) 0) p.count

-- a chain goes on: its next record, and from that one's link the one before it in its bucket
pub record Goes (s : Chain) (x : Taken) (t : Chain) : Type 0 where
  pub some : 0 < s.next
  pub number : x.number ≡ s.next
  pub bytes : x.record.now ≡ bytes_at (s.next - 1) s.log.now
  pub log : t.log ≡ s.log
  pub links : t.links ≡ s.links
  pub next : t.next ≡ clamp (get_or s.links.now (s.next - 1) 0) (s.next - 1)

abbrev pub Steps : Chain → Option Taken → Chain → Type 0
Steps s r t = MatchOption r ((s.next ≡ 0) × (t ≡ s)) (λ x. Goes s x t)
