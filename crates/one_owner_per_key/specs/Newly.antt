-- The records at which a node newly held a range since its latest end, as a walk goes down to them.
use Rattle.std.specs.Prelude.{◌≡◌, ℕ, ◌-◌, ◌<◌, ◌≤◌, Option, MatchOption}
use Rattle.history.specs.declared.past.Past.{Past}
use Rattle.history.specs.declared.walk.Taken.{Taken}
use Rattle.history.specs.Logs.{bytes_at}
use Rattle.history.specs.Pasts.{taken, Indexed}
use Rattle.one_owner_per_key.specs.declared.newly.NewlyHeld.{NewlyHeld}
use Rattle.one_owner_per_key.specs.Numbers.{latest_end, latest_newly}
use Rattle.one_owner_per_key.specs.Columns.{OwnersIndexed, before_in}

-- from the latest one of a node, and down to its latest end
pub record SinceEnd (p : Past) (node : ℕ) (s : NewlyHeld) : Type 0 where
  pub past : s.past ≡ p
  pub latest : Indexed OwnersIndexed p → s.next ≡ latest_newly node (taken p)
  pub ended : Indexed OwnersIndexed p → s.ended ≡ latest_end node (taken p)

-- the next one, and by its word the one before it
pub record Goes (s : NewlyHeld) (x : Taken) (t : NewlyHeld) : Type 0 where
  pub some : s.ended < s.next
  pub number : x.number ≡ s.next
  pub bytes : x.record.now ≡ bytes_at (s.next - 1) s.past.log.now
  pub past : t.past ≡ s.past
  pub ended : t.ended ≡ s.ended
  pub next : t.next ≡ before_in s.past.work.now s.past.cap s.next

abbrev pub Steps : NewlyHeld → Option Taken → NewlyHeld → Type 0
Steps s r t = MatchOption r (s.next ≤ s.ended) (λ x. Goes s x t)
