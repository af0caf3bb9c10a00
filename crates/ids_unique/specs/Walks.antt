-- A walk from block to block, newest first.
use Rattle.std.specs.Prelude.{◌≡◌, ◌-◌, ◌*◌, ◌≤◌, drop}
use Rattle.history.specs.declared.past.Past.{Past}
use Rattle.history.specs.declared.walk.Chain.{Chain}
use Rattle.history.specs.Pasts.{taken, Indexed}
use Rattle.history.specs.Places.{block_links}
use Rattle.ids_unique.specs.Columns.{latest_block, IdsIndexed}

-- a walk from the latest block on: the word of the latest block as of n records is at n
pub record FromLatest (p : Past) (c : Chain) : Type 0 where
  pub log : c.log ≡ p.log
  pub links : c.links.now ≡ drop (block_links * p.cap - 1) p.work.now
  pub within : c.next ≤ p.count
  pub latest : Indexed IdsIndexed p → c.next ≡ latest_block (taken p)
