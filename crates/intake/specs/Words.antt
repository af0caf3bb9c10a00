-- The work area's words: what the columns of every check hold after a history.
use Rattle.std.specs.Prelude.{◌≡◌, List, ◌∷◌, ℕ, length}
use Rattle.record.specs.Records.{TraceRecord}
use Rattle.rules.specs.History.{History}
use Rattle.descriptors.specs.Columns.{DescriptorsIndexed}
use Rattle.one_owner_per_key.specs.Columns.{OwnersIndexed}
use Rattle.firsts.specs.Columns.{FirstsIndexed}
use Rattle.ids_unique.specs.Columns.{IdsIndexed}
use Rattle.generations_rise.specs.Columns.{GenerationsIndexed}
use Rattle.splits.specs.Columns.{HalfIndexed}
use Rattle.meta_never_goes_back.specs.Columns.{MetaIndexed}

-- each of the 32 columns is what the history says, by the crate that owns it
pub record Indexed (cap : ℕ) (h : History) (work : List ℕ) : Type 0 where
  -- columns 0 to 8
  pub descriptors : DescriptorsIndexed cap h work
  -- 9 and 10, which two crates write
  pub firsts : FirstsIndexed cap h work
  -- 11 to 13
  pub generations : GenerationsIndexed cap h work
  -- 14 and 15
  pub ids : IdsIndexed cap h work
  -- 16 to 21
  pub owners : OwnersIndexed cap h work
  -- 22 to 26 and 28 to 31
  pub half : HalfIndexed cap h work
  -- 27
  pub meta : MetaIndexed cap h work

-- a record noted as the next: what the columns said they say with the record
pub record Noted (cap : ℕ) (h : History) (x : TraceRecord) (work work' : List ℕ) : Type 0 where
  pub len : length work' ≡ length work
  pub indexed : Indexed cap h work → Indexed cap (x ∷ h) work'
