-- The columns of `GenerationsRise`: the writes of a key that count and have a generation, and that generation. What they hold, and
-- what a note promises.
use Rattle.std.specs.Prelude.{◌≡◌, true, false, List, ◌∷◌, ℕ, ◌+◌, ◌-◌, ◌*◌, ◌%◌, ◌≤◌, ◌<◌, length, drop, get_or, fold, Some}
use Rattle.record.specs.Keys.{Key, key_eqb}
use Rattle.record.specs.Records.{TraceRecord}
use Rattle.rules.specs.History.{History, Tells, is_kind, when, given, is_some}
use Rattle.rules.specs.GenerationsRise.{Write, last_generation}
use Rattle.history.specs.Buckets.{bucket_by_two}
use Rattle.history.specs.Columns.{Column, cell_of, latest_in, Chained}
use Rattle.history.specs.Places.{first_heads, key_heads, key_links, written_at, block_links}
use Rattle.firsts.specs.Columns.{first_write, FirstsIndexed}
use Rattle.descriptors.specs.Columns.{DescriptorsIndexed}
use Rattle.generations_rise.specs.declared.write.Written.{Written}
use Rattle.generations_rise.specs.declared.write.Written.TheVariants.{Not}
use Rattle.generations_rise.specs.Answers.{written_as}

-- the write of a record, where it counts and has a generation
unfoldable pub rated_write : Tells Write
rated_write x h = given (λ w. when (is_some w.generation) w) (first_write x h)

-- a key's last eight bytes as a number, the last counting least
abbrev pub rolled : ℕ → ℕ → ℕ
rolled n b = n % 72057594037927936 * 256 + b

abbrev pub key_number : Key → ℕ
key_number key = fold rolled 0 (drop (length key - 8) key)

-- a key's bucket, by its length and its end
unfoldable pub bucket_by_key : ℕ → Key → ℕ
bucket_by_key cap key = bucket_by_two cap (length key) (key_number key)

unfoldable pub key_bucket : ℕ → Tells ℕ
key_bucket cap x h = given (λ w. Some (bucket_by_key cap w.key)) (rated_write x h)

-- the generation of such a write, 0 for any other record
unfoldable pub generation_by : TraceRecord → History → ℕ
generation_by x h = last_generation (given (λ w. w.generation) (first_write x h))

-- the columns of `GenerationsRise` are what the history says
pub record GenerationsIndexed (cap : ℕ) (h : History) (work : List ℕ) : Type 0 where
  pub keys : Chained (key_bucket cap) (key_heads * cap) (key_links * cap) cap h work
  pub written : Column (cell_of generation_by h) (written_at * cap) cap work

-- the number of the record with a key's last such write, 0 where there is none
unfoldable pub writes_key : Key → Tells ℕ
writes_key key x h = given (λ w. when (key_eqb w.key key) 0) (rated_write x h)

abbrev pub last_write_at : Key → History → ℕ
last_write_at key h = latest_in (writes_key key) h 0

-- the columns of `GenerationsRise` one record on, where w is what the record's write counts as; and for a RaftApply the chain
-- of the firsts, into which `IdsUnique` enters the others
pub record GenerationsNoted (cap : ℕ) (h : History) (x : TraceRecord) (w : Written) (work work' : List ℕ) : Type 0 where
  pub len : length work' ≡ length work
  pub below : (j : ℕ) → j < first_heads * cap → get_or work' j 0 ≡ get_or work j 0
  pub above : (j : ℕ) → block_links * cap ≤ j → get_or work' j 0 ≡ get_or work j 0
  pub generations : w ≡ written_as x h → GenerationsIndexed cap h work → GenerationsIndexed cap (x ∷ h) work'
  pub firsts : is_kind 3 x ≡ true → w ≡ written_as x h → FirstsIndexed cap h work → FirstsIndexed cap (x ∷ h) work'
  pub firsts_kept : w ≡ Not → (j : ℕ) → get_or work' j 0 ≡ get_or work j 0

-- the same, with what the record's write counts as found from the columns
pub record GenerationsTaken (cap : ℕ) (h : History) (x : TraceRecord) (work work' : List ℕ) : Type 0 where
  pub len : length work' ≡ length work
  pub below : (j : ℕ) → j < first_heads * cap → get_or work' j 0 ≡ get_or work j 0
  pub above : (j : ℕ) → block_links * cap ≤ j → get_or work' j 0 ≡ get_or work j 0
  pub generations : (is_kind 3 x ≡ true → FirstsIndexed cap h work × DescriptorsIndexed cap h work) → GenerationsIndexed cap h work
      → GenerationsIndexed cap (x ∷ h) work'
  pub firsts : is_kind 3 x ≡ true → FirstsIndexed cap h work → DescriptorsIndexed cap h work → FirstsIndexed cap (x ∷ h) work'
  pub firsts_kept : is_kind 3 x ≡ false → (j : ℕ) → get_or work' j 0 ≡ get_or work j 0
