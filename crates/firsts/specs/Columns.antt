-- The chain of the firsts, which `IdsUnique` and `GenerationsRise` share: the records with a first grant, by its index, and
-- those with a write that counts, by its range and index. What its two columns hold, and what entering a record promises.
use Rattle.std.specs.Prelude.{◌≡◌, Bool, true, cond, ◌&&◌, List, ◌∷◌, ℕ, ◌*◌, ◌≤◌, ◌<◌, length, get_or, eqb, None, Some}
use Rattle.record.specs.Records.{TraceRecord}
use Rattle.rules.specs.History.{History, Tells, or_else, given, is_some, any_of}
use Rattle.rules.specs.Descriptors.{span_of, before}
use Rattle.rules.specs.IdsUnique.{Grant, tells_grant, same_index, first_grants}
use Rattle.rules.specs.GenerationsRise.{Write, generation_of, tells_write, same_write, writes}
use Rattle.history.specs.Buckets.{bucket_by, bucket_by_two}
use Rattle.history.specs.Columns.{latest_in, Chained}
use Rattle.history.specs.Places.{first_heads, first_links, key_heads}

-- the grant of a record, where it is "the first at its index"
unfoldable pub first_grant : Tells Grant
first_grant x h = given (λ g. cond (any_of (same_index g) (first_grants h)) None (Some g)) (tells_grant x h)

-- the write of a record, where it is "The first Applied write with a key at" its range and index
unfoldable pub first_write : Tells Write
first_write x h = given (λ w. cond (any_of (same_write w) (writes h)) None (Some w)) (tells_write x h)

-- the bucket of a first grant or of a write that counts: no record has both
unfoldable pub first_bucket : ℕ → Tells ℕ
first_bucket cap x h =
    or_else (given (λ g. Some (bucket_by cap g.index)) (first_grant x h))
    (given (λ w. Some (bucket_by_two cap w.range w.index)) (first_write x h))

-- the columns of the firsts are what the history says
abbrev pub FirstsIndexed : ℕ → History → List ℕ → Type 0
FirstsIndexed cap h work = Chained (first_bucket cap) (first_heads * cap) (first_links * cap) cap h work

-- the index of a first grant; so the number of the record with the first grant at an index, 0 where there is none
unfoldable pub grant_index : Tells ℕ
grant_index x h = given (λ g. Some g.index) (first_grant x h)

abbrev pub first_grant_at : ℕ → History → ℕ
first_grant_at index h = latest_in grant_index h index

-- the write of a record, whether it counts or not
abbrev pub write_of : TraceRecord → History → Write
write_of x h = record { range = x.a; index = x.b; key = (span_of 0 x).start; generation = generation_of (before x.a x.b h) }

-- a write at a range and index
abbrev pub placed : ℕ → ℕ → Write → Bool
placed range index o = eqb range o.range && eqb index o.index

-- a record entered after count others: no other column changes, and the chain is one record on where the record has what
-- it was entered for, a first grant or a write that counts
pub record FirstEntered {A : Type 0} (tells : Tells A) (cap count : ℕ) (x : TraceRecord) (work work' : List ℕ) : Type 0 where
  pub len : length work' ≡ length work
  pub below : (j : ℕ) → j < first_heads * cap → get_or work' j 0 ≡ get_or work j 0
  pub above : (j : ℕ) → key_heads * cap ≤ j → get_or work' j 0 ≡ get_or work j 0
  pub firsts : (h : History) → length h ≡ count → is_some (tells x h) ≡ true → FirstsIndexed cap h work → FirstsIndexed cap (x ∷ h) work'
