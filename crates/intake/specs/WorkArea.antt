-- The work area as one written function of C and the records taken: 32 columns of C words, one after the other.
use Rattle.std.specs.Prelude.{List, [], ◌∷◌, ◌++◌, ℕ, zero, suc}
use Rattle.rules.specs.History.{History}
use Rattle.history.specs.Columns.{cell_of, latest_in, link_of}
use Rattle.descriptors.specs.Columns.{applied_bucket, standing_bucket, stated_bucket, generation_bucket, counts_after}
use Rattle.firsts.specs.Columns.{first_bucket}
use Rattle.ids_unique.specs.Columns.{block_link, last_after}
use Rattle.generations_rise.specs.Columns.{key_bucket, generation_by}
use Rattle.one_owner_per_key.specs.Columns.{by_hold, by_owner, newly_cell, ended_cell}
use Rattle.splits.specs.Columns.{server_cell, restated_cell, refused_cell, pending_cell, registered_cell, by_split, by_recording}
use Rattle.meta_never_goes_back.specs.Columns.{name_as_of}

-- the words of a column of n: at each place k, F k
unfoldable pub column_of : ℕ → (ℕ → ℕ) → List ℕ
column_of zero F = []
column_of (suc n) F = F zero ∷ column_of n (λ k. F (suc k))

-- columns of n words each, one after the other
unfoldable pub columns_of : ℕ → List (ℕ → ℕ) → List ℕ
columns_of n [] = []
columns_of n (F ∷ Fs) = column_of n F ++ columns_of n Fs

-- what each of the 32 columns holds at a place, in the order and by the names of `Places`. Heads: the number of the latest
-- record in the bucket of that place. Links: of the record at that place, the number of the one before it in its bucket. Any
-- other: the word of the record at that place. 0 where there is no such record.
unfoldable pub columns : ℕ → History → List (ℕ → ℕ)
columns cap h =
    -- `Descriptors`
    -- 0 applied_heads, 1 applied_links: the applied indexes, by node and range
    latest_in (applied_bucket cap) h
    ∷ cell_of (link_of (applied_bucket cap)) h
    -- 2 standing_heads, 3 standing_links: the standing values, by range
    ∷ latest_in (standing_bucket cap) h
    ∷ cell_of (link_of (standing_bucket cap)) h
    -- 4 stated_heads, 5 stated_links: the statements, by range
    ∷ latest_in (stated_bucket cap) h
    ∷ cell_of (link_of (stated_bucket cap)) h
    -- 6 generation_heads, 7 generation_links: the first values of a generation, by range and generation
    ∷ latest_in (generation_bucket cap) h
    ∷ cell_of (link_of (generation_bucket cap)) h
    -- 8 counts: of statements, and whether a value stands; above them the mark of a value above all earlier ones of its range
    ∷ cell_of counts_after h
    -- `IdsUnique` and `GenerationsRise`
    -- 9 first_heads, 10 first_links: the first grants, by index, and the writes that count, by range and index
    ∷ latest_in (first_bucket cap) h
    ∷ cell_of (link_of (first_bucket cap)) h
    -- `GenerationsRise`
    -- 11 key_heads, 12 key_links: the writes that count and have a generation, by key
    ∷ latest_in (key_bucket cap) h
    ∷ cell_of (link_of (key_bucket cap)) h
    -- 13 written_at: the generation of such a write
    ∷ cell_of generation_by h
    -- `IdsUnique`
    -- 14 block_links: the latest block so far
    ∷ cell_of block_link h
    -- 15 greatest_last: the greatest last so far
    ∷ cell_of last_after h
    -- `OneOwnerPerKey`
    -- 16 hold_heads, 17 hold_links: what says whether a node holds a range, by node and range
    ∷ latest_in (by_hold cap) h
    ∷ cell_of (link_of (by_hold cap)) h
    -- 18 node_heads, 19 node_links: every marked record, by node
    ∷ latest_in (by_owner cap) h
    ∷ cell_of (link_of (by_owner cap)) h
    -- 20 newly_held: whether the record newly holds its range, and its node's latest record before that did
    ∷ cell_of newly_cell h
    -- 21 ended_at: its node's latest crash or refusal
    ∷ cell_of ended_cell h
    -- the right half's clause, as of each record for its node
    -- 22 server_at: the server
    ∷ cell_of server_cell h
    -- 23 restated_at: the latest RangesRestated since a crash
    ∷ cell_of restated_cell h
    -- 24 refused_at: the latest refusal
    ∷ cell_of refused_cell h
    -- 25 pending_at: the pending RangeSplit
    ∷ cell_of pending_cell h
    -- 26 registered_by: the record that names a registered split's right range, and the latest registering record so far
    ∷ cell_of registered_cell h
    -- `MetaNeverGoesBack`
    -- 27 latest_name: the latest name so far; above it the mark of a name that surpasses all earlier ones
    ∷ cell_of name_as_of h
    -- the right half's clause
    -- 28 split_heads, 29 split_links: the registered splits, by parent and index
    ∷ latest_in (by_split cap) h
    ∷ cell_of (link_of (by_split cap)) h
    -- 30 recorded_heads, 31 recorded_links: the recorded indexes, by range
    ∷ latest_in (by_recording cap) h
    ∷ cell_of (link_of (by_recording cap)) h
    ∷ []

-- the whole area of a judge of capacity cap that has taken the records of h
unfoldable pub work_of : ℕ → History → List ℕ
work_of cap h = columns_of cap (columns cap h)
