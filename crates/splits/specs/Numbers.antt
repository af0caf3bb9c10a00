-- What the look-backs for nodes and splits find, as numbers of records: each as of the records taken, 0 where there is none.
use Rattle.std.specs.Prelude.{Bool, cond, ◌&&◌, ◌||◌, [], ◌∷◌, ℕ}
use Rattle.record.specs.Records.{TraceRecord}
use Rattle.rules.specs.History.{History, number_after, is_kind, is_by, is_some, holds}
use Rattle.rules.specs.RightHalf.{uses_up, pending, created_split, pending_split, is_split, registers}
use Rattle.one_owner_per_key.specs.Numbers.{latest_number}
use Rattle.one_owner_per_key.specs.Columns.{word_by}

-- ---- as of a node's records

-- the node's latest RangesRestated since a crash: "only a crash drops the restated mark"
unfoldable pub restated_number : ℕ → History → ℕ
restated_number node [] = 0
restated_number node (x ∷ h) =
    cond (is_by node x) (cond (is_kind 5 x) (number_after h) (cond (is_kind 6 x) 0 (restated_number node h))) (restated_number node h)

-- the node's latest RaftRefused
abbrev pub refuses : ℕ → TraceRecord → Bool
refuses node x = is_by node x && is_kind 10 x

abbrev pub refused_number : ℕ → History → ℕ
refused_number node h = latest_number (λ x _. refuses node x) h

-- the node's pending RangeSplit
unfoldable pub pending_number : ℕ → History → ℕ
pending_number node [] = 0
pending_number node (x ∷ h) =
    cond (is_by node x)
    (cond (is_kind 7 x) (number_after h) (cond (is_kind 6 x || is_kind 10 x || holds (uses_up x) (pending node h)) 0 (pending_number node h)))
    (pending_number node h)

-- ---- registered splits

-- a record registers a split, and one with this parent and index
abbrev pub is_registering : TraceRecord → History → Bool
is_registering x h = is_some (registers x h)

abbrev pub registers_as : ℕ → ℕ → TraceRecord → History → Bool
registers_as parent index x h = holds (is_split parent index) (registers x h)

abbrev pub latest_registering : History → ℕ
latest_registering h = latest_number is_registering h

abbrev pub split_number : ℕ → ℕ → History → ℕ
split_number parent index h = latest_number (registers_as parent index) h

-- the record that names the right range of the split that x names: x itself, or the node's pending RangeSplit
abbrev pub names_number : ℕ → TraceRecord → History → ℕ
names_number node x h =
    cond (is_some (created_split x)) (number_after h) (cond (is_some (pending_split x (pending node h))) (pending_number node h) 0)

-- .. and of the split that it registers
unfoldable pub named_number : TraceRecord → History → ℕ
named_number x h = cond (is_registering x h) (word_by (λ n. names_number n x h) x.node) 0
