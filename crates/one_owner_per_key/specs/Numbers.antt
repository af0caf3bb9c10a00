-- What the look-backs find, as numbers of records: a node's latest record, its latest end, what it holds a range by.
use Rattle.std.specs.Prelude.{Bool, cond, not, ◌&&◌, ◌||◌, [], ◌∷◌, ℕ, eqb}
use Rattle.record.specs.Records.{TraceRecord}
use Rattle.rules.specs.History.{History, number_after, is_kind, is_by}
use Rattle.rules.specs.OneOwnerPerKey.{is_holding, is_ending, has_hold}

-- the number of the latest record that passes a test, judged by it and those before; 0 where none does
unfoldable pub latest_number : (TraceRecord → History → Bool) → History → ℕ
latest_number t [] = 0
latest_number t (x ∷ h) = cond (t x h) (number_after h) (latest_number t h)

-- a node's latest record
abbrev pub latest_by : ℕ → History → ℕ
latest_by node h = latest_number (λ x _. is_by node x) h

-- "crash or RaftRefused end it", for every range at once: the node's latest one
abbrev pub ends_all : ℕ → TraceRecord → Bool
ends_all node x = is_by node x && (is_kind 6 x || is_kind 10 x)

abbrev pub latest_end : ℕ → History → ℕ
latest_end node h = latest_number (λ x _. ends_all node x) h

-- a node comes to hold a range that it does not hold: what the Rust's `held_since` is given at
abbrev pub newly_holds : ℕ → TraceRecord → History → Bool
newly_holds node x h = is_by node x && is_holding x && not (has_hold node x.a h)

abbrev pub latest_newly : ℕ → History → ℕ
latest_newly node h = latest_number (newly_holds node) h

-- the latest of kinds 1, 2 and 9 of a node and a range: by it the node holds the range or does not, where nothing ended all since
abbrev pub says_hold : ℕ → ℕ → TraceRecord → Bool
says_hold node range x = is_by node x && (is_holding x || is_kind 9 x) && eqb x.a range

abbrev pub latest_hold : ℕ → ℕ → History → ℕ
latest_hold node range h = latest_number (λ x _. says_hold node range x) h

-- the number of the record over whose span a node holds a range, 0 where it does not hold it
unfoldable pub hold_number : ℕ → ℕ → History → ℕ
hold_number node range [] = 0
hold_number node range (x ∷ h) =
    cond (is_by node x)
    (cond (is_holding x && eqb x.a range) (number_after h) (cond (is_ending range x) 0 (hold_number node range h)))
    (hold_number node range h)
