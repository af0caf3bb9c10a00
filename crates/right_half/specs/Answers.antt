-- What is missing by one split, and the lowest so far.
use Rattle.std.specs.Prelude.{Bool, cond, not, ◌&&◌, List, ℕ, Option, None, Some}
use Rattle.record.specs.Named.{Node}
use Rattle.rules.specs.History.{lower}
use Rattle.rules.specs.OneOwnerPerKey.{has_hold}
use Rattle.history.specs.Logs.{hist}
use Rattle.debts.specs.Walk.{cancel_number, owes_split}

-- a node lacks the right range of the split that the record at place t registers, after n records: it owes it by that split and does
-- not hold it
unfoldable pub lacks_split : List ℕ → ℕ → ℕ → ℕ → ℕ → Bool
lacks_split log n node t right = not (has_hold node right (hist log n)) && owes_split log n node t (cancel_number node right (hist log n))

-- the lowest so far, with the node of a record, if it is marked and passes
abbrev pub lowered_by : (ℕ → Bool) → Node → Option ℕ → Option ℕ
lowered_by p None best = best
lowered_by p (Some m) best = cond (p m.0) (lower (λ n. n) m.0 best) best
