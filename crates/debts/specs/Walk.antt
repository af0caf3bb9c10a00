-- What the walks for debts look for, in place of the rules' definitions; proved to be the same in the crate's laws.
use Rattle.std.specs.Prelude.{Bool, cond, not, ◌&&◌, ◌||◌, List, ℕ, suc, ◌-◌, max, eqb, leb, ltb}
use Rattle.record.specs.declared.named.ApplyEffect.TheVariants.{Took}
use Rattle.record.specs.Records.{TraceRecord}
use Rattle.rules.specs.History.{History, is_kind, is_by, is_some, any_of}
use Rattle.rules.specs.GenerationsRise.{has_effect}
use Rattle.rules.specs.RightHalf.{server_of, is_restated, cancels, debt_at}
use Rattle.history.specs.Logs.{record_at, hist}
use Rattle.one_owner_per_key.specs.Numbers.{latest_number}
use Rattle.debts.specs.declared.owed.Asked.{Asked}
use Rattle.debts.specs.declared.owed.Asked.TheVariants.{Removed, Traced, Recording, Applying}
use Rattle.splits.specs.Numbers.{refused_number}
use Rattle.splits.specs.Splits.{parent_by}

-- ---- what arises and what cancels

-- "RangeRemoved cancels; RaftRefused drops debts": the latest of either
abbrev pub cancel_number : ℕ → ℕ → History → ℕ
cancel_number node right h = latest_number (λ x _. cancels node right x) h

-- the latest record at which a debt for the right range arises
abbrev pub debt_number : ℕ → ℕ → History → ℕ
debt_number node right h = latest_number (λ x g. is_some (debt_at node right x g)) h

-- ---- records of a node and a range

-- a RangeRemoved; a RangeSplit at an index; a RangeDescriptor that records an index; any of the kinds that can apply a split.
-- m: whether the node is restated
abbrev pub asks_kind : Asked → TraceRecord → Bool → Bool
asks_kind Removed x m = is_kind 9 x
asks_kind (Traced index) x m = is_kind 7 x && eqb x.b index
asks_kind Recording x m = is_kind 2 x && not m
asks_kind Applying x m = is_kind 2 x || is_kind 7 x || has_effect Took x

unfoldable pub asks : Asked → ℕ → ℕ → TraceRecord → History → Bool
asks q node range x h = is_by node x && eqb x.a range && asks_kind q x (is_restated node h)

-- a node's own application of a registered split: a RangeSplit or a Took at its index, or, while not restated, a
-- RangeDescriptor that has applied it. m: whether the node is restated
abbrev pub applying : ℕ → TraceRecord → Bool → Bool
applying index x m = (is_kind 7 x || has_effect Took x) && eqb x.b index || is_kind 2 x && not m && leb index x.c

-- .. while its server is one of the voters
unfoldable pub comes : ℕ → ℕ → ℕ → List ℕ → TraceRecord → History → Bool
comes node range index voters x h =
    is_by node x && eqb x.a range && applying index x (is_restated node h) && any_of (λ v. eqb v (server_of node h).0) voters

-- a number, where it is above a floor
abbrev pub above : ℕ → ℕ → ℕ
above floor n = cond (ltb floor n) n 0

-- ---- at the registering record y, which is after h

-- the node has a part in the split by the first n records: y is its own, or it has a record of the parent that can apply one
unfoldable pub has_part : List ℕ → ℕ → ℕ → TraceRecord → Bool
has_part log n node y = is_by node y || not (eqb (latest_number (asks Applying node (parent_by y)) (hist log n)) 0)

-- the node's "recorded index of the parent reaches it"; it traced a RangeSplit of it since its latest RaftRefused; or y is
-- its own RangeDescriptor that has applied it
unfoldable pub reached : List ℕ → ℕ → ℕ → ℕ → ℕ → Bool
reached log n node parent index =
    ltb (refused_number node (hist log n)) (latest_number (asks Recording node parent) (hist log n))
    && leb index (record_at log (latest_number (asks Recording node parent) (hist log n) - 1)).c

unfoldable pub traced : List ℕ → ℕ → ℕ → ℕ → ℕ → Bool
traced log n node parent index = ltb (refused_number node (hist log n)) (latest_number (asks (Traced index) node parent) (hist log n))

abbrev pub reaches_itself : ℕ → TraceRecord → Bool → Bool
reaches_itself node y m = is_by node y && is_kind 2 y && not m && leb y.b y.c

unfoldable pub applied_first : List ℕ → ℕ → ℕ → TraceRecord → Bool
applied_first log t node y =
    reached log t node (parent_by y) y.b || traced log t node (parent_by y) y.b || reaches_itself node y (is_restated node (hist log t))

unfoldable pub owes_first : List ℕ → ℕ → ℕ → TraceRecord → Bool
owes_first log t node y = applied_first log t node y && any_of (λ v. eqb v (server_of node (hist log t)).0) y.voters

-- ---- what a node owes by the split that the record at place t registers, after n records, where its latest cancel is c

unfoldable pub owes_split : List ℕ → ℕ → ℕ → ℕ → ℕ → Bool
owes_split log n node t c =
    ltb (max c (suc t))
    (latest_number (comes node (parent_by (record_at log t)) (record_at log t).b (record_at log t).voters) (hist log n))
    || leb c t && owes_first log t node (record_at log t)
