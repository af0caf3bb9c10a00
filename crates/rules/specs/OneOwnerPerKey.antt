-- `OneOwnerPerKey`: what a node holds, and the checks overlap, install and twice.
use Rattle.std.specs.Prelude.{Bool, cond, not, ◌&&◌, ◌||◌, List, [], ◌∷◌, ℕ, length, take, drop, eqb, leb, Option, None, Some}
use Rattle.record.specs.Named.{Node}
use Rattle.record.specs.Keys.{Key, key_ltb}
use Rattle.record.specs.Numbers.{big_endian}
use Rattle.record.specs.Records.{Span, TraceRecord}
use Rattle.rules.specs.Cases.{Case, fault, fault_if, case_of, first_case}
use Rattle.rules.specs.Views.{range_of, created_by}
use Rattle.rules.specs.History.{History, is_kind, is_by, when, Change, becomes, ends, lasting, is_some, holds, any_of, told, latest, lowest_of}
use Rattle.rules.specs.Descriptors.{span_of}

-- what a check says of a record by its node: "Without a node the record ends its step here"
abbrev pub by_marked : (ℕ → Case) → Node → Case
by_marked f None = None
by_marked f (Some n) = f n.0

-- "Kinds 1 and 2 make the node hold the range over the span"
abbrev pub is_holding : TraceRecord → Bool
is_holding x = is_kind 1 x || is_kind 2 x

-- "removal, crash or RaftRefused end it"
abbrev pub is_ending : ℕ → TraceRecord → Bool
is_ending range x = (is_kind 9 x && eqb (range_of x) range) || is_kind 6 x || is_kind 10 x

-- what a record tells of a node's hold on a range: the span over which it holds it from now on, or the end
abbrev pub tells_hold : ℕ → ℕ → TraceRecord → History → Option (Change Span)
tells_hold node range x h =
    cond (is_by node x)
    (cond (is_holding x && eqb (range_of x) range) (Some (becomes (span_of 0 x))) (when (is_ending range x) ends))
    None

-- the span over which a node holds a range, "the latest replacing"
unfoldable pub hold_of : ℕ → ℕ → History → Option Span
hold_of node range h = lasting (latest (tells_hold node range) h)

-- the node holds the range
abbrev pub has_hold : ℕ → ℕ → History → Bool
has_hold node range h = is_some (hold_of node range h)

-- the ranges that a node was ever made to hold
unfoldable pub ranges_of : ℕ → History → List ℕ
ranges_of node h = told (λ x _. when (is_by node x && is_holding x) (range_of x)) h

-- "from < end and start < to": the span t meets s
abbrev pub meets : Span → Span → Bool
meets s t = key_ltb t.start s.end && key_ltb s.start t.end

-- the lowest range that passes and that the node holds over a span that meets s
unfoldable pub lowest_meeting : (ℕ → Bool) → Span → ℕ → History → Option ℕ
lowest_meeting p s node h = lowest_of (λ r. r) (λ r. p r && holds (meets s) (hold_of node r h)) (ranges_of node h)

-- overlap: "a node holds two ranges with from < end and start < to: node, range, lowest other"
unfoldable pub overlap_at : TraceRecord → History → Case
overlap_at x h =
    by_marked (λ n. fault_if (is_holding x)
    (case_of (λ o. fault 1 (n ∷ range_of x ∷ o ∷ [])) (lowest_meeting (λ r. not (eqb r (range_of x))) (span_of 0 x) n h)))
    x.node

-- "A start names a group if it has 16 bytes or more and its first 8, big-endian, are the tenant; the next 8 are the group"
unfoldable pub group_of : ℕ → Key → Option ℕ
group_of tenant key =
    when (leb 16 (length key) && eqb (big_endian (take 8 key)) tenant) (big_endian (take 8 (drop 8 key)))

-- a start in the record names the range
unfoldable pub is_named : ℕ → List Span → ℕ → Bool
is_named tenant ss range = any_of (λ s. holds (λ g. eqb g range) (group_of tenant s.start)) ss

-- install, of one span: "a kind 8 span whose start names no group overlaps a held range that no start in the record names"
abbrev pub install_fault : ℕ → TraceRecord → History → ℕ → Span → Case
install_fault tenant x h node s =
    fault_if (not (is_some (group_of tenant s.start)))
    (case_of (λ r. fault 1 (node ∷ r ∷ [])) (lowest_meeting (λ r. not (is_named tenant x.spans r)) s node h))

-- install: "node, range; first span, then lowest range"
unfoldable pub install_at : ℕ → TraceRecord → History → Case
install_at tenant x h = by_marked (λ n. fault_if (is_kind 8 x) (first_case (install_fault tenant x h n) x.spans)) x.node

-- twice: "a RangeCreated of a range already held: node, range, floor"
unfoldable pub twice_at : TraceRecord → History → Case
twice_at x h =
    by_marked (λ n. fault_if (is_kind 1 x && has_hold n (created_by x).range h) (fault 1 (n ∷ (created_by x).range ∷ (created_by x).floor ∷ [])))
    x.node
