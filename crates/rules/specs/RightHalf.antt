-- `OneOwnerPerKey`, the right half's clause: what a node owes after a split, and the half check.
use Rattle.std.specs.Prelude.{Bool, true, false, cond, not, ◌&&◌, ◌||◌, List, [], ◌∷◌, map, ℕ, eqb, leb, Option, None, Some}
use Rattle.record.specs.Named.{Node, cause_of, cause_number}
use Rattle.record.specs.declared.named.ServerId.{ServerId}
use Rattle.record.specs.declared.named.RangeCause.TheVariants.{Split}
use Rattle.record.specs.declared.named.ApplyEffect.TheVariants.{Took}
use Rattle.record.specs.Records.{TraceRecord}
use Rattle.rules.specs.Cases.{Case, fault, fault_if, or_case, case_of}
use Rattle.rules.specs.Views.{range_of, created_by, descriptor_by, apply_by, recovered_by}
use Rattle.rules.specs.History.{History, Change, becomes, ends, lasting, is_kind, is_by, when, or_else, is_some, holds, given, any_of, told, latest, firsts, greatest_of, lowest_of}
use Rattle.rules.specs.GenerationsRise.{has_effect}
use Rattle.rules.specs.OneOwnerPerKey.{by_marked, has_hold}

-- "A node's number becomes a server's only through its latest RaftRecovered, else unchanged"
abbrev pub tells_server : ℕ → TraceRecord → History → Option ServerId
tells_server node x h = when (is_by node x && is_kind 4 x) (record { 0 = (recovered_by x).server })

abbrev pub server_or : ℕ → Option ServerId → ServerId
server_or node None = record { 0 = node }
server_or node (Some s) = s

unfoldable pub server_of : ℕ → History → ServerId
server_of node h = server_or node (latest (tells_server node) h)

-- the restated mark: RangesRestated sets it, and "only a crash drops the restated mark"
abbrev pub tells_restated : ℕ → TraceRecord → History → Option Bool
tells_restated node x h = when (is_by node x && (is_kind 5 x || is_kind 6 x)) (is_kind 5 x)

unfoldable pub is_restated : ℕ → History → Bool
is_restated node h = holds (λ b. b) (latest (tells_restated node) h)

-- "7 RangeSplit: A range, B index, C right"
pub record Pending : Type 0 where
  pub parent : ℕ
  pub index : ℕ
  pub right : ℕ

abbrev pub pending_by : TraceRecord → Pending
pending_by x = record { parent = x.a; index = x.b; right = x.c }

-- "by kind 2 at the range and index of the node's pending (latest) RangeSplit, which it uses up"
abbrev pub uses_up : TraceRecord → Pending → Bool
uses_up x p = is_kind 2 x && eqb (descriptor_by x).range p.parent && eqb (descriptor_by x).index p.index

-- a node's own record: a RangeSplit is the new pending one; a refusal, a crash or its use ends the old one
abbrev pub pending_next : TraceRecord → Option Pending → Option Pending
pending_next x p = cond (is_kind 7 x) (Some (pending_by x)) (cond (is_kind 6 x || is_kind 10 x || holds (uses_up x) p) None p)

unfoldable pub pending : ℕ → History → Option Pending
pending node [] = None
pending node (x ∷ h) = cond (is_by node x) (pending_next x (pending node h)) (pending node h)

-- a split "(parent, index) registers once, with right range and voters"
pub record Registered : Type 0 where
  pub parent : ℕ
  pub index : ℕ
  pub right : ℕ
  pub voters : List ℕ

-- "by kind 1, Split, with a parent, at its floor"
abbrev pub created_split : TraceRecord → Option Registered
created_split x =
    when (is_kind 1 x && eqb (cause_number (cause_of x.code)) (cause_number Split) && eqb x.flag 1)
    (record { parent = (created_by x).parent; index = (created_by x).floor; right = (created_by x).range; voters = x.voters })

-- "or by kind 2 at the range and index of the node's pending RangeSplit"
abbrev pub pending_split : TraceRecord → Option Pending → Option Registered
pending_split x None = None
pending_split x (Some p) = when (uses_up x p) (record { parent = p.parent; index = p.index; right = p.right; voters = x.voters })

abbrev pub split_by : TraceRecord → History → Node → Option Registered
split_by x h None = None
split_by x h (Some n) = or_else (created_split x) (pending_split x (pending n.0 h))

abbrev pub tells_split : TraceRecord → History → Option Registered
tells_split x h = split_by x h x.node

abbrev pub is_split : ℕ → ℕ → Registered → Bool
is_split parent index s = eqb s.parent parent && eqb s.index index

abbrev pub same_split : Registered → Registered → Bool
same_split s t = is_split s.parent s.index t

-- the registered splits, newest first
unfoldable pub registered : History → List Registered
registered = firsts same_split tells_split

abbrev pub is_registered : ℕ → ℕ → History → Bool
is_registered parent index h = any_of (is_split parent index) (registered h)

-- the split that a record registers
abbrev pub unless_known : History → Registered → Option Registered
unless_known h s = when (not (is_registered s.parent s.index h)) s

unfoldable pub registers : TraceRecord → History → Option Registered
registers x h = given (unless_known h) (tells_split x h)

-- "While not restated, kind 2 also records that applied index for the range"; "RaftRefused drops .. the recorded indexes"
abbrev pub tells_recorded : ℕ → ℕ → TraceRecord → History → Option (Change ℕ)
tells_recorded node range x h =
    cond (is_by node x)
    (cond (is_kind 2 x && eqb (descriptor_by x).range range && not (is_restated node h)) (Some (becomes (descriptor_by x).applied))
    (when (is_kind 10 x) ends))
    None

unfoldable pub recorded : ℕ → ℕ → History → Option ℕ
recorded node range h = lasting (latest (tells_recorded node range) h)

-- a node's "recorded index of the parent reaches it"
abbrev pub reaches : ℕ → Registered → History → Bool
reaches node s h = holds (λ i. leb s.index i) (recorded node s.parent h)

-- "A node applies it at RangeSplit; at Took, if registered; while not restated, at kind 2, every registered index up to applied":
-- within kind 2 "a pending split registers" first, so what x registers counts there
abbrev pub applies : ℕ → ℕ → ℕ → TraceRecord → History → Bool
applies node parent index x h =
    is_by node x && eqb (range_of x) parent
    && ((is_kind 7 x && eqb (pending_by x).index index)
    || (has_effect Took x && eqb (apply_by x).index index && is_registered parent index h)
    || (is_kind 2 x && not (is_restated node h) && leb index (descriptor_by x).applied && is_registered parent index (x ∷ h)))

-- "Registering applies it for nodes whose recorded index of the parent reaches it"
abbrev pub applied_by_registering : ℕ → ℕ → ℕ → TraceRecord → History → Bool
applied_by_registering node parent index x h = holds (λ s. is_split parent index s && reaches node s h) (registers x h)

-- "RaftRefused drops debts, applied splits, .."
abbrev pub tells_applies : ℕ → ℕ → ℕ → TraceRecord → History → Option Bool
tells_applies node parent index x h =
    cond (applies node parent index x h || applied_by_registering node parent index x h) (Some true)
    (when (is_by node x && is_kind 10 x) false)

-- a node has applied a split
unfoldable pub has_applied : ℕ → ℕ → ℕ → History → Bool
has_applied node parent index h = holds (λ b. b) (latest (tells_applies node parent index) h)

-- the node's "server at that moment is a voter"
abbrev pub is_voter : ℕ → History → Registered → Bool
is_voter node h s = any_of (λ v. eqb v (server_of node h).0) s.voters

-- "When a node applies a registered split .. and its server at that moment is a voter, it owes the right range": the split by
-- which it does, at its own record. It applies them "rising", so that the greatest index replaces the others
unfoldable pub own_debt : ℕ → ℕ → TraceRecord → History → Option Registered
own_debt node right x h =
    greatest_of (λ s. s.index) (λ s. applies node s.parent s.index x h && eqb s.right right && is_voter node h s) (registered (x ∷ h))

-- "or one it has applied registers": also where registering applies it
abbrev pub owes_by_registering : ℕ → ℕ → History → Registered → Bool
owes_by_registering node right h s =
    eqb s.right right && is_voter node h s && (has_applied node s.parent s.index h || reaches node s h)

abbrev pub registering_debt : ℕ → ℕ → TraceRecord → History → Option Registered
registering_debt node right x h = given (λ s. when (owes_by_registering node right h s) s) (registers x h)

-- the debt that arises at a record: what the record registers comes first, and the splits that the node then applies replace it
unfoldable pub debt_at : ℕ → ℕ → TraceRecord → History → Option Registered
debt_at node right x h = or_else (own_debt node right x h) (registering_debt node right x h)

-- "RangeRemoved cancels; RaftRefused drops debts"; else a record tells of a right range the debt that arises
abbrev pub cancels : ℕ → ℕ → TraceRecord → Bool
cancels node right x = is_by node x && ((is_kind 9 x && eqb (range_of x) right) || is_kind 10 x)

abbrev pub tells_debt : ℕ → ℕ → TraceRecord → History → Option (Change Registered)
tells_debt node right x h = cond (cancels node right x) (Some ends) (given (λ s. Some (becomes s)) (debt_at node right x h))

-- what a node owes, and by which split: "it owes the right range, the latest debt replacing"
unfoldable pub owes : ℕ → ℕ → History → Option Registered
owes node right h = lasting (latest (tells_debt node right) h)

-- "what was held at the latest RangesRestated", which RaftRefused drops: "after a drop it lacks all"
abbrev pub tells_restated_with : ℕ → ℕ → TraceRecord → History → Option Bool
tells_restated_with node range x h = when (is_by node x && (is_kind 5 x || is_kind 10 x)) (is_kind 5 x && has_hold node range h)

unfoldable pub restated_with : ℕ → ℕ → History → Bool
restated_with node range h = holds (λ b. b) (latest (tells_restated_with node range) h)

-- "an owed range isn't held (the lowest such, with its debt's parent and index)": node, parent, index, right
abbrev pub is_missing : ℕ → History → ℕ → Bool
is_missing node h right = is_some (owes node right h) && not (has_hold node right h)

unfoldable pub missing_fault : ℕ → ℕ → History → Case
missing_fault kind node h =
    case_of (λ right. case_of (λ s. fault kind (node ∷ s.parent ∷ s.index ∷ right ∷ [])) (owes node right h))
    (lowest_of (λ right. right) (is_missing node h) (map (λ s. s.right) (registered h)))

-- the nodes that records are marked with
abbrev pub node_number : Node → Option ℕ
node_number None = None
node_number (Some n) = Some n.0

unfoldable pub nodes_of : History → List ℕ
nodes_of h = told (λ x _. node_number x.node) h

-- "a restated node whose recorded index reaches it owes it and lacked it at its latest RangesRestated"
abbrev pub lacks : Registered → TraceRecord → History → ℕ → Bool
lacks s x h node =
    is_restated node h && reaches node s h && is_some (owes node s.right (x ∷ h)) && not (restated_with node s.right h)

-- "the lowest such node, with this split's parent and index"
unfoldable pub registering_fault : TraceRecord → History → Registered → Case
registering_fault x h s =
    case_of (λ node. fault 2 (node ∷ s.parent ∷ s.index ∷ s.right ∷ [])) (lowest_of (λ node. node) (lacks s x h) (nodes_of h))

-- half: "kind 1 at an apply, 2 at a restatement or a registering"
unfoldable pub half_at : TraceRecord → History → Case
half_at x h =
    by_marked (λ n. or_case (fault_if (has_effect Took x && is_registered (apply_by x).range (apply_by x).index h) (missing_fault 1 n (x ∷ h)))
    (or_case (fault_if (is_kind 5 x) (missing_fault 2 n (x ∷ h))) (case_of (registering_fault x h) (registers x h))))
    x.node
