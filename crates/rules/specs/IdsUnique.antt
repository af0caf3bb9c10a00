-- `IdsUnique`: the grants of ids, their blocks, and the ids check.
use Rattle.std.specs.Prelude.{Bool, cond, not, ◌&&◌, List, [], ◌∷◌, ℕ, eqb, leb, Option, None, Some}
use Rattle.record.specs.Records.{TraceRecord}
use Rattle.rules.specs.Cases.{Case, fault, fault_if, case_of}
use Rattle.rules.specs.History.{History, is_kind, when, any_of, those, firsts, latest_of, greatest_of}

-- "11 RangeIdsLeased: A node, B index, C run, D first, E last"
pub record Grant : Type 0 where
  pub node : ℕ
  pub index : ℕ
  pub run : ℕ
  pub first : ℕ
  pub last : ℕ

abbrev pub grant_by : TraceRecord → Grant
grant_by x = record { node = x.a; index = x.b; run = x.c; first = x.d; last = x.e }

abbrev pub tells_grant : TraceRecord → History → Option Grant
tells_grant x h = when (is_kind 11 x) (grant_by x)

abbrev pub same_index : Grant → Grant → Bool
same_index g o = eqb g.index o.index

-- the first grants: the first at each index, newest first
unfoldable pub first_grants : History → List Grant
first_grants = firsts same_index tells_grant

-- "(node, run, first, last)" are the same
unfoldable pub grant_eqb : Grant → Grant → Bool
grant_eqb g o = eqb g.node o.node && eqb g.run o.run && eqb g.first o.first && eqb g.last o.last

abbrev pub nonempty : Grant → Bool
nonempty g = leb g.first g.last

-- "Blocks are the nonempty first grants, after a fault too": newest first
unfoldable pub blocks_of : History → List Grant
blocks_of h = those nonempty (first_grants h)

-- a block contains an id, and two blocks share one
abbrev pub contains : ℕ → Grant → Bool
contains id g = leb g.first id && leb id g.last

abbrev pub shares : Grant → Grant → Bool
shares g o = leb o.first g.last && leb g.first o.last

-- "new index, then the greatest older first not above the new last"
abbrev pub shared_fault : Grant → List Grant → Case
shared_fault g bs = case_of (λ o. fault 3 (g.index ∷ o.first ∷ [])) (greatest_of (λ o. o.first) (λ o. leb o.first g.last) bs)

-- a first grant: "Kind 2: a first grant has first above last: index. Kind 3: two nonempty first grants share an id"
abbrev pub first_fault : Grant → List Grant → Case
first_fault g bs = cond (nonempty g) (fault_if (any_of (shares g) bs) (shared_fault g bs)) (fault 2 (g.index ∷ []))

-- a grant, by the first at its index: "Kind 1: a grant differs in (node, run, first, last) from the first at its index: index"
abbrev pub grant_fault : Grant → Option Grant → List Grant → Case
grant_fault g (Some o) bs = fault_if (not (grant_eqb g o)) (fault 1 (g.index ∷ []))
grant_fault g None bs = first_fault g bs

-- the ids case of a record
unfoldable pub ids_at : TraceRecord → History → Case
ids_at x h = case_of (λ g. grant_fault g (latest_of (same_index g) (first_grants h)) (blocks_of h)) (tells_grant x h)

-- a block among others that are in order: after those with its first or a lower one, since they are older
unfoldable pub insert_block : Grant → List Grant → List Grant
insert_block g [] = g ∷ []
insert_block g (o ∷ os) = cond (leb o.first g.first) (o ∷ insert_block g os) (g ∷ o ∷ os)

-- blocks that are newest first, "by first, then by time"
unfoldable pub in_order : List Grant → List Grant
in_order [] = []
in_order (g ∷ gs) = insert_block g (in_order gs)

-- `blocks`, and of them those that contain an id, whose nodes `holders_of` gives
unfoldable pub blocks : History → List Grant
blocks h = in_order (blocks_of h)

unfoldable pub holders_of : ℕ → History → List Grant
holders_of id h = those (contains id) (blocks h)
