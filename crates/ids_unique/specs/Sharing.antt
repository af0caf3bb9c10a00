-- What a walk from block to block finds of a new block from `first` to `last`.
use Rattle.std.specs.Prelude.{Bool, cond, ◌&&◌, ◌||◌, List, [], ◌∷◌, ℕ, leb, ltb, Option, None, Some}
use Rattle.rules.specs.History.{given, any_of, greatest_of}
use Rattle.rules.specs.IdsUnique.{Grant}
use Rattle.ids_unique.specs.declared.block.Shared.{Shared}

-- a block shares an id with it
abbrev pub shares_with : ℕ → ℕ → Grant → Bool
shares_with first last o = leb o.first last && leb first o.last

-- one block more: whether it shares an id, and its first where that is greater and not above the new last
abbrev pub weigh : ℕ → ℕ → Shared → Grant → Shared
weigh first last s o = record {
  any = s.any || shares_with first last o;
  top = cond (leb o.first last && ltb s.top o.first) o.first s.top;
}

-- the blocks of a list, one after the other
unfoldable pub weigh_all : ℕ → ℕ → Shared → List Grant → Shared
weigh_all first last s [] = s
weigh_all first last s (o ∷ os) = weigh_all first last (weigh first last s o) os

-- where some block does, the greatest first of a block that is not above the new last
abbrev pub shared_top : ℕ → ℕ → List Grant → Option ℕ
shared_top first last bs =
    cond (any_of (shares_with first last) bs) (given (λ o. Some o.first) (greatest_of (λ o. o.first) (λ o. leb o.first last) bs)) None
