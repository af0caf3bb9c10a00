-- The records taken, newest first, and the ways of looking back at them.
pub use Rattle.std.specs.Option.{is_some}
use Rattle.std.specs.Prelude.{Bool, true, false, cond, ◌||◌, List, [], ◌∷◌, ℕ, suc, length, eqb, ltb, Option, None, Some}
use Rattle.record.specs.Named.{Node}
use Rattle.record.specs.Records.{TraceRecord}

-- the records taken, newest first: in `x ∷ h` the records before x are h, and the beginnings are the ends of the list
abbrev pub History : Type 0
History = List TraceRecord

-- "record numbers from 1": the number of the record taken after those of h
abbrev pub number_after : History → ℕ
number_after h = suc (length h)

-- the record has this kind
abbrev pub is_kind : ℕ → TraceRecord → Bool
is_kind k x = eqb x.kind k

-- the record is marked with this node
abbrev pub by_node : ℕ → Node → Bool
by_node n None = false
by_node n (Some m) = eqb m.0 n

abbrev pub is_by : ℕ → TraceRecord → Bool
is_by n x = by_node n x.node

-- what a record tells, judged by it and those before
abbrev pub Tells : Type 0 → Type 0
Tells A = TraceRecord → History → Option A

-- what a record tells of something that lasts: it becomes this, or it ends
pub data Change (A : Type 0) : Type 0 where
  becomes : A → Change A
  ends : Change A

-- x is one of the elements of a list
pub data Mem {A : Type 0} : A → List A → Type 0 where
  here : {x : A} {xs : List A} → Mem x (x ∷ xs)
  there : {x y : A} {xs : List A} → Mem x xs → Mem x (y ∷ xs)

module _ {A : Type 0} where
  -- a, if the test holds
  abbrev pub when : Bool → A → Option A
  when true a = Some a
  when false a = None

  -- the first of two, where there is one, else the second
  abbrev pub or_else : Option A → Option A → Option A
  or_else (Some a) b = Some a
  or_else None b = b

  -- there is a value, and it passes
  abbrev pub holds : (A → Bool) → Option A → Bool
  holds p (Some a) = p a
  holds p None = false

  -- what a value, where there is one, gives
  abbrev pub given : {B : Type 0} → (A → Option B) → Option A → Option B
  given f (Some a) = f a
  given f None = None

  -- what lasts, by the latest change: nothing before the first, nor after an end
  abbrev pub lasting : Option (Change A) → Option A
  lasting None = None
  lasting (Some ends) = None
  lasting (Some (becomes a)) = Some a

  -- some element passes
  unfoldable pub any_of : (A → Bool) → List A → Bool
  any_of p [] = false
  any_of p (x ∷ xs) = p x || any_of p xs

  -- the elements that pass, in their order
  unfoldable pub those : (A → Bool) → List A → List A
  those p [] = []
  those p (x ∷ xs) = cond (p x) (x ∷ those p xs) (those p xs)

  -- of a list that is newest first, the latest and the earliest element that pass
  unfoldable pub latest_of : (A → Bool) → List A → Option A
  latest_of p [] = None
  latest_of p (x ∷ xs) = cond (p x) (Some x) (latest_of p xs)

  unfoldable pub earliest_of : (A → Bool) → List A → Option A
  earliest_of p [] = None
  earliest_of p (x ∷ xs) = or_else (earliest_of p xs) (when (p x) x)

  -- x for what was best, where its number is greater
  abbrev pub greater : (A → ℕ) → A → Option A → Option A
  greater number x None = Some x
  greater number x (Some y) = cond (ltb (number y) (number x)) (Some x) (Some y)

  -- the element with the greatest number among those that pass, the earliest among equals
  unfoldable pub greatest_of : (A → ℕ) → (A → Bool) → List A → Option A
  greatest_of number p [] = None
  greatest_of number p (x ∷ xs) = cond (p x) (greater number x (greatest_of number p xs)) (greatest_of number p xs)

  -- x for what was best, where its number is lower
  abbrev pub lower : (A → ℕ) → A → Option A → Option A
  lower number x None = Some x
  lower number x (Some y) = cond (ltb (number x) (number y)) (Some x) (Some y)

  -- the element with the lowest number among those that pass, the earliest among equals
  unfoldable pub lowest_of : (A → ℕ) → (A → Bool) → List A → Option A
  lowest_of number p [] = None
  lowest_of number p (x ∷ xs) = cond (p x) (lower number x (lowest_of number p xs)) (lowest_of number p xs)

  abbrev pub add_some : Option A → List A → List A
  add_some None xs = xs
  add_some (Some x) xs = x ∷ xs

  -- all that the records told, newest first
  unfoldable pub told : Tells A → History → List A
  told tells [] = []
  told tells (x ∷ h) = add_some (tells x h) (told tells h)

  -- what was told latest
  unfoldable pub latest : Tells A → History → Option A
  latest tells [] = None
  latest tells (x ∷ h) = or_else (tells x h) (latest tells h)

  -- one more, unless one of the same is there
  abbrev pub add_first : (A → A → Bool) → Option A → List A → List A
  add_first same None xs = xs
  add_first same (Some x) xs = cond (any_of (same x) xs) xs (x ∷ xs)

  -- what was told first of each, newest first: what a later record tells of the same does not count
  unfoldable pub firsts : (A → A → Bool) → Tells A → History → List A
  firsts same tells [] = []
  firsts same tells (x ∷ h) = add_first same (tells x h) (firsts same tells h)
