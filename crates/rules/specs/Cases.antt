-- What a check says of a record: nothing, or a fault with its kind and evidence.
use Rattle.std.specs.Option.{is_some}
use Rattle.std.specs.Prelude.{◌≡◌, Bool, true, false, List, [], ◌∷◌, ℕ, ◌≤◌, get_or, Option, None, Some}
use Rattle.rules.specs.declared.Fault.{Fault}
use Rattle.rules.specs.declared.Evidence.{Evidence}

-- "Evidence is five numbers, missing ones 0"
abbrev pub evidence : List ℕ → Evidence
evidence ns = record { e0 = get_or ns 0 0; e1 = get_or ns 1 0; e2 = get_or ns 2 0; e3 = get_or ns 3 0; e4 = get_or ns 4 0 }

-- a case: nothing, or a fault
abbrev pub Case : Type 0
Case = Option Fault

-- the fault of a kind with its evidence
abbrev pub fault_with : ℕ → Evidence → Case
fault_with kind e = Some (record { kind = kind; evidence = e })

abbrev pub fault : ℕ → List ℕ → Case
fault kind ns = fault_with kind (evidence ns)

abbrev pub is_fault : Case → Bool
is_fault c = is_some c

-- a case that is clear, or whose kind is from 1 to a number
pub record KindWithin (most : ℕ) (c : Case) : Type 0 where
  pub kind : (k : ℕ) (e : Evidence) → c ≡ fault_with k e → (1 ≤ k) × (k ≤ most)

-- the case, if the test holds
abbrev pub fault_if : Bool → Case → Case
fault_if true c = c
fault_if false c = None

-- the first of two cases that is a fault
abbrev pub or_case : Case → Case → Case
or_case None d = d
or_case (Some f) d = Some f

module _ {A : Type 0} where
  -- the case of what was found, and none where nothing was
  abbrev pub case_of : (A → Case) → Option A → Case
  case_of f None = None
  case_of f (Some a) = f a

  -- the earliest fault of a list that is newest first
  unfoldable pub earliest_case : (A → Case) → List A → Case
  earliest_case f [] = None
  earliest_case f (x ∷ xs) = or_case (earliest_case f xs) (f x)

  -- the first fault of a list in its order
  unfoldable pub first_case : (A → Case) → List A → Case
  first_case f [] = None
  first_case f (x ∷ xs) = or_case (f x) (first_case f xs)
