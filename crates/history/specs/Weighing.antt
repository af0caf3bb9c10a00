-- The best so far of a walk from the newest element on, weighed against an older one.
use Rattle.std.specs.Prelude.{Bool, cond, ℕ, ltb, Option, None, Some}

-- v against the best of the rest, which is older, by any order; and so the best so far, where there is one
abbrev pub weigh : {A : Type 0} → (A → A → Bool) → A → Option A → Option A
weigh beats v None = Some v
weigh beats v (Some u) = cond (beats v u) (Some v) (Some u)

abbrev pub weigh_of : {A : Type 0} → (A → A → Bool) → Option A → Option A → Option A
weigh_of beats None r = r
weigh_of beats (Some v) r = weigh beats v r

-- the greater, and the lower: of equals the older
unfoldable pub greater_of : {A : Type 0} → (A → ℕ) → Option A → Option A → Option A
greater_of number best r = weigh_of (λ w v. ltb (number v) (number w)) best r

unfoldable pub lower_of : {A : Type 0} → (A → ℕ) → Option A → Option A → Option A
lower_of number best r = weigh_of (λ w v. ltb (number w) (number v)) best r

module _ {A : Type 0} (number : A → ℕ) where
  -- one that passes is weighed against the best so far
  abbrev pub greatest_step : (A → Bool) → Option A → A → Option A
  greatest_step p best v = cond (p v) (greater_of number best (Some v)) best

  abbrev pub lowest_step : (A → Bool) → Option A → A → Option A
  lowest_step p best v = cond (p v) (lower_of number best (Some v)) best
