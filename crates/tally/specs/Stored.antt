-- Numbers stored in bytes one after the other, each in the same width, little-endian. Every definition is over the width.
use Rattle.std.specs.Prelude.{Bool, true, ◌&&◌, ◌||◌, List, [], ◌++◌, ℕ, zero, suc, ◌+◌, ◌*◌, ◌^◌, eqb, ltb}
use Rattle.record.specs.Numbers.{part, little_endian, bytes_of}

-- w bytes hold the number
abbrev pub holds : ℕ → ℕ → Bool
holds w n = ltb n (256 ^ w)

-- the first n numbers of f in w bytes each, one after the other
unfoldable pub stored : ℕ → (ℕ → ℕ) → ℕ → List ℕ
stored w f zero = []
stored w f (suc n) = stored w f n ++ bytes_of w (f n)

-- the number at a place of such bytes, from 0
unfoldable pub number_in : ℕ → List ℕ → ℕ → ℕ
number_in w bytes p = little_endian (part (w * p) (w * p + w) bytes)

-- a test holds of the first n places
unfoldable pub all_to : ℕ → (ℕ → Bool) → Bool
all_to zero test = true
all_to (suc n) test = all_to n test && test n

-- the numbers from one place up to another are zero
unfoldable pub clear_from : ℕ → List ℕ → ℕ → ℕ → Bool
clear_from w bytes from to = all_to to (λ i. ltb i from || eqb (number_in w bytes i) 0)
