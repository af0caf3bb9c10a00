-- Keys: the key in its 32-byte place, and the order of keys.
use Rattle.std.specs.Prelude.{◌≡◌, Bool, true, false, cond, not, ◌&&◌, List, [], ◌∷◌, ℕ, get_or, take, drop, eqb, ltb}

-- a key is its bytes
abbrev pub Key : Type 0
Key = List ℕ

-- "a length byte, 31 bytes, zero-padded": as many of the bytes after the length byte as it says, and no more than there are
unfoldable pub key_in : List ℕ → Key
key_in place = take (get_or place 0 0) (drop 1 place)

-- "Keys compare bytewise, a proper prefix first": whether a key is below another
unfoldable pub key_ltb : Key → Key → Bool
key_ltb [] [] = false
key_ltb [] (y ∷ ys) = true
key_ltb (x ∷ xs) [] = false
key_ltb (x ∷ xs) (y ∷ ys) = cond (ltb x y) true (cond (ltb y x) false (key_ltb xs ys))

-- two lists of numbers with the same numbers in the same order: keys, and voters ("Voters compare as lists")
unfoldable pub list_eqb : List ℕ → List ℕ → Bool
list_eqb [] [] = true
list_eqb [] (y ∷ ys) = false
list_eqb (x ∷ xs) [] = false
list_eqb (x ∷ xs) (y ∷ ys) = eqb x y && list_eqb xs ys

abbrev pub key_eqb : Key → Key → Bool
key_eqb = list_eqb

-- a key in the span from s, which is in it, to e, which is not
abbrev pub inside : Key → Key → Key → Bool
inside s e k = not (key_ltb k s) && key_ltb k e

-- x < y and x ≤ y, as records, so that a fact shows its two keys
pub record Lt (x y : Key) : Type 0 where
  pub is : key_ltb x y ≡ true

pub record Le (x y : Key) : Type 0 where
  pub is : key_ltb y x ≡ false
