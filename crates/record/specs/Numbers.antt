-- Bytes at their places, and numbers made of bytes.
use Rattle.std.specs.Prelude.{List, [], ◌∷◌, ℕ, zero, suc, ◌+◌, ◌-◌, ◌*◌, ◌/◌, ◌%◌, get_or, take, drop}

-- "the stretch of the record that begins at its offset": the bytes from a up to e, as the code's `&s[a..e]` has them
abbrev pub part : ℕ → ℕ → List ℕ → List ℕ
part a e s = take (e - a) (drop a s)

-- the byte at a place, 0 past the end
abbrev pub byte_at : ℕ → List ℕ → ℕ
byte_at p s = get_or s p 0

-- "Little-endian": the first byte counts least
unfoldable pub little_endian : List ℕ → ℕ
little_endian [] = 0
little_endian (b ∷ bs) = b + 256 * little_endian bs

-- the way back: a number in w bytes; one that they cannot hold loses what is above them
unfoldable pub bytes_of : ℕ → ℕ → List ℕ
bytes_of zero n = []
bytes_of (suc w) n = n % 256 ∷ bytes_of w (n / 256)

-- "big-endian": the last byte counts least; n is the number of the bytes before
unfoldable pub big_endian_from : ℕ → List ℕ → ℕ
big_endian_from n [] = n
big_endian_from n (b ∷ bs) = big_endian_from (256 * n + b) bs

abbrev pub big_endian : List ℕ → ℕ
big_endian = big_endian_from 0

-- the 32-bit and the 64-bit number at a place
abbrev pub number32 : ℕ → List ℕ → ℕ
number32 p s = little_endian (part p (p + 4) s)

abbrev pub number64 : ℕ → List ℕ → ℕ
number64 p s = little_endian (part p (p + 8) s)
