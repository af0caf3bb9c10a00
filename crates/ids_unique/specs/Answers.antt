-- What the answers of this crate's functions stand for in the rules.
use Rattle.std.specs.Prelude.{◌≡◌, Bool, cond, List, [], ◌∷◌, ◌++◌, ℕ, length, drop, ltb, Option, None, Some}
use Rattle.rules.specs.IdsUnique.{Grant}

-- "`blocks` three words a block (first, last, node)"
unfoldable pub block_words : List Grant → List ℕ
block_words [] = []
block_words (g ∷ gs) = g.first ∷ g.last ∷ g.node ∷ block_words gs

-- "`holders_of` writes the nodes of the blocks that contain the id"
unfoldable pub holder_words : List Grant → List ℕ
holder_words [] = []
holder_words (g ∷ gs) = g.node ∷ holder_words gs

-- "output list shorter than the answer": refusal 8
abbrev pub too_short : List ℕ → List ℕ → Bool
too_short words out = ltb (length out) (length words)

-- how many a look-up lists, all of them written; none where the list is too short
abbrev pub Listed : Type 0
Listed = Option ℕ

-- the words, and "leave the rest of the list"; the list as it was where it is too short
pub record ListedIn (words out out' : List ℕ) (n : ℕ) (r : Listed) : Type 0 where
  pub list : out' ≡ cond (too_short words out) out (words ++ drop (length words) out)
  pub answer : r ≡ cond (too_short words out) None (Some n)

-- "A refusal returns its number ..; all buffers unchanged", of 8, whatever the work area holds
abbrev pub ShortKept : List ℕ → List ℕ → Listed → Type 0
ShortKept out out' r = r ≡ None → out' ≡ out
