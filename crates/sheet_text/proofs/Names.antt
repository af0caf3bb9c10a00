-- The names of the checks: each fits its size and has no space, and a table of them has each at its place.
use mathlib.Core.Path.{◌≡◌, refl, ◌∙◌}
use mathlib.Core.Bool.{Bool, true, ◌&&◌}
use mathlib.Core.List.{List, [], ◌∷◌}
use Prim.Native.Nat.{ℕ, ◌≤◌, ◌<◌}
use lib.ListN.{length, get_or}
use lib.Dec.{ltb, leb}
use borrow.Author.Tests.{leb-true}
use Rattle.std.proofs.Common.{Bor, sym, map}
use Rattle.std.proofs.lemmas.List.{get_or_default}
use lib.ListN.{get_or-map}
use Rattle.rules.specs.Checks.{Check, checks, check_count, check_at}
use Rattle.rules.proofs.Checks.{check_at_lem, all_by, every_by}
use Rattle.sheet_text.specs.Sheets.{text, name_at, name_size}

-- ---- what holds of each name

-- a word: each of its bytes is above that of a space
unfoldable pub worded : List ℕ → Bool
worded [] = true
worded (x ∷ xs) = ltb 32 x && worded xs

pub name_short : (k : ℕ) → k < check_count → length (name_at k) ≤ name_size
unfolding all_by
name_short k l =
    let f : (c : Check) → Bool = λ c. leb (length (text c.name)) name_size in
    leb-true (length (name_at k)) name_size (check_at_lem (λ c. f c ≡ true) (every_by f checks refl) k l)

pub name_worded : (k : ℕ) → k < check_count → worded (name_at k) ≡ true
unfolding all_by worded
name_worded k l =
    let f : (c : Check) → Bool = λ c. worded (text c.name) in
    check_at_lem (λ c. f c ≡ true) (every_by f checks refl) k l

-- ---- a table of the names

-- the text at a place of texts that are lent is that of the texts
pub lent_at : (table : List (Bor (List ℕ))) (k : ℕ) (d : Bor (List ℕ)) → (get_or table k d).now ≡ get_or (map (λ r. r.now) table) k d.now
lent_at table k d = sym (get_or-map (λ (r : Bor (List ℕ)). r.now) table k d)

-- the texts of all names have the name of each check at its place
pub names_at : (k : ℕ) → k < check_count → get_or (map (λ c. text c.name) checks) k [] ≡ name_at k
names_at k l = get_or_default (map (λ c. text c.name) checks) k [] (name_at check_count) l ∙ get_or-map (λ (c : Check). text c.name) checks k (check_at check_count)
