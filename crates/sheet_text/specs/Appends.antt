-- Text appended to a text in its buffer.
use Rattle.std.specs.Prelude.{◌≡◌, List, ℕ, ◌+◌, ◌≤◌, length}
use Rattle.std.proofs.lemmas.List.Edits.{sets}
use Rattle.sheet_text.specs.declared.text.Text.{Text}

-- text' is the text with bytes, of at most so many, after it: stored byte by byte from its end on in the same buffer, of which no other
-- byte changed
pub record Appended (most : ℕ) (text text' : Text) (bytes : List ℕ) : Type 0 where
  pub same : text'.out.ghost_name ≡ text.out.ghost_name
  pub size : length text'.out.now ≡ length text.out.now
  pub short : length bytes ≤ most
  pub end : text'.end ≡ text.end + length bytes
  pub is : text'.out.now ≡ sets text.out.now text.end bytes
