-- The refusal of any list of bytes by its form: 1, 2, 3, 4 or none, in that order, as document 01's table has them.
use Rattle.std.specs.Prelude.{Bool, true, cond, not, ◌&&◌, ◌||◌, List, [], ◌∷◌, ◌++◌, ℕ, zero, suc, ◌+◌, ◌*◌, length, get_or, drop, replicate, eqb, leb, Some, None, Result, Ok, Err}
use Rattle.form.specs.declared.Flaw.{Flaw}
use Rattle.form.specs.declared.Flaw.TheVariants.{Length, Kind, Value, Unused}
use Rattle.form.specs.declared.kind.Values.{Values}
use Rattle.form.specs.declared.kind.Shape.{Shape}
use Rattle.record.specs.Limits.{record_size, key_limit, voters_at, spans_at}
use Rattle.record.specs.Numbers.{part, byte_at}
use Rattle.form.specs.KindTable.{shape_of, Shaped}

-- every byte of a list is zero
unfoldable pub all_zero : List ℕ → Bool
all_zero [] = true
all_zero (x ∷ xs) = eqb x 0 && all_zero xs

-- every byte from a up to e is zero
abbrev pub zeros : ℕ → ℕ → List ℕ → Bool
zeros a e s = all_zero (part a e s)

-- n places of keys, the first at p
unfoldable pub places_from : ℕ → ℕ → List ℕ → List (List ℕ)
places_from p zero s = []
places_from p (suc n) s = part p (p + 32) s ∷ places_from (p + 32) n s

-- the places of the counted spans' keys: a start and an end for each
abbrev pub key_places : List ℕ → List (List ℕ)
key_places s = places_from spans_at (2 * byte_at 49 s) s

unfoldable pub every : (List ℕ → Bool) → List (List ℕ) → Bool
every p [] = true
every p (x ∷ xs) = p x && every p xs

-- a key's length byte, which a key of at most 31 bytes has
abbrev pub length_fits : List ℕ → Bool
length_fits place = leb (get_or place 0 0) key_limit

-- a key's padding is zero
abbrev pub padded : List ℕ → Bool
padded place = all_zero (drop (1 + get_or place 0 0) place)

-- which bits of a place's bytes are padding's, for the code's look at all 32 of them: from 31 - n on, those after a key of n bytes
abbrev pub padding_bits : List ℕ
padding_bits = replicate 32 0 ++ replicate 31 255

-- a value is one of a kind's
abbrev pub within : Values → ℕ → Bool
within v n = leb v.low n && leb n v.high

-- refusal 3, of the first bytes: "node mark not 0 or 1; sub-code, flag, voter or span count outside its kind's values"
unfoldable pub counts_fit : Shape → List ℕ → Bool
counts_fit k s =
    leb (byte_at 1 s) 1
    && within k.codes (byte_at 2 s)
    && within k.flags (byte_at 3 s)
    && within k.voters (byte_at 48 s)
    && within k.spans (byte_at 49 s)

-- refusal 3: the above, or "a counted span's key length above 31"
unfoldable pub values_fit : Shape → List ℕ → Bool
values_fit k s = counts_fit k s && every length_fits (key_places s)

-- refusal 4, of the numbers: "a place the kind doesn't use is not zero", "a parent without the flag"
unfoldable pub numbers_clear : Shape → List ℕ → Bool
numbers_clear k s =
    (k.numbers.a || zeros 8 16 s)
    && (k.numbers.b || zeros 16 24 s)
    && ((k.numbers.c && (not k.parent || eqb (byte_at 3 s) 1)) || zeros 24 32 s)
    && (k.numbers.d || zeros 32 40 s)
    && (k.numbers.e || zeros 40 48 s)

-- refusal 4, of the spans: "spans past their counts, a key's padding, kind 3's end"
unfoldable pub spans_clear : Shape → List ℕ → Bool
spans_clear k s =
    zeros (spans_at + 64 * byte_at 49 s) record_size s
    && every padded (key_places s)
    && (k.ends || zeros (spans_at + 32) (spans_at + 64) s)

-- refusal 4: "an unmarked node", the numbers, "50 to 55 zero", "voters past their counts", the spans
unfoldable pub unused_clear : Shape → List ℕ → Bool
unused_clear k s =
    (eqb (byte_at 1 s) 1 || zeros 4 8 s)
    && numbers_clear k s
    && zeros 50 56 s
    && zeros (voters_at + 8 * byte_at 48 s) spans_at s
    && spans_clear k s

-- refusals 2, 3 and 4 of 368 bytes
abbrev pub shaped_refusal : Shaped → List ℕ → ℕ
shaped_refusal None s = 2
shaped_refusal (Some k) s = cond (values_fit k s) (cond (unused_clear k s) 0 4) 3

-- the refusal's number, 0 where the form draws none
unfoldable pub refusal_of : List ℕ → ℕ
refusal_of s = cond (eqb (length s) record_size) (shaped_refusal (shape_of (byte_at 0 s)) s) 1

-- document 01's number of each flaw, and of an answer, 0 where there is none
abbrev pub flaw_number : Flaw → ℕ
flaw_number Length = 1
flaw_number Kind = 2
flaw_number Value = 3
flaw_number Unused = 4

abbrev pub form_number : {A : Type 0} → Result A Flaw → ℕ
form_number (Ok _) = 0
form_number (Err flaw) = flaw_number flaw
