-- The printed sheet of a trace, as bytes: document 01's section "Printed sheet".
use Rattle.std.specs.Prelude.{ℕ, zero, suc, ◌+◌, ◌*◌, ◌/◌, ◌%◌, cond, List, [], ◌∷◌, ◌++◌, length, get_or, drop, ltb, leb, eqb}
use Prim.Native.Char.{code}
use Prim.Native.String.{String, [] as empty, ◌∷◌ as ◌followed◌}
use Rattle.rules.specs.declared.Evidence.{Evidence}
use Rattle.rules.specs.declared.Report.{Report}
use Rattle.rules.specs.declared.Verdict.{Verdict}
use Rattle.rules.specs.declared.Verdict.TheVariants.{Pass, Faulted}
use Rattle.rules.specs.Reports.{passed}
use Rattle.rules.specs.Checks.{check_count, check_at}

-- the bytes of a text, one for each of its characters, which are ASCII
abbrev pub text : String → List ℕ
text empty = []
text (c followed s) = code c ∷ text s

-- a number in decimal, without leading zeros: below ten its digit alone; else its tenth part in decimal, and then its last
-- digit. A tenth part is smaller than its number, so that n steps are enough for n
unfoldable pub decimal_in : ℕ → ℕ → List ℕ
decimal_in zero n = (48 + n) ∷ []
decimal_in (suc steps) n = cond (ltb n 10) ((48 + n) ∷ []) (decimal_in steps (n / 10) ++ ((48 + n % 10) ∷ []))

unfoldable pub decimal : ℕ → List ℕ
decimal n = decimal_in n n

-- a number after a space
unfoldable pub spaced : ℕ → List ℕ
spaced n = text " " ++ decimal n

-- "the five evidence numbers"
unfoldable pub evidence_text : Evidence → List ℕ
evidence_text e = spaced e.e0 ++ spaced e.e1 ++ spaced e.e2 ++ spaced e.e3 ++ spaced e.e4

-- "Line: check, then `pass`, or `fault` kind `at` record, a colon and the five evidence numbers"
unfoldable pub pass_line : List ℕ → List ℕ
pass_line name = name ++ text " pass\n"

unfoldable pub fault_line : List ℕ → ℕ → ℕ → Evidence → List ℕ
fault_line name kind at e = name ++ text " fault" ++ spaced kind ++ text " at" ++ spaced at ++ text ":" ++ evidence_text e ++ text "\n"

abbrev pub line_of : List ℕ → Verdict → ℕ → Evidence → List ℕ
line_of name Pass at e = pass_line name
line_of name (Faulted kind) at e = fault_line name kind at e

abbrev pub line : List ℕ → Report → List ℕ
line name r = line_of name r.verdict r.at r.evidence

-- a check's name in bytes, by its place in the table; the bytes that hold every name, and every check's line
abbrev pub name_at : ℕ → List ℕ
name_at k = text (check_at k).name

abbrev pub name_size : ℕ
name_size = 11

abbrev pub line_size : ℕ
line_size = name_size + 158

-- the lines of the first so many checks of the table, in printing order, each with its report; one that is missing reads as a pass
unfoldable pub lines_to : ℕ → List Report → List ℕ
lines_to zero reports = []
lines_to (suc k) reports = lines_to k reports ++ line (name_at k) (get_or reports k passed)

-- of all checks
abbrev pub lines : List Report → List ℕ
lines reports = lines_to check_count reports

abbrev pub lines_size : ℕ
lines_size = line_size * check_count

-- "The last line is `records` and those taken; after a refusal it goes on with `refused` number `at` record"
unfoldable pub refused_text : ℕ → ℕ → List ℕ
refused_text refusal at = cond (eqb refusal 0) [] (text " refused" ++ spaced refusal ++ text " at" ++ spaced at)

unfoldable pub last_line : ℕ → ℕ → ℕ → List ℕ
last_line records refusal at = text "records" ++ spaced records ++ refused_text refusal at ++ text "\n"

-- the whole sheet
unfoldable pub sheet_text : List Report → ℕ → ℕ → ℕ → List ℕ
sheet_text reports records refusal at = lines reports ++ last_line records refusal at

-- a text's first line, with the newline (byte 10) that ends it, and what stands after it
unfoldable pub first_line : List ℕ → List ℕ
first_line [] = []
first_line (b ∷ bs) = cond (eqb b 10) (b ∷ []) (b ∷ first_line bs)

unfoldable pub after_line : List ℕ → List ℕ
after_line [] = []
after_line (b ∷ bs) = cond (eqb b 10) bs (after_line bs)

-- the lines of a text by their numbers from 0; past the last there is nothing
unfoldable pub line_at : ℕ → List ℕ → List ℕ
line_at zero bytes = first_line bytes
line_at (suc k) bytes = line_at k (after_line bytes)

-- the bytes that hold every sheet
abbrev pub sheet_size : ℕ
sheet_size = 2048

-- what a list of bytes is after a text was written to its front: one too short for every sheet stays as it was
abbrev pub printed : List ℕ → List ℕ → List ℕ
printed bytes out = cond (leb sheet_size (length out)) (bytes ++ drop (length bytes) out) out

abbrev pub printed_length : List ℕ → List ℕ → ℕ
printed_length bytes out = cond (leb sheet_size (length out)) (length bytes) 0
