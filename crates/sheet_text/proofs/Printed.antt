-- What a buffer is after a sheet was written to its front: of one that holds every sheet, and of any.
use mathlib.Core.Path.{◌≡◌, sym, ap, ◌∙◌}
use mathlib.Core.Bool.{Bool, true, false, cond}
use mathlib.Core.List.{List, ◌++◌}
use Prim.Native.Nat.{ℕ, ◌+◌, ◌≤◌}
use native.Mathlib.Omega.{arith}
use lib.ListN.{length, take, drop, length-append, length-drop}
use lib.Seq.{take_at}
use lib.Dec.{leb}
use borrow.Author.Tests.{le-leb}
use Rattle.sheet_text.specs.Sheets.{lines_size, sheet_size, printed, printed_length}
use Rattle.sheet_text.specs.declared.text.Text.{Text}
use Rattle.sheet_text.specs.Appends.{Appended}
use Rattle.sheet_text.proofs.Appends.{appended_front}

pub long_sheet : {text text' : Text} {bytes : List ℕ} → text.end ≡ 0 → sheet_size ≤ length text.out.now → Appended (lines_size + 82) text text' bytes
    → (text'.end ≡ printed_length bytes text.out.now) × (text'.out.now ≡ printed bytes text.out.now)
long_sheet {text} {text'} {bytes} z l w =
    let out = text.out.now in
    let e = le-leb sheet_size (length out) l in
    let f = appended_front z (omega arith) w in
    (f.0 ∙ sym (ap (λ (b : Bool). cond b (length bytes) 0) e), f.1 ∙ sym (ap (λ (b : Bool). cond b (bytes ++ drop (length bytes) out) out) e))

-- the length lies within a buffer that has kept its own
pub printed_within : (bytes out : List ℕ) {out' : List ℕ} {r : ℕ} → r ≡ printed_length bytes out → out' ≡ printed bytes out → length out' ≡ length out
    → r ≤ length out'
printed_within bytes out {out'} {r} e f k = within_by (leb sheet_size (length out)) e f k
  where
    within_by : (b : Bool) → r ≡ cond b (length bytes) 0 → out' ≡ cond b (bytes ++ drop (length bytes) out) out → length out' ≡ length out
        → r ≤ length out'
    within_by true e f k = omega (arith, ap length f, length-append bytes (drop (length bytes) out), length-drop (length bytes) out)
    within_by false e f k = omega arith

-- what stands at the front of a buffer that holds every sheet is the text
pub printed_front : (bytes out : List ℕ) {out' : List ℕ} {r : ℕ} → sheet_size ≤ length out → r ≡ printed_length bytes out → out' ≡ printed bytes out
    → take r out' ≡ bytes
printed_front bytes out {out'} {r} l e f =
    let b = le-leb sheet_size (length out) l in
    let n : r ≡ length bytes = e ∙ ap (λ (b : Bool). cond b (length bytes) 0) b in
    let o : out' ≡ bytes ++ drop (length bytes) out = f ∙ ap (λ (b : Bool). cond b (bytes ++ drop (length bytes) out) out) b in
    ap (take r) o ∙ take_at bytes (drop (length bytes) out) r (sym n)
