-- A ticket's bytes read back as its count and record, and their parts as they are written. Assumes nothing.
use mathlib.Core.Path.{◌≡◌, sym, ap, ◌∙◌}
use mathlib.Core.Bool.{true}
use mathlib.Core.List.{List, ◌++◌, append_assoc}
use Prim.Native.Nat.{ℕ, ◌+◌, ◌^◌, ◌≤◌, ◌<◌}
use native.Mathlib.Omega.{arith}
use lib.ListN.{length, take, drop, length-append}
use lib.Seq.{sets, sets-eq, take_at, drop_at, drop-drop}
use lib.Dec.{eqb}
use borrow.Author.Tests.{leb-true, le-leb}
use Rattle.record.specs.Numbers.{little_endian, bytes_of}
use Rattle.record.proofs.Written.{bytes_length, bytes_read}
use Rattle.record.proofs.Booleans.{and_left}
use Rattle.ticket_bytes.specs.TicketBytes.{count_size, ticket_size, ticket_bytes, has_count, count_in, record_in, is_current}

pub ticket_length : (count : ℕ) (rec : List ℕ) → length (ticket_bytes count rec) ≡ count_size + length rec
unfolding ticket_bytes
ticket_length count rec = let a = length-append (bytes_of count_size count) rec in let b = bytes_length count_size count in omega arith

-- what is written has a count: the one given, where it is of 64 bits; and the record follows it
pub ticket_has_count : (count : ℕ) (rec : List ℕ) → has_count (ticket_bytes count rec) ≡ true
ticket_has_count count rec = let e = ticket_length count rec in le-leb count_size (length (ticket_bytes count rec)) (omega arith)

pub ticket_count : (count : ℕ) (rec : List ℕ) → count < 256 ^ count_size → count_in (ticket_bytes count rec) ≡ count
unfolding ticket_bytes
ticket_count count rec l =
    ap little_endian (take_at (bytes_of count_size count) rec count_size (bytes_length count_size count)) ∙ bytes_read count_size count l

pub ticket_record : (count : ℕ) (rec : List ℕ) → record_in (ticket_bytes count rec) ≡ rec
unfolding ticket_bytes
ticket_record count rec = drop_at (bytes_of count_size count) rec count_size (bytes_length count_size count)

-- a count that is current is there
pub current_has : (bytes : List ℕ) (count : ℕ) → is_current bytes count ≡ true → count_size ≤ length bytes
unfolding is_current
current_has bytes count e = leb-true count_size (length bytes) (and_left (has_count bytes) (eqb (count_in bytes) count) e)

-- the count written at the front, and then the record in the place of what follows it
pub ticket_written : (out rec : List ℕ) (count : ℕ) {counted part : List ℕ} → ticket_size ≤ length out → counted ≡ sets out 0 (bytes_of count_size count)
    → part ≡ rec → take count_size counted ++ (part ++ drop 368 (drop count_size counted)) ≡ ticket_bytes count rec ++ drop ticket_size out
unfolding ticket_bytes
ticket_written out rec count {counted} l e p =
    let bs = bytes_of count_size count in
    let n : length bs ≡ count_size = bytes_length count_size count in
    let k : 0 + length bs ≡ count_size = omega arith in
    let front : counted ≡ bs ++ drop count_size out = e ∙ sets-eq bs out 0 (omega arith) ∙ ap (λ (i : ℕ). bs ++ drop i out) k in
    let first : take count_size counted ≡ bs = ap (take count_size) front ∙ take_at bs (drop count_size out) count_size n in
    let rest : drop 368 (drop count_size counted) ≡ drop ticket_size out =
    ap (drop 368) (ap (drop count_size) front ∙ drop_at bs (drop count_size out) count_size n) ∙ drop-drop 368 count_size out in
    (λ i. first i ++ (p i ++ rest i)) ∙ sym (append_assoc bs rec (drop ticket_size out))
