-- Words read as reports are those words again, and reports written as words read back. Assumes nothing.
use Rattle.std.specs.Prelude.{map}
use Rattle.std.specs.List.{range_with_len}
use mathlib.Core.Path.{◌≡◌, refl, sym, ap, ◌∙◌, subst}
use mathlib.Core.Bool.{true}
use mathlib.Core.List.{List, [], ◌∷◌, ◌++◌, append_assoc}
use Prim.Native.Nat.{ℕ, zero, suc, ◌+◌, ◌*◌, ◌≤◌, ◌<◌}
use native.Mathlib.Decide.{ℕ_discrete}
use Rattle.std.proofs.Common.{add-zero, add_assoc}
use native.Mathlib.Omega.{arith}
use borrow.Author.Tests.{leb-true, le-leb}
use lib.ListN.{length, get_or, drop, set, length-append, drop_of_length-le}
use lib.Seq.{sets, drop-cons, get_or-append-add}
use Rattle.record.proofs.Lists.{sets_tail}
use Rattle.rules.specs.declared.Report.{Report}
use Rattle.rules.specs.declared.Verdict.{Verdict}
use Rattle.rules.specs.declared.Verdict.TheVariants.{Pass, Faulted}
use Rattle.rules.specs.Reports.{passed}
use Rattle.rules.specs.Checks.{check_count}
use Rattle.record.proofs.Booleans.{and_left, and_right, both}
use Rattle.rows.specs.Rows.{rows_size, kind_word, report_words, rows_of, verdict_in, report_in, reports_from, reports_in, KindsFit, kinds_fit_in, kinds_fit}

-- ---- from words to reports and back to the words

kind_read : (w : ℕ) → kind_word (verdict_in w) ≡ w
kind_read zero = refl
kind_read (suc k) = refl

step : {A : Type 0} (l : List A) (d : A) (i j : ℕ) → j ≡ i + 1 → i < length l → drop i l ≡ get_or l i d ∷ drop j l
step l d i j e h =
    let n : suc i ≡ j = omega arith in
    drop-cons l i d h ∙ ap (λ (k : ℕ). get_or l i d ∷ drop k l) n

-- seven words from a place on are those of the report read there
row_read : (words : List ℕ) (at : ℕ) → at + 7 ≤ length words → drop at words ≡ report_words (report_in words at) ++ drop (at + 7) words
unfolding report_in
row_read words at h =
    let k = kind_read (get_or words at 0) in
    let s0 = step words 0 at (at + 1) (omega arith) (omega arith) in
    let s1 = step words 0 (at + 1) (at + 2) (omega arith) (omega arith) in
    let s2 = step words 0 (at + 2) (at + 3) (omega arith) (omega arith) in
    let s3 = step words 0 (at + 3) (at + 4) (omega arith) (omega arith) in
    let s4 = step words 0 (at + 4) (at + 5) (omega arith) (omega arith) in
    let s5 = step words 0 (at + 5) (at + 6) (omega arith) (omega arith) in
    let s6 = step words 0 (at + 6) (at + 7) (omega arith) (omega arith) in
    rw (k, s0, s1, s2, s3, s4, s5, s6)

-- so many words from a place to the end are those of the reports read there
rows_from : (n : ℕ) (words : List ℕ) (at : ℕ) → at + 7 * n ≡ length words → drop at words ≡ rows_of (reports_from n words at)
unfolding rows_of reports_from
rows_from zero words at e = drop_of_length-le words {i = at} (omega arith)
rows_from (suc n) words at e =
    row_read words at (omega arith)
    ∙ ap (λ (t : List ℕ). report_words (report_in words at) ++ t) (rows_from n words (at + 7) (omega arith))

-- rows are the words of the reports that they stand for
pub rows_read : (rows : List ℕ) → length rows ≡ rows_size → rows ≡ rows_of (reports_in rows 0)
rows_read rows e = rows_from check_count rows 0 (omega arith)

pub reports_count : (n : ℕ) (words : List ℕ) (at : ℕ) → length (reports_from n words at) ≡ n
unfolding reports_from
reports_count zero words at = refl
reports_count (suc n) words at = ap suc (reports_count n words (at + 7))

-- ---- from reports to words and back to the reports

-- a verdict that its word gives back: a fault's kind is not 0
abbrev pub ReadsBack : Verdict → Type 0
ReadsBack Pass = Unit {0}
ReadsBack (Faulted kind) = 1 ≤ kind

abbrev pub AllRead : List Report → Type 0
AllRead [] = Unit {0}
AllRead (r ∷ rs) = ReadsBack r.verdict × AllRead rs

verdict_back : (v : Verdict) → ReadsBack v → verdict_in (kind_word v) ≡ v
verdict_back Pass h = refl
verdict_back (Faulted zero) h = absurd (omega arith)
verdict_back (Faulted (suc k)) h = refl

report_back : (r : Report) {v : Verdict} → v ≡ r.verdict → ◌≡◌ {A = Report} (record { verdict = v; at = r.at; evidence = r.evidence }) r
report_back r e = λ i. record { verdict = e i; at = r.at; evidence = r.evidence }

-- the report at the seam of two lists is the second's first
seam : (pre words : List ℕ) → report_in (pre ++ words) (length pre) ≡ report_in words 0
unfolding report_in
seam pre words =
    let g : (i : ℕ) → get_or (pre ++ words) (length pre + i) 0 ≡ get_or words i 0 = λ i. get_or-append-add pre words i 0 in
    let z : length pre + 0 ≡ length pre = omega arith in
    let g0 : get_or (pre ++ words) (length pre) 0 ≡ get_or words 0 0 = ap (λ (n : ℕ). get_or (pre ++ words) n 0) (sym z) ∙ g 0 in
    λ i. record {
      verdict = verdict_in (g0 i);
      at = g 1 i;
      evidence = record { e0 = g 2 i; e1 = g 3 i; e2 = g 4 i; e3 = g 5 i; e4 = g 6 i };
    }

first_back : (r : Report) (t : List ℕ) → ReadsBack r.verdict → report_in (report_words r ++ t) 0 ≡ r
unfolding report_in
first_back r t b = report_back r (verdict_back r.verdict b)

from_back : (pre : List ℕ) (rs : List Report) → AllRead rs → reports_from (length rs) (pre ++ rows_of rs) (length pre) ≡ rs
unfolding reports_from rows_of
from_back pre [] a = refl
from_back pre (r ∷ rs) a =
    let f : report_in (pre ++ (report_words r ++ rows_of rs)) (length pre) ≡ r = seam pre (report_words r ++ rows_of rs) ∙ first_back r (rows_of rs) a.0 in
    let w : pre ++ (report_words r ++ rows_of rs) ≡ (pre ++ report_words r) ++ rows_of rs = sym (append_assoc pre (report_words r) (rows_of rs)) in
    let n : length pre + 7 ≡ length (pre ++ report_words r) = sym (length-append pre (report_words r)) in
    let t : reports_from (length rs) (pre ++ (report_words r ++ rows_of rs)) (length pre + 7) ≡ rs =
    (λ i. reports_from (length rs) (w i) (n i)) ∙ from_back (pre ++ report_words r) rs a.1 in
    λ i. f i ∷ t i

-- the words of reports read back
pub rows_back : (rs : List Report) → length rs ≡ check_count → AllRead rs → reports_in (rows_of rs) 0 ≡ rs
rows_back rs e a = ap (λ (n : ℕ). reports_from n (rows_of rs) 0) (sym e) ∙ from_back [] rs a

-- ---- one row

-- a report's words stored at its row
pub rows_set : (rs : List Report) (k : ℕ) (r : Report) → k < length rs → sets (rows_of rs) (7 * k) (report_words r) ≡ rows_of (set rs k r)
unfolding rows_of
rows_set [] k r l = absurd (omega arith)
rows_set (s ∷ rs) zero r l = refl
rows_set (s ∷ rs) (suc k) r l =
    let e : 7 * suc k ≡ 7 + 7 * k = omega arith in
    ap (λ (n : ℕ). sets (report_words s ++ rows_of rs) n (report_words r)) e
    ∙ sets_tail (report_words s) (rows_of rs) (7 * k) (report_words r)
    ∙ ap (λ (t : List ℕ). report_words s ++ t) (rows_set rs k r (omega arith))

-- the kind at a row
pub row_kind : (rs : List Report) (k : ℕ) → k < length rs → get_or (rows_of rs) (7 * k) 0 ≡ kind_word (get_or rs k passed).verdict
unfolding rows_of
row_kind [] k l = absurd (omega arith)
row_kind (s ∷ rs) zero l = refl
row_kind (s ∷ rs) (suc k) l =
    let e : 7 * suc k ≡ 7 + 7 * k = omega arith in
    ap (λ (n : ℕ). get_or (report_words s ++ rows_of rs) n 0) e
    ∙ get_or-append-add (report_words s) (rows_of rs) (7 * k) 0
    ∙ row_kind rs k (omega arith)

-- ---- reports read one after the other

-- all of them, by their places
pub reports_range : (words : List ℕ) (at : ℕ) → map (λ k. report_in words (at + 7 * k)) (range_with_len 0 check_count) ≡ reports_in words at
unfolding reports_from
reports_range words at = simp (add-zero, add_assoc)

-- ---- kinds that are bytes

-- what the test says, of the first n
fit_in : (n : ℕ) (words : List ℕ) (at : ℕ) → kinds_fit_in n words at ≡ true → (k : ℕ) → k < n → get_or words (at + 7 * k) 0 ≤ 255
unfolding kinds_fit_in
fit_in zero words at e k l = absurd (omega arith)
fit_in (suc n) words at e k l = elim (ℕ_discrete k n) [
  | yes q ↦ subst (λ (m : ℕ). get_or words (at + 7 * m) 0 ≤ 255) (sym q) (leb-true _ 255 (and_right (kinds_fit_in n words at) _ e))
  | no q ↦ fit_in n words at (and_left (kinds_fit_in n words at) _ e) k (omega arith)
]

in_fit : (n : ℕ) (words : List ℕ) (at : ℕ) → ((k : ℕ) → k < n → get_or words (at + 7 * k) 0 ≤ 255) → kinds_fit_in n words at ≡ true
unfolding kinds_fit_in
in_fit zero words at h = refl
in_fit (suc n) words at h = both (in_fit n words at (λ k l. h k (omega arith))) (le-leb _ 255 (h n (omega arith)))

-- the test is true exactly where each kind is a byte
pub kinds_fit_lem : (words : List ℕ) (at : ℕ) → kinds_fit words at ≡ true → KindsFit words at
kinds_fit_lem words at e = record { kind = fit_in check_count words at e }

pub fit_kinds : (words : List ℕ) (at : ℕ) → KindsFit words at → kinds_fit words at ≡ true
fit_kinds words at f = in_fit check_count words at f.kind

-- the kinds of rows are their reports'
pub fit_rows : (rs : List Report) → length rs ≡ check_count → ((k : ℕ) → k < check_count → kind_word (get_or rs k passed).verdict ≤ 255)
    → KindsFit (rows_of rs) 0
fit_rows rs n h =
    record {
      kind = λ k l.
          let z : 7 * k ≡ 0 + 7 * k = omega arith in
          subst (λ (m : ℕ). get_or (rows_of rs) m 0 ≤ 255) z (subst (λ (w : ℕ). w ≤ 255) (sym (row_kind rs k (omega arith))) (h k l));
    }
