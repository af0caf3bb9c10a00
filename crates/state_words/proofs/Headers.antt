-- Words and the rows after their header. Assumes nothing.
use mathlib.Core.Path.{◌≡◌, refl, sym, ap, ◌∙◌, subst}
use mathlib.Core.List.{List, [], ◌∷◌, ◌++◌, append-nil}
use Prim.Native.Nat.{ℕ, zero, suc, ◌+◌, ◌*◌, ◌≤◌, ◌<◌}
use native.Mathlib.Omega.{arith}
use lib.ListN.{length, get_or, take, drop, set, length-drop, drop_of_length-le, take-append-drop}
use lib.Seq.{drop-cons, get_or-drop, take_all}
use Rattle.rules.specs.declared.Opening.{Opening}
use Rattle.rules.specs.declared.Report.{Report}
use Rattle.rows.specs.Rows.{rows_size, verdict_in, report_in, reports_from, reports_in, KindsFit}
use Rattle.rows.proofs.ReadBack.{rows_read}
use Rattle.judge.specs.declared.state.Judge.{Judge}
use Rattle.judge.specs.Traces.{judge_by}
use Rattle.rules.specs.Checks.{check_count}
use Rattle.state_words.specs.StateWords.{header_size, state_size, state_words, judge_in}

-- ---- what is read past some words is read in what is after them

report_after : (n : ℕ) (words : List ℕ) (at : ℕ) → report_in (drop n words) at ≡ report_in words (n + at)
unfolding report_in
report_after n words at =
    let g : (i : ℕ) → get_or (drop n words) (at + i) 0 ≡ get_or words (n + at + i) 0 =
    λ i. get_or-drop n words (at + i) 0 ∙ ap (λ (k : ℕ). get_or words k 0) (omega arith) in
    λ i. record {
      verdict = verdict_in (get_or-drop n words at 0 i);
      at = g 1 i;
      evidence = record { e0 = g 2 i; e1 = g 3 i; e2 = g 4 i; e3 = g 5 i; e4 = g 6 i };
    }

reports_after : (m n : ℕ) (words : List ℕ) (at : ℕ) → reports_from m (drop n words) at ≡ reports_from m words (n + at)
unfolding reports_from
reports_after zero n words at = refl
reports_after (suc m) n words at =
    let e : n + (at + 7) ≡ n + at + 7 = omega arith in
    let t = reports_after m n words (at + 7) ∙ ap (reports_from m words) e in
    λ i. report_after n words at i ∷ t i

-- the reports past the header are those of the rows
pub reports_rows : (words : List ℕ) → reports_in (drop header_size words) 0 ≡ reports_in words header_size
reports_rows words = reports_after check_count header_size words 0

kind_after : (words : List ℕ) (k : ℕ) → get_or (drop header_size words) (0 + 7 * k) 0 ≡ get_or words (header_size + 7 * k) 0
kind_after words k = get_or-drop header_size words (0 + 7 * k) 0 ∙ ap (λ (n : ℕ). get_or words n 0) (omega arith)

-- and so are the kinds, both ways
pub kinds_rows : (words : List ℕ) → KindsFit words header_size → KindsFit (drop header_size words) 0
kinds_rows words f = record { kind = λ k l. subst (λ (w : ℕ). w ≤ 255) (sym (kind_after words k)) (f.kind k l) }

pub rows_kinds : (words : List ℕ) → KindsFit (drop header_size words) 0 → KindsFit words header_size
rows_kinds words f = record { kind = λ k l. subst (λ (w : ℕ). w ≤ 255) (kind_after words k) (f.kind k l) }

-- ---- the judge of a header and rows

abbrev pub opening_in : List ℕ → Opening
opening_in words = record { tenant = get_or words 3 0 }

-- the judge read from words is that of the header's numbers and the rows
pub judge_by_lem : (words : List ℕ)
    → judge_by (opening_in words) (get_or words 0 0) (get_or words 1 0) (get_or words 2 0) (drop header_size words) ≡ judge_in words
unfolding judge_in
judge_by_lem words =
    let read : List Report → Judge =
    λ rs. record { capacity = get_or words 0 0; count = get_or words 1 0; events = get_or words 2 0; opening = opening_in words; reports = rs } in
    ap read (reports_rows words)

-- the words of such a judge are the header's numbers and the rows
pub words_by : (cap n e tenant : ℕ) (rows : List ℕ) → length rows ≡ rows_size
    → cap ∷ n ∷ e ∷ tenant ∷ rows ≡ state_words (judge_by (record { tenant = tenant }) cap n e rows)
unfolding state_words
words_by cap n e tenant rows s = ap (λ (t : List ℕ). cap ∷ n ∷ e ∷ tenant ∷ t) (rows_read rows s)

-- words are their header's numbers and what is after them
pub header_read : (words : List ℕ) → header_size ≤ length words
    → words ≡ get_or words 0 0 ∷ get_or words 1 0 ∷ get_or words 2 0 ∷ get_or words 3 0 ∷ drop header_size words
header_read words h =
    let s : (i : ℕ) → i < header_size → drop i words ≡ get_or words i 0 ∷ drop (suc i) words = λ i l. drop-cons words i 0 (omega arith) in
    s 0 (omega arith)
    ∙ ap (λ (t : List ℕ). get_or words 0 0 ∷ t) (s 1 (omega arith))
    ∙ ap (λ (t : List ℕ). get_or words 0 0 ∷ get_or words 1 0 ∷ t) (s 2 (omega arith))
    ∙ ap (λ (t : List ℕ). get_or words 0 0 ∷ get_or words 1 0 ∷ get_or words 2 0 ∷ t) (s 3 (omega arith))

pub rows_length : (words : List ℕ) → length words ≡ state_size → length (drop header_size words) ≡ rows_size
rows_length words h = let d = length-drop header_size words in omega arith

-- ---- the rows as a part of the words, lent to be altered

-- the part past the header, and the words with other rows in its place
abbrev pub rows_part : List ℕ → List ℕ
rows_part words = take rows_size (drop header_size words)

abbrev pub with_rows : List ℕ → List ℕ → List ℕ
with_rows words rows = take header_size words ++ (rows ++ drop rows_size (drop header_size words))

module _ (words : List ℕ) (size : length words ≡ state_size) where
  part_rows : rows_part words ≡ drop header_size words
  part_rows = let n = rows_length words size in take_all rows_size (drop header_size words) (omega arith)

  pub part_size : length (rows_part words) ≡ rows_size
  part_size = ap length part_rows ∙ rows_length words size

  -- the judge of the header's numbers and the part is the one that the words stand for
  pub judge_part : judge_by (opening_in words) (get_or words 0 0) (get_or words 1 0) (get_or words 2 0) (rows_part words) ≡ judge_in words
  judge_part = ap (judge_by (opening_in words) (get_or words 0 0) (get_or words 1 0) (get_or words 2 0)) part_rows ∙ judge_by_lem words

  -- with the part as it was, the words are as they were
  pub with_same : {rows : List ℕ} → rows ≡ rows_part words → with_rows words rows ≡ words
  with_same e =
      ap (with_rows words) e
      ∙ ap (λ (t : List ℕ). take header_size words ++ t) (take-append-drop rows_size (drop header_size words))
      ∙ take-append-drop header_size words

  with_read : (rows : List ℕ) → with_rows words rows ≡ get_or words 0 0 ∷ get_or words 1 0 ∷ get_or words 2 0 ∷ get_or words 3 0 ∷ rows
  with_read rows =
      let n = rows_length words size in
      let none : drop rows_size (drop header_size words) ≡ [] = drop_of_length-le (drop header_size words) {i = rows_size} (omega arith) in
      let header : take header_size words ≡ get_or words 0 0 ∷ get_or words 1 0 ∷ get_or words 2 0 ∷ get_or words 3 0 ∷ [] =
      ap (take header_size) (header_read words (omega arith)) in
      ap (λ (t : List ℕ). take header_size words ++ (rows ++ t)) none
      ∙ ap (λ (t : List ℕ). take header_size words ++ t) (append-nil rows)
      ∙ ap (λ (t : List ℕ). t ++ rows) header

  pub with_size : (rows : List ℕ) → length rows ≡ rows_size → length (with_rows words rows) ≡ state_size
  with_size rows e = let l = ap length (with_read rows) in omega arith

  -- with other rows, another count and other events they are those of the judge of these
  pub with_counts : (rows : List ℕ) (n e : ℕ) → length rows ≡ rows_size
      → set (set (with_rows words rows) 1 n) 2 e ≡ state_words (judge_by (opening_in words) (get_or words 0 0) n e rows)
  with_counts rows n e s =
      ap (λ (l : List ℕ). set (set l 1 n) 2 e) (with_read rows) ∙ words_by (get_or words 0 0) n e (get_or words 3 0) rows s
