-- Words stored one after the other, and the rows of reports. Assumes nothing.
use mathlib.Core.Path.{◌≡◌, refl, sym, ap, ◌∙◌}
use mathlib.Core.List.{List, [], ◌∷◌, ◌++◌, append_assoc}
use Prim.Native.Nat.{ℕ, ◌+◌, ◌*◌, ◌≤◌, ◌<◌}
use native.Mathlib.Numerals.{add-one}
use native.Mathlib.Omega.{arith}
use lib.ListN.{length, get_or, take, length-append}
use lib.Seq.{sets, take-suc, take_all, length-take-le}
use Rattle.record.proofs.Lists.{sets_append}
use Rattle.rules.specs.declared.Report.{Report}
use Rattle.rules.specs.Reports.{passed}
use Rattle.rows.specs.Rows.{report_words, rows_of}

pub rows_append : (rs ss : List Report) → rows_of (rs ++ ss) ≡ rows_of rs ++ rows_of ss
unfolding rows_of
rows_append [] ss = refl
rows_append (r ∷ rs) ss = ap (λ (t : List ℕ). report_words r ++ t) (rows_append rs ss) ∙ sym (append_assoc (report_words r) (rows_of rs) (rows_of ss))

pub rows_one : (r : Report) → rows_of (r ∷ []) ≡ report_words r
unfolding rows_of
rows_one r = refl

pub length_rows : (rs : List Report) → length (rows_of rs) ≡ 7 * length rs
unfolding rows_of
length_rows [] = refl
length_rows (r ∷ rs) = length-append (report_words r) (rows_of rs) ∙ (let h = length_rows rs in omega arith)

pub rows_none : (l : List ℕ) (i : ℕ) (rs : List Report) → l ≡ sets l i (rows_of (take 0 rs))
unfolding rows_of
rows_none l i rs = refl

-- one row more
pub rows_more : (l m : List ℕ) (i : ℕ) (rs : List Report) (k : ℕ) → k < length rs → m ≡ sets l i (rows_of (take k rs))
    → sets m (i + 7 * k) (report_words (get_or rs k passed)) ≡ sets l i (rows_of (take (k + 1) rs))
rows_more l m i rs k h e =
    let t : take (k + 1) rs ≡ take k rs ++ (get_or rs k passed ∷ []) = ap (λ (n : ℕ). take n rs) (add-one k) ∙ take-suc rs k passed h in
    let r : rows_of (take (k + 1) rs) ≡ rows_of (take k rs) ++ report_words (get_or rs k passed) =
    ap rows_of t ∙ rows_append (take k rs) (get_or rs k passed ∷ []) ∙ ap (λ (w : List ℕ). rows_of (take k rs) ++ w) (rows_one (get_or rs k passed)) in
    let n : length (rows_of (take k rs)) ≡ 7 * k = length_rows (take k rs) ∙ ap (λ (m : ℕ). 7 * m) (length-take-le k rs (omega arith)) in
    ap (λ (w : List ℕ). sets w (i + 7 * k) (report_words (get_or rs k passed))) e
    ∙ ap (λ (p : ℕ). sets (sets l i (rows_of (take k rs))) (i + p) (report_words (get_or rs k passed))) (sym n)
    ∙ sym (sets_append l i (rows_of (take k rs)) (report_words (get_or rs k passed)))
    ∙ ap (sets l i) (sym r)

-- all the rows
pub rows_all : (l m : List ℕ) (i : ℕ) (rs : List Report) (k : ℕ) → length rs ≤ k → m ≡ sets l i (rows_of (take k rs)) → m ≡ sets l i (rows_of rs)
rows_all l m i rs k h e = e ∙ ap (λ (t : List Report). sets l i (rows_of t)) (take_all k rs h)
