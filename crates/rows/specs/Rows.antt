-- Reports as words, seven for each check in printing order, and the way back.
use Rattle.std.specs.Prelude.{◌≡◌, Bool, true, ◌&&◌, List, [], ◌∷◌, ◌++◌, ℕ, zero, suc, ◌+◌, ◌*◌, ◌≤◌, ◌<◌, length, get_or, leb, None, Some}
use Rattle.std.proofs.lemmas.List.Edits.{sets}
use Rattle.rules.specs.Cases.{Case}
use Rattle.rules.specs.declared.Report.{Report}
use Rattle.rules.specs.declared.Verdict.{Verdict}
use Rattle.rules.specs.declared.Verdict.TheVariants.{Pass, Faulted}
use Rattle.rules.specs.Reports.{passed, faulted}
use Rattle.rules.specs.Checks.{check_count}

-- the words of all reports
abbrev pub rows_size : ℕ
rows_size = 7 * check_count

-- a report's kind as a word: 0 for a pass
abbrev pub kind_word : Verdict → ℕ
kind_word Pass = 0
kind_word (Faulted kind) = kind

-- a report's seven words: kind, position, five evidence numbers
abbrev pub report_words : Report → List ℕ
report_words r =
    kind_word r.verdict ∷ r.at ∷ r.evidence.e0 ∷ r.evidence.e1 ∷ r.evidence.e2 ∷ r.evidence.e3 ∷ r.evidence.e4 ∷ []

-- the words of several reports, one after the other
unfoldable pub rows_of : List Report → List ℕ
rows_of [] = []
rows_of (r ∷ rs) = report_words r ++ rows_of rs

-- the way back: a word is a pass, or a fault's kind
abbrev pub verdict_in : ℕ → Verdict
verdict_in zero = Pass
verdict_in (suc k) = Faulted (suc k)

-- the report whose seven words begin at a place
unfoldable pub report_in : List ℕ → ℕ → Report
report_in words at = record {
  verdict = verdict_in (get_or words at 0);
  at = get_or words (at + 1) 0;
  evidence = record {
    e0 = get_or words (at + 2) 0;
    e1 = get_or words (at + 3) 0;
    e2 = get_or words (at + 4) 0;
    e3 = get_or words (at + 5) 0;
    e4 = get_or words (at + 6) 0;
  };
}

-- so many reports whose words begin at a place
unfoldable pub reports_from : ℕ → List ℕ → ℕ → List Report
reports_from zero words at = []
reports_from (suc n) words at = report_in words at ∷ reports_from n words (at + 7)

-- all of them
abbrev pub reports_in : List ℕ → ℕ → List Report
reports_in words at = reports_from check_count words at

-- each kind is a byte
pub record KindsFit (words : List ℕ) (at : ℕ) : Type 0 where
  pub kind : (k : ℕ) → k < check_count → get_or words (at + 7 * k) 0 ≤ 255

-- the same as a test, of the first n
unfoldable pub kinds_fit_in : ℕ → List ℕ → ℕ → Bool
kinds_fit_in zero words at = true
kinds_fit_in (suc n) words at = kinds_fit_in n words at && leb (get_or words (at + 7 * n) 0) 255

abbrev pub kinds_fit : List ℕ → ℕ → Bool
kinds_fit words at = kinds_fit_in check_count words at

-- the words of reports written from a place on
pub record WrittenIn (out : List ℕ) (at : ℕ) (reports : List Report) (out' : List ℕ) : Type 0 where
  pub many : length reports ≡ check_count
  pub kinds : (k : ℕ) → k < check_count → kind_word (get_or reports k passed).verdict ≤ 255
  pub is : out' ≡ sets out at (rows_of reports)

-- a row after a check said c of the record at a position
abbrev pub entered_in : List ℕ → ℕ → Case → ℕ → List ℕ
entered_in rows k None position = rows
entered_in rows k (Some f) position = sets rows (7 * k) (report_words (faulted position f.kind f.evidence))

-- what entering a case leaves: the row of a fault, whose kind is a byte as the others are
pub record EntersIn (rows : List ℕ) (k : ℕ) (c : Case) (position : ℕ) (rows' : List ℕ) : Type 0 where
  pub is : rows' ≡ entered_in rows k c position
  pub fits : KindsFit rows 0 → KindsFit rows' 0
