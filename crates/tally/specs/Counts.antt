-- What a tally counts of a list of judges, place by place.
use Rattle.std.specs.Prelude.{Bool, cond, ◌&&◌, List, [], ◌∷◌, ℕ, ◌+◌, ◌*◌, ◌/◌, ◌%◌, length, get_or, eqb, leb, ltb}
use Rattle.rules.specs.declared.Report.{Report}
use Rattle.rules.specs.declared.Verdict.{Verdict}
use Rattle.rules.specs.declared.Verdict.TheVariants.{Pass, Faulted}
use Rattle.rules.specs.Reports.{passed}
use Rattle.rules.specs.Checks.{check_count, check_at}
use Rattle.judge.specs.declared.state.Judge.{Judge}

-- "records of 40 bytes", of 32 bits a count: ten places a record
abbrev pub place_count : ℕ
place_count = 10

-- the places of a tally: a record "for each check in printing order and one for the totals"
abbrev pub tally_places : ℕ
tally_places = place_count * (check_count + 1)

-- the record of a place, and where it is in that record
abbrev pub record_of : ℕ → ℕ
record_of i = i / place_count

abbrev pub place_of : ℕ → ℕ
place_of i = i % place_count

-- where a verdict counts in the record of a check with so many kinds: a pass at place 0, a fault at its kind's; past the record,
-- which is nowhere, where the check lacks the kind
abbrev pub verdict_place : ℕ → Verdict → ℕ
verdict_place kinds Pass = 0
verdict_place kinds (Faulted kind) = cond (leb 1 kind && leb kind kinds) kind place_count

-- where the report of check k counts in that check's record, and so where a judge does
abbrev pub report_place : List Report → ℕ → ℕ
report_place reports k = verdict_place (check_at k).kinds (get_or reports k passed).verdict

unfoldable pub judge_place : ℕ → Judge → ℕ
judge_place k j = report_place j.reports k

-- how many elements of a list pass a test
unfoldable pub how_many : {A : Type 0} → (A → Bool) → List A → ℕ
how_many test [] = 0
how_many test (x ∷ xs) = cond (test x) 1 0 + how_many test xs

-- "how many traces passed and how many faulted by kind": those that count at place p of the record of check k
abbrev pub traces_at : ℕ → ℕ → List Judge → ℕ
traces_at k p js = how_many (λ j. eqb (judge_place k j) p) js

-- the "records taken in total"
unfoldable pub records_taken : List Judge → ℕ
records_taken [] = 0
records_taken (j ∷ js) = j.count + records_taken js

-- the number at place p of record k, where it is used: "A check's record holds its passes, then its faults by rising kind; the last
-- holds traces, then records taken"
abbrev pub number_at : List Judge → ℕ → ℕ → ℕ
number_at js k p = cond (ltb k check_count) (traces_at k p js) (cond (eqb p 0) (length js) (records_taken js))

-- how many of its places are used: the passes' and one for each kind; or two
unfoldable pub used_places : ℕ → ℕ
used_places k = cond (ltb k check_count) ((check_at k).kinds + 1) 2

abbrev pub is_used : ℕ → Bool
is_used i = ltb (place_of i) (used_places (record_of i))

-- the number at a place of the whole tally, "unused places zero"
unfoldable pub count_at : List Judge → ℕ → ℕ
count_at js i = cond (is_used i) (number_at js (record_of i) (place_of i)) 0
