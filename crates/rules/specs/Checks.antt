-- The table of checks. How many there are, their words in the sheet, their kinds and their rules stand here and nowhere else.
use Rattle.std.specs.Prelude.{Bool, true, false, List, [], ◌∷◌, map, ℕ, get_or, eqb, None}
use Prim.Native.String.{String}
use Rattle.rules.specs.Cases.{Case}
use Rattle.rules.specs.declared.Opening.{Opening}
use Rattle.rules.specs.declared.Report.{Report}
use Rattle.rules.specs.History.{History, any_of}
use Rattle.rules.specs.Descriptors.{agreement}
use Rattle.rules.specs.OneOwnerPerKey.{overlap_at, install_at, twice_at}
use Rattle.rules.specs.RightHalf.{half_at}
use Rattle.rules.specs.GenerationsRise.{generations_at}
use Rattle.rules.specs.IdsUnique.{ids_at}
use Rattle.rules.specs.MetaNeverGoesBack.{meta_at}
use Rattle.rules.specs.Reports.{AtRecord, at_last, HasWhole, Arises, report_of}

-- what a check judges: each record, by it and those before; or a beginning as a whole
pub data Rule : Type 0 where
  at_record : (Opening → AtRecord) → Rule
  whole : (Opening → History → Case) → Rule

pub record Check : Type 0 where
  -- its word in the sheet
  pub name : String
  -- its faults' kinds: 1 to this number
  pub kinds : ℕ
  -- the kinds of records that concern it: a record of another kind leaves its report as it is
  pub concerns : List ℕ
  pub rule : Rule
  -- whether it is a history check, of which the third demand speaks
  pub history : Bool

-- the checks in printing order
abbrev pub checks : List Check
checks =
    record { name = "agreement"; kinds = 3; concerns = 1 ∷ 2 ∷ []; rule = whole (λ o. agreement); history = true }
    ∷ record { name = "overlap"; kinds = 1; concerns = 1 ∷ 2 ∷ []; rule = at_record (λ o. overlap_at); history = true }
    ∷ record { name = "install"; kinds = 1; concerns = 8 ∷ []; rule = at_record (λ o. install_at o.tenant); history = true }
    ∷ record { name = "twice"; kinds = 1; concerns = 1 ∷ []; rule = at_record (λ o. twice_at); history = true }
    -- "half (not a history check)"
    ∷ record { name = "half"; kinds = 2; concerns = 1 ∷ 2 ∷ 3 ∷ 5 ∷ []; rule = at_record (λ o. half_at); history = false }
    ∷ record { name = "generations"; kinds = 2; concerns = 3 ∷ []; rule = at_record (λ o. generations_at); history = true }
    ∷ record { name = "ids"; kinds = 3; concerns = 11 ∷ []; rule = at_record (λ o. ids_at); history = true }
    ∷ record { name = "meta"; kinds = 4; concerns = 12 ∷ []; rule = at_record (λ o. meta_at); history = true }
    ∷ []

-- how many there are: `checks_count` holds it to the table
abbrev pub check_count : ℕ
check_count = 8

-- the check at a place of the table; past its end one that has no fault
abbrev pub check_at : ℕ → Check
check_at k = get_or checks k (record { name = ""; kinds = 0; concerns = []; rule = at_record (λ o x h. None); history = false })

-- what a rule says of a beginning: of its last record, or of it as a whole
abbrev pub case_by : Rule → Opening → History → Case
case_by (at_record f) o = at_last (f o)
case_by (whole f) o = f o

-- whether a beginning has a rule's fault
abbrev pub HasBy : Rule → Opening → History → Type 0
HasBy (at_record f) o = Arises (f o)
HasBy (whole f) o = HasWhole (f o)

-- the case of a check, and its report of a history
abbrev pub case_at : Opening → Check → History → Case
case_at o c = case_by c.rule o

abbrev pub report_by : Opening → History → Check → Report
report_by o h c = report_of (case_at o c) h

-- all reports of a history, in printing order
unfoldable pub reports_of : Opening → History → List Report
reports_of o h = map (report_by o h) checks

-- a record of a kind concerns a check
abbrev pub concerned_by : ℕ → Check → Bool
concerned_by kind c = any_of (λ k. eqb kind k) c.concerns

-- a law holds of every check of a list
abbrev pub Every : (Check → Type 0) → List Check → Type 0
Every P [] = Unit {0}
Every P (c ∷ cs) = P c × Every P cs
