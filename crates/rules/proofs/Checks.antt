-- The laws of the table of checks: how many there are, what holds of each, and that each check's report is right.
use Rattle.std.specs.Prelude.{None}
use mathlib.Core.Path.{◌≡◌, refl, ap, ◌∙◌}
use mathlib.Core.Bool.{Bool, true, ◌&&◌}
use mathlib.Core.List.{List, [], ◌∷◌, map}
use Prim.Native.Nat.{ℕ, zero, suc, ◌<◌}
use native.Mathlib.Omega.{arith}
use lib.ListN.{length, get_or}
use Rattle.rules.specs.declared.Opening.{Opening}
use Rattle.rules.specs.History.{History}
use Rattle.rules.specs.Reports.{passed, Right, Steady}
use Rattle.rules.specs.Checks.{Rule, at_record, whole, Check, checks, check_count, check_at, case_by, HasBy, case_at, report_by, reports_of, Every}
use Rattle.record.proofs.Booleans.{and_left, and_right}
use Rattle.rules.proofs.ByEvents.{Lawful, right, whole_lawful, arises_lawful}
use Rattle.rules.proofs.Concerns.{agreement_none, agreement_steady}

-- the number of checks is the table's
pub checks_count : length checks ≡ check_count
checks_count = refl

-- what holds of every check of a list holds of the one at a place
pub every_at : (P : Check → Type 0) (cs : List Check) (d : Check) → Every P cs → (k : ℕ) → k < length cs → P (get_or cs k d)
every_at P [] d p k l = absurd (omega arith)
every_at P (c ∷ cs) d p zero l = p.0
every_at P (c ∷ cs) d p (suc k) l = every_at P cs d p.1 k (omega arith)

pub check_at_lem : (P : Check → Type 0) → Every P checks → (k : ℕ) → k < check_count → P (check_at k)
check_at_lem P p k l = every_at P checks (check_at check_count) p k l

-- a test that every check of a list passes, as the checker computes it
unfoldable pub all_by : (Check → Bool) → List Check → Bool
all_by f [] = true
all_by f (c ∷ cs) = f c && all_by f cs

pub every_by : (f : Check → Bool) (cs : List Check) → all_by f cs ≡ true → Every (λ c. f c ≡ true) cs
unfolding all_by
every_by f [] e = tt
every_by f (c ∷ cs) e = (and_left (f c) (all_by f cs) e, every_by f cs (and_right (f c) (all_by f cs) e))

-- a list of the checks' kinds has at each place those of the check there
kinds_at : (cs : List Check) (d : Check) (k : ℕ) → k < length cs → get_or (map (λ c. c.kinds) cs) k 0 ≡ (get_or cs k d).kinds
kinds_at [] d k l = absurd (omega arith)
kinds_at (c ∷ cs) d zero l = refl
kinds_at (c ∷ cs) d (suc k) l = kinds_at cs d k (omega arith)

pub kinds_listed : (ns : List ℕ) → ns ≡ map (λ c. c.kinds) checks → (k : ℕ) → k < check_count → get_or ns k 0 ≡ (check_at k).kinds
kinds_listed ns e k l = ap (λ (ms : List ℕ). get_or ms k 0) e ∙ kinds_at checks (check_at check_count) k l

-- the report at a place is that of the check at that place
map_at : (o : Opening) (h : History) (cs : List Check) (d : Check) (k : ℕ) → k < length cs → get_or (map (report_by o h) cs) k passed
    ≡ report_by o h (get_or cs k d)
map_at o h [] d k l = absurd (omega arith)
map_at o h (c ∷ cs) d zero l = refl
map_at o h (c ∷ cs) d (suc k) l = map_at o h cs d k (omega arith)

pub report_at_lem : (o : Opening) (h : History) (k : ℕ) → k < check_count → get_or (reports_of o h) k passed ≡ report_by o h (check_at k)
unfolding reports_of
report_at_lem o h k l = map_at o h checks (check_at check_count) k l

-- ---- reports are right

-- a rule that is judged as a whole has no fault of no records
abbrev pub Grounded : Check → Type 0
Grounded c = (o : Opening) → case_at o c [] ≡ None

pub grounded : Every Grounded checks
grounded = (
  λ o. agreement_none,
  (λ o. refl, (λ o. refl, (λ o. refl, (λ o. refl, (λ o. refl, (λ o. refl, (λ o. refl, tt))))))),
)

-- .. and is constant along an event
abbrev pub SteadyBy : Rule → Opening → Type 0
SteadyBy (at_record f) o = Unit {0}
SteadyBy (whole f) o = Steady (f o)

abbrev pub Steadied : Check → Type 0
Steadied c = (o : Opening) → SteadyBy c.rule o

pub steadied : Every Steadied checks
steadied = (
  λ o. agreement_steady,
  (λ o. tt, (λ o. tt, (λ o. tt, (λ o. tt, (λ o. tt, (λ o. tt, (λ o. tt, tt))))))),
)

rule_lawful : (r : Rule) (o : Opening) → case_by r o [] ≡ None → SteadyBy r o → Lawful (HasBy r o) (case_by r o)
rule_lawful (at_record f) o z s = arises_lawful (f o)
rule_lawful (whole f) o z s = whole_lawful (f o) z s

-- so that every check of the table is lawful, and its report right
pub check_lawful : (o : Opening) (k : ℕ) → k < check_count → Lawful (HasBy (check_at k).rule o) (case_at o (check_at k))
check_lawful o k l = rule_lawful (check_at k).rule o (check_at_lem Grounded grounded k l o) (check_at_lem Steadied steadied k l o)

pub check_right : (o : Opening) (h : History) (k : ℕ) → k < check_count
    → Right (HasBy (check_at k).rule o) (case_at o (check_at k)) h (report_by o h (check_at k))
check_right o h k l = right (check_lawful o k l) h
