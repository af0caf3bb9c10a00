-- The laws of the counts: how they grow by a judge, where they are zero, and that a check's places add up to the traces. Assumes
-- nothing.
use mathlib.Core.Path.{◌≡◌, refl, ap, ◌∙◌}
use mathlib.Core.Bool.{Bool, true, false, cond, ◌&&◌}
use mathlib.Core.List.{List, [], ◌∷◌}
use Prim.Native.Nat.{ℕ, zero, suc, ◌+◌, ◌*◌, ◌≤◌, ◌<◌}
use native.Mathlib.Omega.{arith}
use native.Mathlib.Decide.{dec_lt, ℕ_discrete}
use lib.ListN.{length, get_or}
use lib.Dec.{eqb, leb, ltb}
use borrow.Author.Tests.{ltb-true, lt-ltb, leb-true, eq-eqb, ne_eqb}
use Rattle.rules.specs.declared.Verdict.{Verdict}
use Rattle.rules.specs.declared.Verdict.TheVariants.{Pass, Faulted}
use Rattle.rules.specs.Reports.{passed}
use Rattle.rules.specs.Checks.{Check, checks, check_count, check_at}
use Rattle.record.proofs.Booleans.{and_right, both}
use Rattle.rules.proofs.Checks.{check_at_lem, all_by, every_by}
use Rattle.decision.specs.Refusals.{fits_by}
use Rattle.judge.specs.declared.state.Judge.{Judge}
use Rattle.tally.specs.Stored.{all_to}
use Rattle.tally.specs.Counts.{place_count, record_of, place_of, verdict_place, judge_place, how_many, traces_at, records_taken, number_at, used_places, is_used, count_at}
use Rattle.tally.specs.Entries.{is_entry}
use Rattle.tally.specs.Campaigns.{sum_to}
use Rattle.tally.proofs.Tests.{all_at, all_of}

-- ---- one judge more

-- a number of judges that a judge raises by its own
abbrev Grows : (List Judge → ℕ) → Type 0
Grows f = (j : Judge) (js : List Judge) → f (j ∷ js) ≡ f (j ∷ []) + f js

many_grows : (test : Judge → Bool) → Grows (how_many test)
unfolding how_many
many_grows test j js = omega arith

records_grow : Grows records_taken
unfolding records_taken
records_grow j js = omega arith

length_grows : Grows (λ js. length js)
length_grows j js = omega arith

cond_grows : (b : Bool) (f g : List Judge → ℕ) → Grows f → Grows g → Grows (λ js. cond b (f js) (g js))
cond_grows true f g p q = p
cond_grows false f g p q = q

cond_zero : (b : Bool) {x y : ℕ} → x ≡ 0 → y ≡ 0 → cond b x y ≡ 0
cond_zero true p q = p
cond_zero false p q = q

-- nothing is counted of no judges
pub count_none : (i : ℕ) → count_at [] i ≡ 0
unfolding count_at how_many records_taken
count_none i = cond_zero (is_used i) (cond_zero (ltb (record_of i) check_count) refl (cond_zero (eqb (place_of i) 0) refl refl)) refl

-- a judge adds what is counted of it alone
pub count_more : (j : Judge) (js : List Judge) (i : ℕ) → count_at (j ∷ js) i ≡ count_at (j ∷ []) i + count_at js i
unfolding count_at
count_more j js i =
    let k = record_of i in
    let p = place_of i in
    let traces : Grows (traces_at k p) = many_grows (λ x. eqb (judge_place k x) p) in
    let totals : Grows (λ js. cond (eqb p 0) (length js) (records_taken js)) =
    cond_grows (eqb p 0) (λ js. length js) records_taken length_grows records_grow in
    let numbers : Grows (λ js. number_at js k p) =
    cond_grows (ltb k check_count) (traces_at k p) (λ js. cond (eqb p 0) (length js) (records_taken js)) traces totals in
    cond_grows (is_used i) (λ js. number_at js k p) (λ js. 0) numbers (λ j js. refl) j js

-- "unused places zero"
pub count_unused : (js : List Judge) (i : ℕ) → is_used i ≡ false → count_at js i ≡ 0
unfolding count_at
count_unused js i e = ap (λ (b : Bool). cond b (number_at js (record_of i) (place_of i)) 0) e

-- ---- the places of a check's record

-- a record has a place for the passes and for every kind of its check
pub kinds_few : (k : ℕ) → k < check_count → (check_at k).kinds < place_count
unfolding all_by
kinds_few k l =
    let f : (c : Check) → Bool = λ c. ltb c.kinds place_count in
    ltb-true (check_at k).kinds place_count (check_at_lem (λ c. f c ≡ true) (every_by f checks refl) k l)

-- a verdict's place, where it has one, is the passes' or that of one of the kinds
faulted_within : (b : Bool) (kinds kind : ℕ) → (leb 1 kind && leb kind kinds) ≡ b → cond b kind place_count < place_count
    → cond b kind place_count ≤ kinds
faulted_within true kinds kind e l = leb-true kind kinds (and_right (leb 1 kind) (leb kind kinds) e)
faulted_within false kinds kind e l = absurd (omega arith)

verdict_within : (kinds : ℕ) (v : Verdict) → verdict_place kinds v < place_count → verdict_place kinds v ≤ kinds
verdict_within kinds Pass l = omega arith
verdict_within kinds (Faulted kind) l = faulted_within (leb 1 kind && leb kind kinds) kinds kind refl l

pub place_within : (k : ℕ) (j : Judge) → judge_place k j < place_count → judge_place k j ≤ (check_at k).kinds
unfolding judge_place
place_within k j l = verdict_within (check_at k).kinds (get_or j.reports k passed).verdict l

-- what is counted at a place of the record of check k
pub count_at_lem : (js : List Judge) (k p : ℕ) → k < check_count → p < place_count
    → count_at js (place_count * k + p) ≡ cond (ltb p ((check_at k).kinds + 1)) (traces_at k p js) 0
unfolding count_at used_places
count_at_lem js k p l h =
    let a : record_of (place_count * k + p) ≡ k = omega arith in
    let b : place_of (place_count * k + p) ≡ p = omega arith in
    let c : ltb k check_count ≡ true = lt-ltb k check_count l in
    let there : count_at js (place_count * k + p) ≡ cond (ltb p (used_places k)) (number_at js k p) 0 =
    λ i. cond (ltb (b i) (used_places (a i))) (number_at js (a i) (b i)) 0 in
    let number : Bool → ℕ = λ t. cond t (traces_at k p js) (cond (eqb p 0) (length js) (records_taken js)) in
    there ∙ ap (λ (t : Bool). cond (ltb p (cond t ((check_at k).kinds + 1) 2)) (number t) 0) c

pub count_traces : (js : List Judge) (k p : ℕ) → k < check_count → p ≤ (check_at k).kinds → count_at js (place_count * k + p) ≡ traces_at k p js
count_traces js k p l h =
    let few = kinds_few k l in
    let used : ltb p ((check_at k).kinds + 1) ≡ true = lt-ltb p ((check_at k).kinds + 1) (omega arith) in
    count_at_lem js k p l (omega arith) ∙ ap (λ (t : Bool). cond t (traces_at k p js) 0) used

-- the traces are the first of the totals
pub count_totals : (js : List Judge) → count_at js (place_count * check_count) ≡ length js
unfolding count_at used_places
count_totals js = refl

-- ---- one judge in the record of a check

module _ (j : Judge) (k p : ℕ) where
  traces_if : judge_place k j ≡ p → traces_at k p (j ∷ []) ≡ 1
  unfolding how_many
  traces_if e = ap (λ (b : Bool). cond b 1 0 + 0) (eq-eqb (judge_place k j) p e)

  traces_not : (judge_place k j ≡ p → ⊥) → traces_at k p (j ∷ []) ≡ 0
  unfolding how_many
  traces_not n = ap (λ (b : Bool). cond b 1 0 + 0) (ne_eqb (judge_place k j) p n)

-- it counts at its own place, and nowhere else
pub one_if : (j : Judge) (k p : ℕ) → k < check_count → p ≤ (check_at k).kinds → judge_place k j ≡ p → count_at (j ∷ []) (place_count * k + p) ≡ 1
one_if j k p l h e = count_traces (j ∷ []) k p l h ∙ traces_if j k p e

pub one_only : (j : Judge) (k p : ℕ) → k < check_count → p < place_count → count_at (j ∷ []) (place_count * k + p) ≡ 1 → judge_place k j ≡ p
one_only j k p l h e = elim (ℕ_discrete (judge_place k j) p) [
  | yes q ↦ q
  | no n ↦
      let used = ltb p ((check_at k).kinds + 1) in
      let none : count_at (j ∷ []) (place_count * k + p) ≡ 0 = count_at_lem (j ∷ []) k p l h ∙ cond_zero used (traces_not j k p n) refl in
      absurd (omega arith)
]

-- ---- sums

pub sum_same : (n : ℕ) (f g : ℕ → ℕ) → ((i : ℕ) → i < n → f i ≡ g i) → sum_to n f ≡ sum_to n g
unfolding sum_to
sum_same zero f g h = refl
sum_same (suc n) f g h =
    let before : sum_to n f ≡ sum_to n g = sum_same n f g (λ i l. h i (omega arith)) in
    let last : f n ≡ g n = h n (omega arith) in
    λ i. before i + last i

pub sum_both : (n : ℕ) (f g : ℕ → ℕ) → sum_to n (λ p. f p + g p) ≡ sum_to n f + sum_to n g
unfolding sum_to
sum_both zero f g = refl
sum_both (suc n) f g = let before = sum_both n f g in omega arith

pub sum_zero : (n : ℕ) → sum_to n (λ p. 0) ≡ 0
unfolding sum_to
sum_zero zero = refl
sum_zero (suc n) = let before = sum_zero n in omega arith

-- one at one place
abbrev one_at : ℕ → ℕ → ℕ
one_at a p = cond (eqb a p) 1 0

sum_before : (n a : ℕ) → n ≤ a → sum_to n (one_at a) ≡ 0
sum_before n a l =
    let other : (i : ℕ) → i < n → one_at a i ≡ 0 = λ i h. ap (λ (b : Bool). cond b 1 0) (ne_eqb a i (λ q. omega arith)) in
    sum_same n (one_at a) (λ p. 0) other ∙ sum_zero n

pub sum_one : (n a : ℕ) → a < n → sum_to n (λ p. cond (eqb a p) 1 0) ≡ 1
unfolding sum_to
sum_one zero a l = absurd (omega arith)
sum_one (suc n) a l = elim (dec_lt a n) [
  | yes h ↦
      let before : sum_to n (one_at a) ≡ 1 = sum_one n a h in
      let last : one_at a n ≡ 0 = ap (λ (b : Bool). cond b 1 0) (ne_eqb a n (λ q. omega arith)) in
      λ i. before i + last i
  | no h ↦
      let before : sum_to n (one_at a) ≡ 0 = sum_before n a (omega arith) in
      let last : one_at a n ≡ 1 = ap (λ (b : Bool). cond b 1 0) (eq-eqb a n (omega arith)) in
      λ i. before i + last i
]

-- ---- entries

module _ (j : Judge) where
  pub entry_place : is_entry j ≡ true → (k : ℕ) → k < check_count → judge_place k j < place_count
  unfolding is_entry
  entry_place e k l =
      let known : ℕ → Bool = λ k. ltb (judge_place k j) place_count in
      let all : all_to check_count known ≡ true = and_right (fits_by j.capacity j.count) (all_to check_count known) e in
      ltb-true (judge_place k j) place_count (all_at check_count known all k l)

  pub entry_of : fits_by j.capacity j.count ≡ true → ((k : ℕ) → k < check_count → judge_place k j < place_count) → is_entry j ≡ true
  unfolding is_entry
  entry_of e places =
      let known : ℕ → Bool = λ k. ltb (judge_place k j) place_count in
      both e (all_of check_count known (λ k l. lt-ltb (judge_place k j) place_count (places k l)))

-- each judge of a list can be entered
abbrev pub AllEntries : List Judge → Type 0
AllEntries [] = Unit {0}
AllEntries (j ∷ js) = (is_entry j ≡ true) × AllEntries js

-- "each check's passes and faults add up to the traces"
pub traces_sum : (k : ℕ) → k < check_count → (js : List Judge) → AllEntries js → sum_to (suc (check_at k).kinds) (λ p. traces_at k p js) ≡ length js
unfolding how_many
traces_sum k l [] all = sum_zero (suc (check_at k).kinds)
traces_sum k l (j ∷ js) all =
    let n = suc (check_at k).kinds in
    let a = judge_place k j in
    let within : a ≤ (check_at k).kinds = place_within k j (entry_place j all.0 k l) in
    let one : sum_to n (one_at a) ≡ 1 = sum_one n a (omega arith) in
    let rest : sum_to n (λ p. traces_at k p js) ≡ length js = traces_sum k l js all.1 in
    let split : sum_to n (λ p. traces_at k p (j ∷ js)) ≡ sum_to n (one_at a) + sum_to n (λ p. traces_at k p js) =
    sum_both n (one_at a) (λ p. traces_at k p js) in
    omega arith
