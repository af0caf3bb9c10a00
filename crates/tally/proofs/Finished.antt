-- A finished judge: it can always be entered, and what it counts as is what the records it took mean. Assumes nothing.
use mathlib.Core.Path.{◌≡◌, refl, sym, ap, ◌∙◌, subst}
use mathlib.Core.Bool.{Bool, true, false, cond, ◌&&◌}
use mathlib.Core.List.{List, [], ◌∷◌}
use Prim.Native.Nat.{ℕ, ◌+◌, ◌*◌, ◌≤◌, ◌<◌}
use native.Mathlib.Omega.{arith}
use lib.ListN.{length, get_or, get_or-replicate}
use lib.Dec.{leb}
use borrow.Author.Tests.{leb-true, le-leb}
use Rattle.rules.specs.Cases.{Case}
use Rattle.rules.specs.declared.Opening.{Opening}
use Rattle.rules.specs.declared.Report.{Report}
use Rattle.rules.specs.declared.Verdict.{Verdict}
use Rattle.rules.specs.declared.Verdict.TheVariants.{Pass, Faulted}
use Rattle.rules.specs.History.{History}
use Rattle.rules.specs.Reports.{passed, faulted, Right}
use Rattle.rules.specs.Checks.{check_count, check_at, HasBy, case_at, report_by, reports_of}
use Rattle.record.proofs.Booleans.{and_left, both}
use Rattle.rules.proofs.CaseKinds.{CaseKinds, case_kinds, VerdictWithin, report_kinds}
use Rattle.rules.proofs.Checks.{check_at_lem, report_at_lem}
use Rattle.rules.proofs.Reports.{report_of_passed}
use Rattle.intake.specs.Words.{Indexed}
use Rattle.decision.proofs.Suiting.{fits_by_lem}
use Rattle.judge.specs.declared.opening.Opened.{Opened}
use Rattle.judge.specs.declared.state.Judge.{Judge}
use Rattle.demands.specs.Calls.{Call, taken_of}
use Rattle.judge.specs.Openings.{Fits, fresh_of, Opens}
use Rattle.judge.specs.Pushes.{After, state_of}
use Rattle.demands.specs.Runs.{Run, report_at}
use Rattle.judge.specs.States.{State}
use Rattle.demands.proofs.Demand2.{fitting}
use Rattle.demands.proofs.Demand3.{Ran, opened_ran, demand3_of}
use Rattle.tally.specs.declared.Entered.{Entered}
use Rattle.tally.specs.Counts.{place_count, verdict_place, judge_place, count_at}
use Rattle.tally.specs.Entries.{tally_size, refusal_number, is_entry, EntersBy}
use Rattle.tally.specs.Campaigns.{Means}
use Rattle.tally.proofs.Counts.{kinds_few, entry_of, one_if, one_only}
use Rattle.tally.proofs.Campaigns.{entry_fits}

-- ---- a report by its verdict

-- one with a fault is that of its fault
fault_is : (r : Report) (kind : ℕ) → r.verdict ≡ Faulted kind → r ≡ faulted r.at kind r.evidence
fault_is r kind v i = record { verdict = v i; at = r.at; evidence = r.evidence }

-- ---- a verdict by its place

module _ (kinds : ℕ) where
  fault_place : (kind : ℕ) → (1 ≤ kind) × (kind ≤ kinds) → verdict_place kinds (Faulted kind) ≡ kind
  fault_place kind w =
      let known : (leb 1 kind && leb kind kinds) ≡ true = both (le-leb 1 kind w.0) (le-leb kind kinds w.1) in
      ap (λ (b : Bool). cond b kind place_count) known

  place_known : kinds < place_count → (v : Verdict) → VerdictWithin kinds v → verdict_place kinds v < place_count
  place_known l Pass w = omega arith
  place_known l (Faulted kind) w = omega (arith, fault_place kind w)

  no_pass : (b : Bool) (kind : ℕ) → (leb 1 kind && leb kind kinds) ≡ b → cond b kind place_count ≡ 0 → ⊥
  no_pass true kind e q = let some : 1 ≤ kind = leb-true 1 kind (and_left (leb 1 kind) (leb kind kinds) e) in omega arith
  no_pass false kind e q = omega arith

  pass_at : (v : Verdict) → verdict_place kinds v ≡ 0 → v ≡ Pass
  pass_at Pass e = refl
  pass_at (Faulted kind) e = absurd (no_pass (leb 1 kind && leb kind kinds) kind refl e)

  same_kind : (b : Bool) (kind p : ℕ) → p < place_count → cond b kind place_count ≡ p → kind ≡ p
  same_kind true kind p l e = e
  same_kind false kind p l e = absurd (omega arith)

  fault_at : (p : ℕ) → 1 ≤ p → p < place_count → (v : Verdict) → verdict_place kinds v ≡ p → v ≡ Faulted p
  fault_at p s l Pass e = absurd (omega arith)
  fault_at p s l (Faulted kind) e = ap (λ (m : ℕ). Faulted m) (same_kind (leb 1 kind && leb kind kinds) kind p l e)

-- ---- what a judge counts as

-- the report of check k, and where it counts
abbrev report_in : ℕ → Judge → Report
report_in k j = get_or j.reports k passed

place_is : (k : ℕ) (j : Judge) → judge_place k j ≡ verdict_place (check_at k).kinds (report_in k j).verdict
unfolding judge_place
place_is k j = refl

module _ (k : ℕ) (l : k < check_count) (j : Judge) where
  -- at the first place of the check's record exactly when it passes ..
  front : count_at (j ∷ []) (place_count * k + 0) ≡ count_at (j ∷ []) (place_count * k)
  front = let e : place_count * k + 0 ≡ place_count * k = omega arith in ap (count_at (j ∷ [])) e

  passes : count_at (j ∷ []) (place_count * k) ≡ 1 → (report_in k j).verdict ≡ Pass
  passes one =
      let at : judge_place k j ≡ 0 = one_only j k 0 l (omega arith) (front ∙ one) in
      pass_at (check_at k).kinds (report_in k j).verdict (sym (place_is k j) ∙ at)

  pass_counts : (report_in k j).verdict ≡ Pass → count_at (j ∷ []) (place_count * k) ≡ 1
  pass_counts v =
      let at : judge_place k j ≡ 0 = place_is k j ∙ ap (verdict_place (check_at k).kinds) v in
      sym front ∙ one_if j k 0 l (omega arith) at

  -- .. and at that of a kind exactly when that is its fault's
  faults : (kind : ℕ) → 1 ≤ kind → kind < place_count → count_at (j ∷ []) (place_count * k + kind) ≡ 1 → (report_in k j).verdict ≡ Faulted kind
  faults kind s h one =
      let at : judge_place k j ≡ kind = one_only j k kind l h one in
      fault_at (check_at k).kinds kind s h (report_in k j).verdict (sym (place_is k j) ∙ at)

  fault_counts : (kind : ℕ) → VerdictWithin (check_at k).kinds (report_in k j).verdict → (report_in k j).verdict ≡ Faulted kind
      → count_at (j ∷ []) (place_count * k + kind) ≡ 1
  fault_counts kind w v =
      let kinds = (check_at k).kinds in
      let among : (1 ≤ kind) × (kind ≤ kinds) = subst (VerdictWithin kinds) v w in
      let at : judge_place k j ≡ kind = place_is k j ∙ ap (verdict_place kinds) v ∙ fault_place kinds kind among in
      one_if j k kind l among.1 at

  -- so that a report that is right, a pass or of one of the check's kinds, says what the judge counts as
  means : (has : History → Type 0) (case : History → Case) (h : History) → Right has case h (report_in k j)
      → ((report_in k j).verdict ≡ Pass → report_in k j ≡ passed) → VerdictWithin (check_at k).kinds (report_in k j).verdict → Means has case k h j
  means has case h right pass within =
      let r = report_in k j in
      record {
        pass_only = λ one. right.pass_only (pass (passes one));
        pass_if = λ free. pass_counts (ap (λ (x : Report). x.verdict) (right.pass_if free));
        fault_only = λ kind s small one.
            (r.at, r.evidence, right.fault_only r.at kind r.evidence (fault_is r kind (faults kind s small one)));
        fault_if = λ n kind e a. fault_counts kind within (ap (λ (x : Report). x.verdict) (right.fault_if n kind e a));
      }

-- ---- the judge after the records of h

module _ (n : Opening) (h : History) (t : State) (w : After Indexed h t) (o : t.judge.opening ≡ n) where
  -- its reports are those of the rules for them
  report_is : (k : ℕ) → k < check_count → report_at k t ≡ report_by n h (check_at k)
  report_is k l =
      ap (λ (rs : List Report). get_or rs k passed) (w.reports ∙ ap (λ (m : Opening). reports_of m h) o) ∙ report_at_lem n h k l

  report_within : (k : ℕ) → k < check_count → VerdictWithin (check_at k).kinds (report_at k t).verdict
  report_within k l =
      let kinds = (check_at k).kinds in
      let within : VerdictWithin kinds (report_by n h (check_at k)).verdict =
      report_kinds (case_at n (check_at k)) (check_at_lem CaseKinds case_kinds k l n) h in
      subst (λ (x : Report). VerdictWithin kinds x.verdict) (sym (report_is k l)) within

  report_pass : (k : ℕ) → k < check_count → (report_at k t).verdict ≡ Pass → report_at k t ≡ passed
  report_pass k l v =
      let is = report_is k l in
      is ∙ report_of_passed (case_at n (check_at k)) h (ap (λ (x : Report). x.verdict) (sym is) ∙ v)

  place_taken : (k : ℕ) → k < check_count → judge_place k t.judge < place_count
  place_taken k l =
      let known = place_known (check_at k).kinds (kinds_few k l) (report_at k t).verdict (report_within k l) in
      subst (λ (m : ℕ). m < place_count) (sym (place_is k t.judge)) known

  pub entry_after : is_entry t.judge ≡ true
  entry_after = entry_of t.judge (fitting h t w) place_taken

  pub means_after : (k : ℕ) → k < check_count → (check_at k).history ≡ true
      → Means (HasBy (check_at k).rule n) (case_at n (check_at k)) k h t.judge
  means_after k l history =
      let right = ((demand3_of Indexed n h t w o).claim k l history).right in
      means k l t.judge (HasBy (check_at k).rule n) (case_at n (check_at k)) h right (report_pass k l) (report_within k l)

-- ---- the judge that a list of calls left

-- the hypotheses of the second and the third demand
module _ (n : Opening) (c : ℕ) (log work : List ℕ) (o : Opened) (work' : List ℕ) (f : Fits (length log) (length work) c)
    (p : Opens n (length log) work o work') (cs : List Call) (t : State) (r : Run Indexed (state_of o.judge log work') cs t) where
  ran_to : Ran Indexed c n (taken_of c cs []) t
  ran_to = opened_ran n c log work o work' f p cs t r

  -- TAKEN: it is not "a judge whose reports are refused or one with a fault kind its check lacks" ..
  pub taken : is_entry t.judge ≡ true
  taken = entry_after n (taken_of c cs []) t ran_to.after ran_to.opening

  -- .. so that an entry of it into any bytes of a tally's length is never refused by 5
  pub never_unfit : (bytes : List ℕ) (a : Entered) (bytes' : List ℕ) → length bytes ≡ tally_size → EntersBy bytes t.judge a bytes'
      → refusal_number a.refusal ≡ 5 → ⊥
  never_unfit bytes a bytes' l e five = entry_fits bytes t.judge l taken (sym e.refusal ∙ five)

  -- MEANING: "how many traces passed and how many faulted by kind". Of a history check it counts as a pass exactly when no beginning
  -- of the records taken has the check's fault, and as a fault of a kind exactly when the first fault has that kind
  pub meaning : (k : ℕ) → k < check_count → (check_at k).history ≡ true
      → Means (HasBy (check_at k).rule n) (case_at n (check_at k)) k (taken_of c cs []) t.judge
  meaning = means_after n (taken_of c cs []) t ran_to.after ran_to.opening

-- ---- a fresh judge

fresh_place : (c : ℕ) (o : Opening) (k : ℕ) → k < check_count → judge_place k (fresh_of c o) < place_count
fresh_place c o k l =
    let report : report_in k (fresh_of c o) ≡ passed = get_or-replicate check_count k passed passed l in
    let at : judge_place k (fresh_of c o) ≡ 0 =
    place_is k (fresh_of c o) ∙ ap (λ (x : Report). verdict_place (check_at k).kinds x.verdict) report in
    omega arith

-- it can be entered, and so can that of a refused opening, whose C is 0
pub fresh_entry : (c : ℕ) (o : Opening) → c ≤ 4096 → is_entry (fresh_of c o) ≡ true
fresh_entry c o l = entry_of (fresh_of c o) (fits_by_lem l (omega arith)) (fresh_place c o)
