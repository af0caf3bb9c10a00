-- The row of a check after one more record, for any check of the table: left by a record that does not concern it, kept after a fault,
-- else entered. Assumes nothing.
use Rattle.std.specs.Prelude.{None, Some}
use mathlib.Core.Path.{◌≡◌, refl, sym, ap, subst, ◌∙◌}
use mathlib.Core.Bool.{Bool, true, false}
use mathlib.Core.List.{List, ◌∷◌}
use Prim.Native.Nat.{ℕ, ◌*◌, ◌≤◌, ◌<◌}
use native.Mathlib.Omega.{arith}
use lib.ListN.{length, get_or, set}
use lib.Seq.{sets, set-get_or, length-sets}
use lib.Dec.{eqb}
use borrow.Author.Tests.{eqb-true, eqb-false}
use Rattle.record.specs.Records.{TraceRecord, decode}
use Rattle.rules.specs.Cases.{Case}
use Rattle.rules.specs.declared.Opening.{Opening}
use Rattle.rules.specs.declared.Report.{Report}
use Rattle.rules.specs.declared.Verdict.{Verdict}
use Rattle.rules.specs.declared.Verdict.TheVariants.{Pass, Faulted}
use Rattle.rules.specs.History.{History}
use Rattle.rules.specs.Events.{events, position}
use Rattle.rules.specs.Reports.{passed, faulted, at_first, report_of}
use Rattle.rules.specs.Checks.{check_count, check_at, case_at, report_by, reports_of}
use Rattle.rules.proofs.Reports.{report_of_step, report_of_kept}
use Rattle.rules.proofs.Checks.{check_at_lem}
use Rattle.rules.proofs.CaseKinds.{CaseKinds, case_kinds, VerdictWithin, report_kinds}
use Rattle.rules.proofs.Concerns.{Unconcerned, unconcerned, unmoved}
use Rattle.rows.specs.Rows.{kind_word, report_words, rows_of, entered_in, KindsFit, EntersIn}
use Rattle.rows.proofs.ReadBack.{rows_set, row_kind}
use Rattle.history.specs.Logs.{hist}
use Rattle.history.proofs.Logs.{hist_length}
use Rattle.events.specs.Numbers.{event_in}
use Rattle.events.proofs.Numbers.{event_is}
use Rattle.decision.specs.declared.Concerned.{Concerned}
use Rattle.decision.specs.Refusals.{concerned_of}
use Rattle.intake.specs.Words.{Indexed}
use Rattle.intake.specs.Steps.{AsksIn, SteppedIn, JudgedIn}

-- ---- what a row's first word tells

pass_word : (most : ℕ) (v : Verdict) → VerdictWithin most v → kind_word v ≡ 0 → v ≡ Pass
pass_word most Pass w e = refl
pass_word most (Faulted kind) w e = absurd (omega arith)

fault_word : {A : Type 0} (v : Verdict) → (kind_word v ≡ 0 → ⊥) → ((kind : ℕ) → v ≡ Faulted kind → A) → A
fault_word Pass n f = absurd (n refl)
fault_word (Faulted kind) n f = f kind refl

module _ (k : ℕ) (l : k < check_count) (o : Opening) (x : TraceRecord) (h : History) (rows : List ℕ) (rs : List Report)
    (many : length rs ≡ check_count) (are : rows ≡ rows_of rs) (old : get_or rs k passed ≡ report_by o h (check_at k)) where
  abbrev new : Report
  new = report_by o (x ∷ h) (check_at k)

  -- the report is as before, and so are the rows
  stays : report_by o (x ∷ h) (check_at k) ≡ report_by o h (check_at k) → rows ≡ rows_of (set rs k (report_by o (x ∷ h) (check_at k)))
  stays e = are ∙ ap rows_of (sym (set-get_or rs k passed) ∙ ap (set rs k) (old ∙ sym e))

  word_is : get_or rows (7 * k) 0 ≡ kind_word (report_by o h (check_at k)).verdict
  word_is =
      ap (λ (t : List ℕ). get_or t (7 * k) 0) are
      ∙ row_kind rs k (omega arith)
      ∙ ap (λ (r : Report). kind_word r.verdict) old

  -- a row that does not begin with 0 is a fault's, which stays
  fault_stays : eqb (get_or rows (7 * k) 0) 0 ≡ false → rows ≡ rows_of (set rs k (report_by o (x ∷ h) (check_at k)))
  fault_stays e =
      fault_word (report_by o h (check_at k)).verdict (λ z. eqb-false _ _ e (word_is ∙ z))
      (λ kind v. stays (report_of_kept (case_at o (check_at k)) x h kind v))

  -- one that does is a pass's
  is_pass : eqb (get_or rows (7 * k) 0) 0 ≡ true → (report_by o h (check_at k)).verdict ≡ Pass
  is_pass e =
      let kinds = check_at_lem CaseKinds case_kinds k l o in
      pass_word (check_at k).kinds (report_by o h (check_at k)).verdict (report_kinds (case_at o (check_at k)) kinds h) (sym word_is ∙ eqb-true _ _ e)

  entered_by : (c : Case) → case_at o (check_at k) (x ∷ h) ≡ c → (report_by o h (check_at k)).verdict ≡ Pass
      → entered_in rows k c (position (x ∷ h)) ≡ rows_of (set rs k (report_by o (x ∷ h) (check_at k)))
  entered_by None e v = stays (unmoved (case_at o (check_at k)) x h e)
  entered_by (Some w) e v =
      let f = case_at o (check_at k) in
      let n = position (x ∷ h) in
      let r : report_of f (x ∷ h) ≡ faulted n w.kind w.evidence = report_of_step f x h ∙ (λ i. at_first (v i) (report_of f h) (e i) n) in
      ap (λ (t : List ℕ). sets t (7 * k) (report_words (faulted n w.kind w.evidence))) are
      ∙ rows_set rs k (faulted n w.kind w.evidence) (omega arith)
      ∙ ap (λ (z : Report). rows_of (set rs k z)) (sym r)

-- entering a case leaves the number of words
entered_size : (rows : List ℕ) (k : ℕ) (c : Case) (n : ℕ) → length (entered_in rows k c n) ≡ length rows
entered_size rows k None n = refl
entered_size rows k (Some f) n = length-sets rows (7 * k) (report_words (faulted n f.kind f.evidence))

-- ---- a check's step

module _ (k : ℕ) (l : k < check_count) (o : Opening) (cap : ℕ) (log work : List ℕ) (n : ℕ) (bytes : List ℕ) (at : ℕ) (answers : Case → Type 0)
    (says : (c : Case) → answers c → Indexed cap (hist log n) work → (report_by o (hist log n) (check_at k)).verdict ≡ Pass
    → c ≡ case_at o (check_at k) (decode bytes ∷ hist log n)) where
  stepped_by : {concerned : Bool} {rows rows' : List ℕ} → (b p : Bool) → concerned ≡ b → eqb (get_or rows (7 * k) 0) 0 ≡ p
      → AsksIn answers k concerned at rows rows' → SteppedIn k o cap log work n bytes concerned at rows rows'
  stepped_by {concerned} {rows} {rows'} false p eb ep a =
      let e = a.left eb in
      record {
        size = ap length e;
        fits = λ f. subst (λ t. KindsFit t 0) (sym e) f;
        steps = λ i p t rs many are old.
            e ∙ stays k l o (decode bytes) (hist log n) rows rs many are old (check_at_lem Unconcerned unconcerned k l o (decode bytes) (hist log n) (t eb));
      }
  stepped_by {concerned} {rows} {rows'} true false eb ep a =
      let e = a.kept ep in
      record {
        size = ap length e;
        fits = λ f. subst (λ t. KindsFit t 0) (sym e) f;
        steps = λ i p t rs many are old. e ∙ fault_stays k l o (decode bytes) (hist log n) rows rs many are old ep;
      }
  stepped_by {concerned} {rows} {rows'} true true eb ep a =
      let w = a.asked eb ep in
      let c = w.0 in
      let e : EntersIn rows k c at rows' = w.2 in
      record {
        size = ap length e.is ∙ entered_size rows k c at;
        fits = e.fits;
        steps = λ i p t rs many are old.
            let x = decode bytes in
            let h = hist log n in
            let v = is_pass k l o x h rows rs many are old ep in
            e.is ∙ ap (entered_in rows k c) p ∙ entered_by k l o x h rows rs many are old c (sym (says c w.1 i v)) v;
      }

  pub stepped : {concerned : Bool} {rows rows' : List ℕ} → AsksIn answers k concerned at rows rows'
      → SteppedIn k o cap log work n bytes concerned at rows rows'
  stepped {concerned} {rows} a = stepped_by concerned (eqb (get_or rows (7 * k) 0) 0) refl refl a

-- ---- all of them

-- each check has stepped its own row
pub judged_all : (o : Opening) (cap : ℕ) (log work : List ℕ) (n e : ℕ) (bytes : List ℕ) (concerned : Concerned) (at : ℕ)
    → at ≡ event_in e (decode bytes) → n ≤ 4096
    → {r0 r1 r2 r3 r4 r5 r6 r7 r8 : List ℕ}
    → SteppedIn 0 o cap log work n bytes concerned.agreement at r0 r1 → SteppedIn 1 o cap log work n bytes concerned.overlap at r1 r2
    → SteppedIn 2 o cap log work n bytes concerned.install at r2 r3 → SteppedIn 3 o cap log work n bytes concerned.twice at r3 r4
    → SteppedIn 4 o cap log work n bytes concerned.half at r4 r5 → SteppedIn 5 o cap log work n bytes concerned.generations at r5 r6
    → SteppedIn 6 o cap log work n bytes concerned.ids at r6 r7 → SteppedIn 7 o cap log work n bytes concerned.meta at r7 r8
    → JudgedIn o cap log work n e bytes concerned r0 r8
unfolding reports_of
judged_all o cap log work n e bytes concerned at z l s0 s1 s2 s3 s4 s5 s6 s7 = record {
  size = s7.size ∙ s6.size ∙ s5.size ∙ s4.size ∙ s3.size ∙ s2.size ∙ s1.size ∙ s0.size;
  fits = λ f. s7.fits (s6.fits (s5.fits (s4.fits (s3.fits (s2.fits (s1.fits (s0.fits f)))))));
  judged = λ i v q are.
      let x = decode bytes in
      let p : at ≡ events (x ∷ hist log n) = z ∙ event_is e x (hist log n) v (let m = hist_length log n in omega arith) in
      let tells : (f : Concerned → Bool) → f concerned ≡ f (concerned_of x.kind) = λ f. ap f q in
      let a1 = s0.steps i p (λ z. sym (tells (λ c. c.agreement)) ∙ z) _ refl are refl in
      let a2 = s1.steps i p (λ z. sym (tells (λ c. c.overlap)) ∙ z) _ refl a1 refl in
      let a3 = s2.steps i p (λ z. sym (tells (λ c. c.install)) ∙ z) _ refl a2 refl in
      let a4 = s3.steps i p (λ z. sym (tells (λ c. c.twice)) ∙ z) _ refl a3 refl in
      let a5 = s4.steps i p (λ z. sym (tells (λ c. c.half)) ∙ z) _ refl a4 refl in
      let a6 = s5.steps i p (λ z. sym (tells (λ c. c.generations)) ∙ z) _ refl a5 refl in
      let a7 = s6.steps i p (λ z. sym (tells (λ c. c.ids)) ∙ z) _ refl a6 refl in
      s7.steps i p (λ z. sym (tells (λ c. c.meta)) ∙ z) _ refl a7 refl;
}
