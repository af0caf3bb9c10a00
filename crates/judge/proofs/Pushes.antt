-- What a push that is not refused leaves: where the state was the one after the records taken, the state after one more.
-- Assumes nothing.
use mathlib.Core.Path.{◌≡◌, refl, sym, ap, ◌∙◌, subst}
use mathlib.Core.Bool.{true}
use mathlib.Core.List.{List, [], ◌∷◌, map}
use Prim.Native.Nat.{ℕ, suc, ◌+◌, ◌*◌}
use native.Mathlib.Omega.{arith}
use lib.ListN.{length, replicate}
use lib.Dec.{eqb}
use borrow.Author.Tests.{ne_eqb}
use Rattle.record.specs.Records.{decode}
use Rattle.rules.specs.declared.Opening.{Opening}
use Rattle.rules.specs.declared.Verdict.{Verdict}
use Rattle.rules.specs.declared.Verdict.TheVariants.{Pass, Faulted}
use Rattle.rules.specs.History.{History}
use Rattle.rules.specs.Events.{events}
use Rattle.rules.specs.Checks.{Check, checks, check_count, case_at, report_by, reports_of, Every}
use Rattle.record.proofs.Booleans.{never}
use Rattle.rules.proofs.CaseKinds.{CaseKinds, case_kinds, VerdictWithin, report_kinds}
use Rattle.rows.specs.Rows.{rows_of, reports_in, KindsFit, WrittenIn}
use Rattle.rows.proofs.Rows.{length_rows}
use Rattle.record.proofs.Lists.{sets_all}
use Rattle.rows.proofs.ReadBack.{ReadsBack, AllRead, rows_read, rows_back, fit_rows}
use Rattle.history.specs.Logs.{hist}
use Rattle.history.proofs.Logs.{appended_hist}
use Rattle.events.specs.Numbers.{event_in}
use Rattle.events.proofs.Numbers.{event_is}
use Rattle.intake.specs.Words.{Indexed}
use Rattle.intake.specs.Takes.{JudgedAs, TakenIn, TakesIn}
use Rattle.decision.proofs.Suiting.{suits_by_lem}
use Rattle.decision.proofs.Decisions.{Room, room_of}
use Rattle.judge.specs.declared.state.Judge.{Judge}
use Rattle.judge.specs.States.{State, suits, push_refusal}
use Rattle.judge.specs.Pushes.{After, Taken, Pushed, state_of}
use Rattle.judge.specs.Traces.{judge_by}

-- ---- the reports of a history as rows

pub reports_many : (o : Opening) (h : History) → length (reports_of o h) ≡ check_count
unfolding reports_of
reports_many o h = refl

reads_back : (most : ℕ) (v : Verdict) → VerdictWithin most v → ReadsBack v
reads_back most Pass w = tt
reads_back most (Faulted kind) w = w.0

all_read : (o : Opening) (h : History) (cs : List Check) → Every CaseKinds cs → AllRead (map (report_by o h) cs)
all_read o h [] p = tt
all_read o h (c ∷ cs) p = (reads_back c.kinds (report_by o h c).verdict (report_kinds (case_at o c) (p.0 o) h), all_read o h cs p.1)

-- they read back from their words
pub reports_back : (o : Opening) (h : History) → reports_in (rows_of (reports_of o h)) 0 ≡ reports_of o h
unfolding reports_of
reports_back o h = rows_back (map (report_by o h) checks) refl (all_read o h checks case_kinds)

-- ---- a record that is taken

-- rows that are those of the judge's reports, wherever these are a history's
abbrev pub RowsOf : Judge → List ℕ → Type 0
RowsOf j rows = (h : History) → j.reports ≡ reports_of j.opening h → rows ≡ rows_of (reports_of j.opening h)

-- the rows that a judge's reports are written to
module _ (j : Judge) {rows : List ℕ} (w : WrittenIn (replicate 56 0) 0 j.reports rows) where
  written : rows ≡ rows_of j.reports
  written =
      let n : length (rows_of j.reports) ≡ 56 = length_rows j.reports ∙ ap (λ (k : ℕ). 7 * k) w.many in
      w.is ∙ sets_all (replicate 56 0) (rows_of j.reports) n

  pub written_size : length rows ≡ 56
  written_size = ap length written ∙ length_rows j.reports ∙ ap (λ (k : ℕ). 7 * k) w.many

  pub written_fit : KindsFit rows 0
  written_fit = subst (λ (r : List ℕ). KindsFit r 0) (sym written) (fit_rows j.reports w.many w.kinds)

  pub written_are : RowsOf j rows
  written_are h e = written ∙ ap rows_of e

-- the log's records are those taken, and the columns are of them
pub held_taken : (h : History) (s : State) → After Indexed h s → hist s.log s.judge.count ≡ h
held_taken h s a = ap (hist s.log) a.count ∙ a.taken

pub held_indexed : (h : History) (s : State) → After Indexed h s → Indexed s.judge.capacity (hist s.log s.judge.count) s.work
held_indexed h s a = subst (λ (z : History). Indexed s.judge.capacity z s.work) (sym (held_taken h s a)) a.words

-- the rows that the judging of a record leaves are read as the reports of the records with this one more
module _ (j : Judge) (log work rows bytes : List ℕ) {rows' : List ℕ} (are : RowsOf j rows)
    (judged : JudgedAs j.opening j.capacity j.count j.events log work rows bytes rows') where
  pub reports_more : (h : History) → After Indexed h (state_of j log work) → reports_in rows' 0 ≡ reports_of j.opening (decode bytes ∷ h)
  reports_more h a =
      let o = j.opening in
      let x = decode bytes in
      let t : hist log j.count ≡ h = held_taken h (state_of j log work) a in
      let e : j.events ≡ events (hist log j.count) = a.events_are ∙ ap events (sym t) in
      let r : rows' ≡ rows_of (reports_of o (x ∷ h)) =
      judged (held_indexed h (state_of j log work) a) e (are (hist log j.count) (a.reports ∙ ap (reports_of o) (sym t)))
      ∙ ap (λ (z : History). rows_of (reports_of o (x ∷ z))) t in
      ap (λ (w : List ℕ). reports_in w 0) r ∙ reports_back o (x ∷ h)

module _ (j : Judge) (log work rows bytes : List ℕ) {log' work' rows' : List ℕ} (are : RowsOf j rows)
    (y : Room j.capacity j.count log work bytes)
    (k : TakenIn j.opening j.capacity j.count j.events log work rows bytes log' work' rows') where
  abbrev pub next_of : Judge
  next_of = judge_by j.opening j.capacity (j.count + 1) (event_in j.events (decode bytes)) rows'

  fits_more : suits (state_of next_of log' work') ≡ true
  unfolding suits
  fits_more =
      let u = y.suits in
      let a = u.small in let b = u.log in let c = u.work in
      let d = y.room in let l = k.appended.len in let m = k.noted.len in
      suits_by_lem {capacity = j.capacity} {count = j.count + 1} {logs = length log'} {words = length work'}
      (record { small = omega arith; within = omega arith; log = omega arith; work = omega arith })

  after_more : (h : History) → After Indexed h (state_of j log work) → After Indexed (decode bytes ∷ h) (state_of next_of log' work')
  after_more h a =
      let x = decode bytes in
      let n : j.count ≡ length h = a.count in
      let t : hist log j.count ≡ h = held_taken h (state_of j log work) a in
      let m : suc (length h) ≡ j.count + 1 = omega arith in
      let b = y.suits.small in
      let d = y.room in
      record {
        fits = fits_more;
        count = sym m;
        events_are = event_is j.events x h a.events_are (omega arith);
        taken = ap (hist log') m ∙ appended_hist k.appended ∙ ap (λ (z : History). x ∷ z) t;
        reports = reports_more j log work rows bytes are k.judged h a;
        words = subst (λ (z : History). Indexed j.capacity (x ∷ z) work') t (k.noted.indexed (held_indexed h (state_of j log work) a));
      }

  took : Taken Indexed (state_of j log work) bytes (state_of next_of log' work')
  took = record {
    capacity = refl;
    opening = refl;
    count = refl;
    events_are = refl;
    log = k.appended;
    work = k.noted.len;
    after = after_more;
  }

-- ---- a push

module _ (j : Judge) (log work rows bytes : List ℕ) {r : ℕ} {log' work' rows' : List ℕ} (are : RowsOf j rows)
    (t : TakesIn j.opening j.capacity j.count j.events log work rows bytes r log' work' rows') where
  pub push_number : r ≡ push_refusal (state_of j log work) bytes
  unfolding push_refusal
  push_number = t.refusal

  has_room : r ≡ 0 → Room j.capacity j.count log work bytes
  has_room z = room_of (sym t.refusal ∙ z)

  -- a push that takes its record
  pub push_taken : r ≡ 0
      → Pushed Indexed (state_of j log work) bytes
      (state_of (judge_by j.opening j.capacity (j.count + 1) (event_in j.events (decode bytes)) rows') log' work')
  push_taken z = record {
    refused = λ q. never (ap (λ (n : ℕ). eqb n 0) (sym push_number ∙ z)) q;
    taken = λ q. took j log work rows bytes are (has_room z) (t.taken z);
  }

  -- a refused one: everything is as it stood
  pub push_refused : (r ≡ 0 → ⊥) → Pushed Indexed (state_of j log work) bytes (state_of j log' work')
  push_refused n =
      let e = t.refused n in
      record {
        refused = λ q. λ i. state_of j (e.0 i) (e.1 i);
        taken = λ q. never q (ap (λ (m : ℕ). eqb m 0) (sym push_number) ∙ ne_eqb r 0 n);
      }

-- the rows of a judge that is read from them
pub rows_own : (o : Opening) (cap n e : ℕ) (rows : List ℕ) → length rows ≡ 56 → RowsOf (judge_by o cap n e rows) rows
rows_own o cap n e rows s h q = rows_read rows s ∙ ap rows_of q
