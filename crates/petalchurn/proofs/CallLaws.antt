-- What opening, a push, a report and a whole trace leave, from the judge's own promises. Assumes nothing.
use mathlib.Core.Path.{◌≡◌, refl, sym, ap, ◌∙◌, subst}
use mathlib.Core.Bool.{Bool, true, false, cond}
use mathlib.Core.List.{List, ◌∷◌, ◌++◌}
use Rattle.std.specs.Prelude.{Some}
use Prim.Native.Nat.{ℕ, ◌+◌, ◌*◌, ◌≤◌, ◌<◌}
use native.Mathlib.Omega.{arith}
use lib.ListN.{length, get_or, drop, set}
use lib.Seq.{sets}
use lib.Dec.{eqb}
use Rattle.record.specs.Records.{decode}
use Rattle.record.proofs.Booleans.{never}
use Rattle.rules.specs.declared.Opening.{Opening}
use Rattle.rules.specs.declared.Report.{Report}
use Rattle.rules.specs.Reports.{passed}
use Rattle.rules.specs.Checks.{check_count}
use Rattle.rows.specs.Rows.{rows_size, report_words, rows_of}
use Rattle.rows.proofs.Rows.{length_rows}
use Rattle.record.proofs.Lists.{sets_front}
use Rattle.events.specs.Numbers.{event_in}
use Rattle.decision.specs.Refusals.{outcome_number, fits_by}
use Rattle.intake.specs.Words.{Indexed}
use Rattle.intake.specs.Takes.{TakesIn}
use Rattle.judge.specs.declared.answer.Reported.{Reported}
use Rattle.judge.specs.declared.opening.Opened.{Opened}
use Rattle.judge.specs.declared.state.Judge.{Judge}
use Rattle.judge.specs.declared.trace.Traced.{Traced}
use Rattle.judge.specs.States.{push_refusal}
use Rattle.judge.specs.Openings.{Opens}
use Rattle.judge.specs.Answers.{report_no, ReportedBy}
use Rattle.judge.specs.Pushes.{Pushed, state_of}
use Rattle.judge.specs.Traces.{judge_by, TracedBy}
use Rattle.judge.proofs.Pushes.{RowsOf, push_number, push_taken, push_refused, rows_own}
use Rattle.state_words.specs.StateWords.{state_size, state_words, judge_in, is_state, state_in}
use Rattle.state_words.proofs.Headers.{opening_in, rows_part, with_rows, part_size, judge_part, with_same, with_counts}
use Rattle.state_words.proofs.States.{state_facts, fit_of, some_state, none_state, state_words_lem}
use Rattle.petalchurn.specs.Calls.{report_size, trace_size, OpensWords, PushesWords, ReportsWords, trace_words, TracesWords}

-- ---- the sizes of what is written

-- ---- opening

module _ (o : Opening) (log work state : List ℕ) where
  pub open_short : (length state ≡ state_size → ⊥) → OpensWords o log work state 8 work state
  open_short n = record { short = λ x. (refl, refl, refl); refused = λ h none. absurd (n h); opened = λ h c x. absurd (n h) }

  pub open_done : (p : Opened) {r : ℕ} {work' state' : List ℕ} → length state ≡ state_size → Opens o (length log) work p work'
      → state' ≡ state_words p.judge → r ≡ outcome_number p.outcome → OpensWords o log work state r work' state'
  open_done p h q s e = record {
    short = λ n. absurd (n h);
    refused = λ g none. let x = q.refused none in (e ∙ x.0, x.2, s ∙ ap state_words x.1);
    opened = λ g c f. let x = q.opened c f in (e ∙ x.0, x.2, s ∙ ap state_words x.1);
  }

-- ---- a push

module _ (state log work bytes : List ℕ) where
  pub push_unfit : is_state state ≡ false → PushesWords state log work bytes 5 state log work
  push_unfit t = record { unfit = λ e. refl; fit = λ j e. never (some_state state e) t; untouched = λ z. (refl, refl, refl) }

  -- the core's answer on the state's own words
  module _ (t : is_state state ≡ true) {r : ℕ} {log' work' rows' : List ℕ}
      (p : TakesIn (opening_in state) (get_or state 0 0) (get_or state 1 0) (get_or state 2 0) log work (rows_part state) bytes r log' work' rows') where
    size : length state ≡ state_size
    size = (state_facts state t).size

    -- the judge of the state's numbers and rows
    abbrev own : Judge
    own = judge_by (opening_in state) (get_or state 0 0) (get_or state 1 0) (get_or state 2 0) (rows_part state)

    are : RowsOf own (rows_part state)
    are = rows_own (opening_in state) (get_or state 0 0) (get_or state 1 0) (get_or state 2 0) (rows_part state) (part_size state size)

    own_is : {j : Judge} → state_in state ≡ Some j → own ≡ j
    own_is e = judge_part state size ∙ fit_of state t e

    number : {j : Judge} → state_in state ≡ Some j → r ≡ push_refusal (state_of j log work) bytes
    number e = push_number own log work (rows_part state) bytes are p ∙ ap (λ (i : Judge). push_refusal (state_of i log work) bytes) (own_is e)

    pub rows_left : length rows' ≡ rows_size
    rows_left = p.size ∙ part_size state size

    -- refused: the words are those given
    pub push_left : (r ≡ 0 → ⊥) → PushesWords state log work bytes r (with_rows state rows') log' work'
    push_left z =
        let l = p.refused z in
        let same : with_rows state rows' ≡ state = with_same state size l.2 in
        record {
          unfit = λ n. never t (none_state state n);
          fit = λ j e. record {
            refusal = number e;
            judge = j;
            leaves = subst (λ (i : Judge). Pushed Indexed (state_of i log work) bytes (state_of i log' work')) (own_is e)
                (push_refused own log work (rows_part state) bytes are p z);
            words = same ∙ state_words_lem state j e;
          };
          untouched = λ n. (same, l.0, l.1);
        }

    -- taken: the words are those of the judge with the rows that the core left, one more in the count, and the events with this record
    pub push_done : {e : ℕ} → r ≡ 0 → e ≡ event_in (get_or state 2 0) (decode bytes)
        → PushesWords state log work bytes r (set (set (with_rows state rows') 1 (get_or state 1 0 + 1)) 2 e) log' work'
    push_done {e} z q =
        let n = get_or state 1 0 + 1 in
        let m = event_in (get_or state 2 0) (decode bytes) in
        let next : Judge = judge_by (opening_in state) (get_or state 0 0) n m rows' in
        record {
          unfit = λ x. never t (none_state state x);
          fit = λ j x. record {
            refusal = number x;
            judge = next;
            leaves = subst (λ (i : Judge). Pushed Indexed (state_of i log work) bytes (state_of next log' work')) (own_is x)
                (push_taken own log work (rows_part state) bytes are p z);
            words = ap (λ (k : ℕ). set (set (with_rows state rows') 1 n) 2 k) q ∙ with_counts state size rows' n m rows_left;
          };
          untouched = λ x. absurd (x z);
        }

-- ---- a report

refused_by : (b : Bool) {n : ℕ} → n ≡ cond b 0 5 → (n ≡ 0 → ⊥) → (b ≡ false) × (n ≡ 5)
refused_by true e h = absurd (h e)
refused_by false e h = (refl, e)

given_by : (b : Bool) {n : ℕ} → n ≡ cond b 0 5 → n ≡ 0 → b ≡ true
given_by true e h = refl
given_by false e h = absurd (omega arith)

module _ (state : List ℕ) (k : ℕ) (out : List ℕ) where
  pub report_unfit : is_state state ≡ false → ReportsWords state k out 5 out
  report_unfit t = record {
    unfit = λ e. refl;
    refused = λ j e f. never (some_state state e) t;
    short = λ j e f l. never (some_state state e) t;
    untouched = λ z. refl;
    given = λ j e f l. never (some_state state e) t;
  }

  module _ (p : Reported) {j : Judge} {n : ℕ} (t : is_state state ≡ true) (g : j ≡ judge_in state) (q : ReportedBy j k p)
      (e : n ≡ outcome_number p.outcome) where
    -- what is said of the judge that was read is said of the state's
    fits_at : (i : Judge) → judge_in state ≡ i → fits_by j.capacity j.count ≡ fits_by i.capacity i.count
    fits_at i h = ap (λ (x : Judge). fits_by x.capacity x.count) (g ∙ h)

    pub report_refused : (n ≡ 0 → ⊥) → ReportsWords state k out n out
    report_refused h =
        let b = refused_by (fits_by j.capacity j.count) (e ∙ q.refusal) h in
        record {
          unfit = λ x. never t (none_state state x);
          refused = λ i x f. b.1;
          short = λ i x f l. never f (sym (fits_at i (fit_of state t x)) ∙ b.0);
          untouched = λ z. refl;
          given = λ i x f l. never f (sym (fits_at i (fit_of state t x)) ∙ b.0);
        }

    pub report_short : n ≡ 0 → length out < report_size → ReportsWords state k out 8 out
    report_short z s =
        let b = given_by (fits_by j.capacity j.count) (e ∙ q.refusal) z in
        record {
          unfit = λ x. never t (none_state state x);
          refused = λ i x f. never (sym (fits_at i (fit_of state t x)) ∙ b) f;
          short = λ i x f l. refl;
          untouched = λ z. refl;
          given = λ i x f l. absurd (omega arith);
        }

    pub report_done : {out' : List ℕ} → n ≡ 0 → report_size ≤ length out → out' ≡ sets out 0 (report_words p.report) → ReportsWords state k out 0 out'
    report_done z s w =
        let b = given_by (fits_by j.capacity j.count) (e ∙ q.refusal) z in
        let r : p.report ≡ report_no j.reports k = q.report ∙ ap (λ (x : Bool). cond x (report_no j.reports k) passed) b in
        record {
          unfit = λ x. never t (none_state state x);
          refused = λ i x f. never (sym (fits_at i (fit_of state t x)) ∙ b) f;
          short = λ i x f l. absurd (omega arith);
          untouched = λ z. absurd (z refl);
          given = λ i x f l. (
            refl,
            w ∙ sets_front out (report_words p.report) s
                ∙ ap (λ (y : Report). report_words y ++ drop report_size out) (r ∙ ap (λ (y : Judge). report_no y.reports k) (g ∙ fit_of state t x)),
          );
        }

-- ---- a whole trace

-- two stores and the rows from the third word on write a trace's words at the front of a list
pub trace_written : (out : List ℕ) (t : Traced) {n m : ℕ} → trace_size ≤ length out → length t.judge.reports ≡ check_count → n ≡ t.judge.count
    → m ≡ cond (eqb (outcome_number t.outcome) 0) 0 t.at
    → sets (set (set out 0 n) 1 m) 2 (rows_of t.judge.reports) ≡ trace_words t ++ drop trace_size out
unfolding trace_words
trace_written out t {n} {m} h e a b =
    let z : length (rows_of t.judge.reports) ≡ rows_size = length_rows t.judge.reports ∙ ap (λ (k : ℕ). 7 * k) e in
    let y : length (n ∷ m ∷ rows_of t.judge.reports) ≡ trace_size = omega arith in
    sets_front out (n ∷ m ∷ rows_of t.judge.reports) (omega arith)
    ∙ ap (λ (k : ℕ). (n ∷ m ∷ rows_of t.judge.reports) ++ drop k out) y
    ∙ ap (λ (x : ℕ). (x ∷ m ∷ rows_of t.judge.reports) ++ drop trace_size out) a
    ∙ ap (λ (x : ℕ). (t.judge.count ∷ x ∷ rows_of t.judge.reports) ++ drop trace_size out) b

module _ (o : Opening) (log work trace out : List ℕ) where
  pub trace_short : length out < trace_size → TracesWords o log work trace out 8 log work out
  trace_short h = record { short = λ x. (refl, refl, refl, refl); traced = λ x. absurd (omega arith) }

  pub trace_done : (t : Traced) {r : ℕ} {log' work' out' : List ℕ} → trace_size ≤ length out → TracedBy o log work trace t log' work'
      → r ≡ outcome_number t.outcome → out' ≡ trace_words t ++ drop trace_size out → TracesWords o log work trace out r log' work' out'
  trace_done t h q e w = record { short = λ x. absurd (omega arith); traced = λ x. (t, q, e, w) }
