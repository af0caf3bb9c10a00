-- The words of a judge read back as that judge after any records: each report's words are its own, and its kind is a byte. Assumes
-- nothing.
use mathlib.Core.Path.{◌≡◌, refl, sym, ap, ◌∙◌, subst}
use mathlib.Core.Bool.{Bool, true, cond, ◌&&◌}
use mathlib.Core.List.{List, [], ◌∷◌, map}
use Rattle.std.specs.Prelude.{None, Some}
use Prim.Native.Nat.{ℕ, zero, suc, ◌*◌, ◌≤◌, ◌<◌}
use native.Mathlib.Omega.{arith}
use lib.ListN.{length, get_or, replicate}
use lib.Dec.{leb}
use borrow.Author.Tests.{leb-true, eq-eqb}
use Rattle.rules.specs.declared.Opening.{Opening}
use Rattle.rules.specs.declared.Report.{Report}
use Rattle.rules.specs.declared.Verdict.{Verdict}
use Rattle.rules.specs.declared.Verdict.TheVariants.{Pass, Faulted}
use Rattle.rules.specs.History.{History}
use Rattle.rules.specs.Reports.{passed, report_of}
use Rattle.rules.specs.Checks.{Check, checks, check_count, case_at, report_by, reports_of, Every}
use Rattle.record.proofs.Booleans.{and_left, and_right, both}
use Rattle.rules.proofs.CaseKinds.{CaseKinds, case_kinds, VerdictWithin, report_kinds}
use Rattle.rows.specs.Rows.{kind_word, rows_of, reports_in, KindsFit}
use Rattle.rows.proofs.Rows.{length_rows}
use Rattle.rows.proofs.ReadBack.{fit_kinds, fit_rows}
use Rattle.intake.specs.Words.{Indexed}
use Rattle.judge.specs.declared.state.Judge.{Judge}
use Rattle.judge.specs.States.{State}
use Rattle.judge.specs.Openings.{fresh_of}
use Rattle.judge.specs.Pushes.{After}
use Rattle.judge.proofs.Pushes.{reports_many, reports_back}
use Rattle.state_words.specs.StateWords.{header_size, state_size, state_words, judge_in, is_state, state_in}
use Rattle.state_words.proofs.Headers.{reports_rows, rows_kinds}

-- a judge whose reports are as many as the checks, with bytes as kinds, and read back from their rows
pub record Readable (j : Judge) : Type 0 where
  pub many : length j.reports ≡ check_count
  pub kinds : (k : ℕ) → k < check_count → kind_word (get_or j.reports k passed).verdict ≤ 255
  pub back : reports_in (rows_of j.reports) 0 ≡ j.reports

module _ (j : Judge) (r : Readable j) where
  words_many : length (state_words j) ≡ state_size
  unfolding state_words
  words_many = let n = length_rows j.reports ∙ ap (λ (k : ℕ). 7 * k) r.many in omega arith

  words_fit : KindsFit (state_words j) header_size
  unfolding state_words
  words_fit = rows_kinds (state_words j) (fit_rows j.reports r.many r.kinds)

  judge_back : judge_in (state_words j) ≡ j
  unfolding judge_in state_words
  judge_back =
      let read : List Report → Judge =
      λ rs. record { capacity = j.capacity; count = j.count; events = j.events; opening = j.opening; reports = rs } in
      ap read (sym (reports_rows (state_words j)) ∙ r.back)

  words_state : is_state (state_words j) ≡ true
  unfolding is_state
  words_state = both (eq-eqb (length (state_words j)) state_size words_many) (fit_kinds (state_words j) header_size words_fit)

  -- a judge's words are a state, and its judge is that judge
  pub state_back : state_in (state_words j) ≡ Some j
  state_back = λ i. cond (words_state i) (Some (judge_back i)) None

-- ---- the reports of a history

abbrev Few : Check → Type 0
Few c = c.kinds ≤ 255

abbrev few_in : List Check → Bool
few_in [] = true
few_in (c ∷ cs) = leb c.kinds 255 && few_in cs

few_by : (cs : List Check) → few_in cs ≡ true → Every Few cs
few_by [] e = tt
few_by (c ∷ cs) e = (leb-true c.kinds 255 (and_left (leb c.kinds 255) (few_in cs) e), few_by cs (and_right (leb c.kinds 255) (few_in cs) e))

-- the table's kinds are bytes
table_few : Every Few checks
table_few = few_by checks refl

verdict_few : {most : ℕ} (v : Verdict) → VerdictWithin most v → most ≤ 255 → kind_word v ≤ 255
verdict_few Pass w l = omega arith
verdict_few (Faulted kind) w l = let x = w.1 in omega arith

each_few : (o : Opening) (h : History) (cs : List Check) → Every CaseKinds cs → Every Few cs → (k : ℕ)
    → kind_word (get_or (map (report_by o h) cs) k passed).verdict ≤ 255
each_few o h [] p f k = omega arith
each_few o h (c ∷ cs) p f zero = verdict_few (report_by o h c).verdict (report_kinds (case_at o c) (p.0 o) h) f.0
each_few o h (c ∷ cs) p f (suc k) = each_few o h cs p.1 f.1 k

reports_few : (o : Opening) (h : History) (k : ℕ) → kind_word (get_or (reports_of o h) k passed).verdict ≤ 255
unfolding reports_of
reports_few o h k = each_few o h checks case_kinds table_few k

readable : (j : Judge) (o : Opening) (h : History) → j.reports ≡ reports_of o h → Readable j
readable j o h e = record {
  many = ap length e ∙ reports_many o h;
  kinds = λ k l. subst (λ (rs : List Report). kind_word (get_or rs k passed).verdict ≤ 255) (sym e) (reports_few o h k);
  back = subst (λ (rs : List Report). reports_in (rows_of rs) 0 ≡ rs) (sym e) (reports_back o h);
}

-- ---- the words

-- the words of a judge that has taken any records are a state, and that judge's
pub state_after : (h : History) (s : State) → After Indexed h s → state_in (state_words s.judge) ≡ Some s.judge
state_after h s a = state_back s.judge (readable s.judge s.judge.opening h a.reports)

none_reported : (o : Opening) → replicate check_count passed ≡ reports_of o []
unfolding reports_of report_of
none_reported o = refl

-- and so are those of an opened judge, refused or not
pub state_fresh : (c : ℕ) (o : Opening) → state_in (state_words (fresh_of c o)) ≡ Some (fresh_of c o)
state_fresh c o = state_back (fresh_of c o) (readable (fresh_of c o) o [] (none_reported o))
