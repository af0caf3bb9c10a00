-- The theorem for readers: what the printed bytes say of the bytes on standard input. Assumes nothing.
use mathlib.Core.Path.{◌≡◌, refl, sym, ap, ◌∙◌, subst}
use mathlib.Core.Bool.{Bool, true, false, cond}
use mathlib.Core.List.{List}
use mathlib.Core.Logic.{◌⊎◌, inl, inr}
use Prim.Native.Nat.{ℕ, ◌+◌, ◌*◌, ◌≤◌, ◌<◌}
use native.Mathlib.Omega.{arith}
use lib.ListN.{length, take, get_or}
use lib.Dec.{eqb}
use borrow.Author.Tests.{eqb-true}
use Rattle.rules.specs.Cases.{Case}
use Rattle.rules.specs.declared.Evidence.{Evidence}
use Rattle.rules.specs.declared.Report.{Report}
use Rattle.rules.specs.declared.Verdict.{Verdict}
use Rattle.rules.specs.declared.Verdict.TheVariants.{Pass, Faulted}
use Rattle.rules.specs.History.{History}
use Rattle.rules.specs.Reports.{passed, Right, report_of}
use Rattle.rules.specs.Checks.{check_count, check_at, HasBy, case_at, report_by, reports_of}
use Rattle.rules.proofs.Reports.{report_of_passed}
use Rattle.rules.proofs.Checks.{report_at_lem, check_right}
use Rattle.decision.specs.Refusals.{outcome_number}
use Rattle.judge.specs.Openings.{Fits}
use Rattle.demands.proofs.Pieces.{whole_trace}
use Rattle.sheet_text.specs.Sheets.{pass_line, line_of, line, name_at, last_line, line_at, sheet_size}
use Rattle.sheet_text.proofs.Lines.{last_none}
use Rattle.sheet_text.proofs.Printed.{printed_front}
use Rattle.sheet_text.proofs.ReadBack.{line_pass_only, line_fault_only, last_same}
use Rattle.sheet_text.proofs.Cuts.{sheet_check, sheet_last, sheet_end}
use Rattle.sheet.specs.Printing.{sheet_of, opening, Prints}
use Rattle.sheet.specs.Readers.{read_of, taken, count, refusal, FaultLine, LineSays, CheckLine, LastSays, SheetSays}
use Rattle.sheet.proofs.Enough.{same_pieces, same_refusal, same_records}

-- ---- a check's line

one_line : (name : List ℕ) (v : Verdict) (at : ℕ) (e : Evidence) → (line_of name v at e ≡ pass_line name) ⊎ FaultLine name (line_of name v at e)
one_line name Pass at e = inl refl
one_line name (Faulted kind) at e = inr (record { kind = kind; at = at; evidence = e; is = refl })

-- the line of a right report says what the report says
line_says : {has : History → Type 0} {says : History → Case} {h : History} (name : List ℕ) (r : Report) → r ≡ report_of says h → Right has says h r
    → LineSays has says h name (line name r)
line_says {has} {says} {h} name r e right = record {
  pass_only = λ q. right.pass_only (e ∙ report_of_passed says h (ap (λ (s : Report). s.verdict) (sym e) ∙ line_pass_only name r q));
  pass_if = λ none. ap (line name) (right.pass_if none);
  fault_only = λ kind n d q. right.fault_only n kind d (line_fault_only name r kind n d q);
  fault_if = λ kind n d a. ap (line name) (right.fault_if n kind d a);
  one_of_them = one_line name r.verdict r.at r.evidence;
}

said : {has : History → Type 0} {says : History → Case} {h : History} (name : List ℕ) {bytes : List ℕ} (r : Report) → line name r ≡ bytes
    → r ≡ report_of says h → Right has says h r → LineSays has says h name bytes
said {has} {says} {h} name r q e right = subst (LineSays has says h name) q (line_says name r e right)

-- ---- the last line

last_by : (n f : ℕ) (b : Bool) → eqb f 0 ≡ b → last_line n f (cond b n (n + 1)) ≡ last_line n f (n + 1)
last_by n f true e = last_none n f n (n + 1) (eqb-true f 0 e)
last_by n f false e = refl

last_says : (input : List ℕ) (n f a : ℕ) → n ≡ count input → f ≡ refusal input → a ≡ cond (eqb (refusal input) 0) (count input) (count input + 1)
    → LastSays input (last_line n f a)
last_says input n f a p q s =
    let z : last_line n f a ≡ last_line (count input) (refusal input) (count input + 1) =
    (λ i. last_line (p i) (q i) (s i)) ∙ last_by (count input) (refusal input) (eqb (refusal input) 0) refl in
    record {
      is = z;
      only = λ m g b e. last_same m (count input) g (refusal input) b (count input + 1) (sym e ∙ z);
    }

-- ---- the sheet

fits : {logs words : ℕ} → logs ≡ 368 * 96 → words ≡ 32 * 96 → Fits logs words 96
fits e f = record { some = omega arith; most = omega arith; log = e; work = f }

-- the line of a report that is the check's says what the check says
check_says : (input : List ℕ) (k : ℕ) → k < check_count → {bytes : List ℕ} (r : Report) → line (name_at k) r ≡ bytes
    → r ≡ report_by opening (taken input) (check_at k) → CheckLine k input bytes
check_says input k l r q e =
    let right : Right (HasBy (check_at k).rule opening) (case_at opening (check_at k)) (taken input) r =
    subst (Right (HasBy (check_at k).rule opening) (case_at opening (check_at k)) (taken input)) (sym e) (check_right opening (taken input) k l) in
    said (name_at k) r q e right

-- A PRINTED SHEET: where a buffer that holds every sheet has the sheet of what was read of an input at its front, these bytes,
-- which the program prints, say of the whole input what `SheetSays` lists
pub printed_sheet : (input : List ℕ) {out out' : List ℕ} {r : ℕ} → sheet_size ≤ length out → Prints (read_of input) out out' r
    → SheetSays input (take r out')
unfolding sheet_of
printed_sheet input {out} {out'} {r} l p =
    let t = p.traced in
    let w = whole_trace opening 96 p.log p.work (read_of input) t p.log' p.work' (fits p.log_size p.work_size) p.judged in
    let rs = t.judge.reports in
    let many = t.judge.count in
    let number = outcome_number t.outcome in
    let reports : rs ≡ reports_of opening (taken input) = w.demand2.reports ∙ ap (reports_of opening) (same_records input) in
    let same : take r out' ≡ sheet_of t = printed_front (sheet_of t) out l p.size p.is in
    let n : count (read_of input) ≡ count input = ap (λ (ps : List (List ℕ)). length ps) (same_pieces input) in
    let f : refusal (read_of input) ≡ refusal input = same_refusal input in
    let place : t.at ≡ cond (eqb (refusal input) 0) (count input) (count input + 1) = w.at ∙ (λ i. cond (eqb (f i) 0) (n i) (n i + 1)) in
    let last : last_line many number t.at ≡ line_at check_count (take r out') = sym (ap (line_at check_count) same ∙ sheet_last rs many number t.at) in
    record {
      check_line = λ k b. check_says input k b (get_or rs k passed)
          (sym (ap (line_at k) same ∙ sheet_check rs many number t.at k b))
          (ap (λ (s : List Report). get_or s k passed) reports ∙ report_at_lem opening (taken input) k b);
      last_line = subst (LastSays input) last (last_says input many number t.at (w.count ∙ n) (w.refusal ∙ f) place);
      end = ap (line_at (check_count + 1)) same ∙ sheet_end rs many number t.at;
    }
