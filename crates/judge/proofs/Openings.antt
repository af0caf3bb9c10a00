-- Opening: the capacity asked is the one that fits, and an opening leaves the state after no records. Assumes nothing.
use Rattle.std.specs.Prelude.{Ok, Err}
use mathlib.Core.Path.{◌≡◌, refl, sym, ap, ◌∙◌, subst}
use mathlib.Core.Bool.{Bool, true, false, not, ◌||◌}
use mathlib.Core.List.{List, []}
use Prim.Native.Nat.{ℕ, ◌*◌, ◌/◌}
use native.Mathlib.Omega.{arith}
use lib.ListN.{length, replicate, length-replicate}
use lib.Dec.{eqb}
use borrow.Author.Tests.{eqb-false, ne_eqb}
use Rattle.record.proofs.Booleans.{never}
use Rattle.rules.specs.declared.Opening.{Opening}
use Rattle.rules.specs.Reports.{passed, report_of}
use Rattle.rules.specs.Checks.{check_count, reports_of}
use Rattle.rules.proofs.Events.{events_none}
use Rattle.history.proofs.Logs.{hist_none}
use Rattle.history.proofs.Cells.{Zeros, zeros, column_clear}
use Rattle.history.proofs.Chains.{chained_clear}
use Rattle.descriptors.proofs.Noting as descriptors
use Rattle.meta_never_goes_back.proofs.Naming as names
use Rattle.ids_unique.specs.Columns.{IdsIndexed, block_link, last_after}
use Rattle.generations_rise.specs.Columns.{GenerationsIndexed, generation_by}
use Rattle.one_owner_per_key.proofs.Notes.{owners_clear}
use Rattle.splits.proofs.Openings.{half_clear}
use Rattle.judge.specs.declared.opening.Opened.{Opened}
use Rattle.judge.specs.declared.state.Judge.{Judge}
use Rattle.judge.specs.declared.state.Tested.{Tested}
use Rattle.decision.specs.declared.refusal.Refusal.TheVariants.{Opening as Unopened}
use Rattle.judge.specs.States.{suits}
use Rattle.judge.specs.Openings.{Fits, fresh_of, Opens}
use Rattle.decision.specs.Refusals.{suits_by}
use Rattle.intake.specs.Words.{Indexed}
use Rattle.judge.specs.Pushes.{After, state_of}
use Rattle.decision.proofs.Suiting.{Suiting, suiting, suits_by_lem}

ids_clear : {cap : ℕ} {work : List ℕ} → Zeros work → IdsIndexed cap [] work
ids_clear z = record { links = column_clear block_link z; lasts = column_clear last_after z }

generations_clear : {cap : ℕ} {work : List ℕ} → Zeros work → GenerationsIndexed cap [] work
generations_clear z = record { keys = chained_clear z; written = column_clear generation_by z }

indexed_clear : {cap : ℕ} {work : List ℕ} → Zeros work → Indexed cap [] work
indexed_clear z = record {
  descriptors = descriptors.indexed_clear z;
  firsts = chained_clear z;
  generations = generations_clear z;
  ids = ids_clear z;
  owners = owners_clear z;
  half = half_clear z;
  meta = names.indexed_clear z;
}

none_reported : (o : Opening) → replicate check_count passed ≡ reports_of o []
unfolding reports_of report_of
none_reported o = refl

pub fresh_after : (o : Opening) (c : ℕ) (log work : List ℕ) → Fits (length log) (length work) c
    → After Indexed [] (state_of (fresh_of c o) log (replicate (length work) 0))
unfolding suits
fresh_after o c log work f =
    let l : length {A = ℕ} (replicate (length work) 0) ≡ 32 * c = length-replicate (length work) 0 ∙ f.work in
    record {
      fits = suits_by_lem (record { small = f.most; within = omega arith; log = f.log; work = l });
      count = refl;
      events_are = sym events_none;
      taken = hist_none log;
      reports = none_reported o;
      words = indexed_clear (zeros (length work) refl);
    }

-- ---- the judge of the capacity asked

-- a test that holds, and a number that is not 0
both : (b d : Bool) → (not b || d) ≡ false → (b ≡ true) × (d ≡ false)
both true false e = (refl, refl)
both true true e = never refl e
both false d e = never refl e

module _ (o : Opening) (logs : ℕ) (work : List ℕ) {j : Judge} {t : Tested} (asked : j ≡ fresh_of (logs / 368) o)
    (u : (t.holds ≡ suits_by j.capacity j.count logs (length work)) × (t.judge ≡ j)) where
  tested : t.holds ≡ suits_by (logs / 368) 0 logs (length work)
  tested = u.0 ∙ ap (λ (i : Judge). suits_by i.capacity i.count logs (length work)) asked

  -- the capacity that fits is the one asked
  same : (c : ℕ) → Fits logs (length work) c → c ≡ logs / 368
  same c f = let e = f.log in omega arith

  holds_then : (c : ℕ) → Fits logs (length work) c → (not t.holds || eqb (logs / 368) 0) ≡ false
  holds_then c f =
      let e = same c f in
      let m = f.most in let l = f.log in let w = f.work in let s = f.some in
      let h : t.holds ≡ true = tested ∙ suits_by_lem {capacity = logs / 368} {count = 0} {logs = logs} {words = length work}
      (record { small = omega arith; within = omega arith; log = omega arith; work = omega arith }) in
      let z : eqb (logs / 368) 0 ≡ false = ne_eqb (logs / 368) 0 (λ q. omega arith) in
      λ i. not (h i) || z i

  pub asked_refused : {k : Judge} → (not t.holds || eqb (logs / 368) 0) ≡ true → k ≡ fresh_of 0 o
      → Opens o logs work (record { outcome = Err Unopened; judge = k }) work
  asked_refused e g = record { refused = λ none. (refl, g, refl); opened = λ c f. never e (holds_then c f) }

  pub asked_opened : {work' : List ℕ} → (not t.holds || eqb (logs / 368) 0) ≡ false → work' ≡ replicate (length work) 0
      → Opens o logs work (record { outcome = Ok tt; judge = t.judge }) work'
  asked_opened e w =
      let b = both t.holds (eqb (logs / 368) 0) e in
      let s : Suiting (logs / 368) 0 logs (length work) = suiting (sym tested ∙ b.0) in
      let n : logs / 368 ≡ 0 → ⊥ = eqb-false _ _ b.1 in
      let fits : Fits logs (length work) (logs / 368) = record { some = omega arith; most = s.small; log = s.log; work = s.work } in
      record {
        refused = λ none. absurd (none (logs / 368) fits);
        opened = λ c f. (refl, u.1 ∙ asked ∙ ap (λ (d : ℕ). fresh_of d o) (sym (same c f)), w);
      }

-- ---- what is left

-- an opening without refusal gives the state after no records
pub opened_after : (o : Opening) (c : ℕ) (log work : List ℕ) (r : Opened) (work' : List ℕ) → Fits (length log) (length work) c
    → Opens o (length log) work r work' → After Indexed [] (state_of r.judge log work')
opened_after o c log work r work' f p =
    let q = p.opened c f in
    let e : state_of r.judge log work' ≡ state_of (fresh_of c o) log (replicate (length work) 0) = λ i. state_of (q.1 i) log (q.2 i) in
    subst (After Indexed []) (sym e) (fresh_after o c log work f)
