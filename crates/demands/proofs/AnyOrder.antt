-- Grants in any order: two runs that took the same grants pass the ids check both or fault both, and in one that passes an id has one
-- holder at most. Assumes nothing.
use mathlib.Core.Path.{◌≡◌, refl, sym, ap, ◌∙◌, subst}
use mathlib.Core.Bool.{Bool, true, false, cond}
use mathlib.Core.List.{List, [], ◌∷◌, ◌++◌, Perm}
use Prim.Native.Nat.{ℕ, ◌≤◌}
use native.Mathlib.Omega.{arith}
use lib.ListN.{length, get_or, drop}
use borrow.Author.Tests.{le-ltb}
use Rattle.rules.specs.declared.Opening.{Opening}
use Rattle.rules.specs.declared.Report.{Report}
use Rattle.rules.specs.History.{History, Mem}
use Rattle.rules.specs.IdsUnique.{Grant, contains, holders_of}
use Rattle.rules.specs.Reports.{passed}
use Rattle.rules.specs.AnyOrder.{leased_of, grants_of, Unique, ids_place, ids_of, Alike}
use Rattle.rules.proofs.Members.{NonePasses}
use Rattle.rules.proofs.Checks.{report_at_lem}
use Rattle.rules.proofs.Grants.{one_holder, holder_is, holder_none}
use Rattle.rules.proofs.AnyOrder.{ids_passes, ids_any_order, holders_any_order, leased_grants}
use Rattle.ids_unique.specs.Answers.{too_short, holder_words}
use Rattle.ids_unique.proofs.Words.{length_holders}
use Rattle.judge.specs.declared.lookup.Looked.{Looked}
use Rattle.judge.specs.declared.lookup.Question.TheVariants.{HoldersOf}
use Rattle.judge.specs.declared.trace.Traced.{Traced}
use Rattle.decision.specs.Refusals.{outcome_number}
use Rattle.judge.specs.States.{State}
use Rattle.judge.specs.Lookups.{LookedBy}
use Rattle.demands.specs.Runs.{report_at}
use Rattle.demands.specs.Demand2.{Demand2}
use Rattle.demands.specs.Pieces.{records_taken, WholeTrace}
use Rattle.demands.specs.AnyOrder.{RunOf, OneHolder}
use Rattle.judge.proofs.Lookups.{none_fit}
use Rattle.demands.proofs.Demand2.{demand2}

-- ---- a look-up of holders, by the rules' answer

rest_by : (b : Bool) (words out : List ℕ) → length words ≤ 1 → drop 1 (cond b out (words ++ drop (length words) out)) ≡ drop 1 out
rest_by true words out l = refl
rest_by false [] out l = refl
rest_by false (w ∷ []) out l = refl
rest_by false (w ∷ v ∷ vs) out l = absurd (omega arith)

most_by : (b : Bool) (n : ℕ) → n ≤ 1 → cond b 0 n ≤ 1
most_by true n l = omega arith
most_by false n l = l

-- the words at the front of a list, where they fit
abbrev list_with : List ℕ → List ℕ → List ℕ
list_with ws out = cond (too_short ws out) out (ws ++ drop (length ws) out)

no_word : holder_words [] ≡ []
unfolding holder_words
no_word = refl

one_word : (g : Grant) → holder_words (g ∷ []) ≡ g.node ∷ []
unfolding holder_words
one_word g = refl

module _ (id : ℕ) (h : History) (u : Unique (grants_of h)) (out : List ℕ) where
  abbrev words : List ℕ
  words = holder_words (holders_of id h)

  few : length words ≤ 1
  few = let once = one_holder h u id in omega (arith, length_holders (holders_of id h))

  roomy : 1 ≤ length out → too_short words out ≡ false
  roomy l = let f = few in le-ltb (length out) (length words) (omega arith)

  module _ {value : ℕ} {out' : List ℕ} (valued : value ≡ cond (too_short words out) 0 (length (holders_of id h))) (listed : out' ≡ list_with words out) where
    held_by : (g : Grant) → Mem g (grants_of h) → contains id g ≡ true → 1 ≤ length out → (value ≡ 1) × (out' ≡ g.node ∷ drop 1 out)
    held_by g m c l =
        let one : holders_of id h ≡ g ∷ [] = holder_is h u id g m c in
        let word : words ≡ g.node ∷ [] = ap holder_words one ∙ one_word g in (
          valued ∙ ap (λ (b : Bool). cond b 0 (length (holders_of id h))) (roomy l) ∙ ap (λ (gs : List Grant). length gs) one,
          listed ∙ ap (λ (b : Bool). cond b out (words ++ drop (length words) out)) (roomy l) ∙ ap (λ (ws : List ℕ). ws ++ drop (length ws) out) word,
        )

    held_by_none : {refusal : ℕ} → refusal ≡ cond (too_short words out) 8 0 → NonePasses (contains id) (grants_of h)
        → (refusal ≡ 0) × (value ≡ 0) × (out' ≡ out)
    held_by_none refused n =
        let none : holders_of id h ≡ [] = holder_none h id n in
        let word : words ≡ [] = ap holder_words none ∙ no_word in
        let fits : too_short words out ≡ false = ap (λ (ws : List ℕ). too_short ws out) word ∙ none_fit out in (
          refused ∙ ap (λ (b : Bool). cond b 8 0) fits,
          valued ∙ ap (λ (b : Bool). cond b 0 (length (holders_of id h))) fits ∙ ap (λ (gs : List Grant). length gs) none,
          listed ∙ ap (λ (b : Bool). cond b out (words ++ drop (length words) out)) fits ∙ ap (λ (ws : List ℕ). ws ++ drop (length ws) out) word,
        )

    -- the rules' answer has one holder at most
    pub one_held : {refusal : ℕ} → refusal ≡ cond (too_short words out) 8 0 → OneHolder id h out refusal value out'
    one_held refused = record {
      most = subst (λ (n : ℕ). n ≤ 1) (sym valued) (most_by (too_short words out) (length (holders_of id h)) (one_holder h u id));
      rest = ap (drop 1) listed ∙ rest_by (too_short words out) words out few;
      room = λ l. refused ∙ ap (λ (b : Bool). cond b 8 0) (roomy l);
      holder = held_by;
      nobody = held_by_none refused;
    }

-- ---- whatever the second demand holds of: a run of calls, a whole trace, a host's words

pub ids_report : {o : Opening} {h : History} {t : State} → Demand2 o h t → report_at ids_place t ≡ ids_of o h
ids_report {o} {h} d = ap (λ (rs : List Report). get_or rs ids_place passed) d.reports ∙ report_at_lem o h ids_place (omega arith)

-- where the ids report passes, an id has one holder at most
pub demand_one_holder : {o : Opening} {h : History} {t : State} → Demand2 o h t → report_at ids_place t ≡ passed
    → (id : ℕ) (out out' : List ℕ) (r : Looked) → LookedBy (HoldersOf id) t.judge t.log t.work out out' r
    → OneHolder id h out (outcome_number r.outcome) r.value out'
demand_one_holder {o} {h} d e id out out' r l =
    let a = d.answers (HoldersOf id) out out' r l in
    one_held id h ((ids_passes o h).0 (sym (ids_report d) ∙ e)) out a.value a.list a.refusal

module _ {o p : Opening} {h g : History} {t u : State} (d : Demand2 o h t) (f : Demand2 p g u) (q : Perm (grants_of h) (grants_of g)) where
  -- two with the same grants, in whichever order, pass both or fault both ..
  pub demands_any_order : Alike (report_at ids_place t) (report_at ids_place u)
  demands_any_order =
      subst (λ (r : Report). Alike r (report_at ids_place u)) (sym (ids_report d))
      (subst (λ (r : Report). Alike (ids_of o h) r) (sym (ids_report f)) (ids_any_order o p h g q))

  -- .. and where they pass they answer alike who holds an id
  pub demands_same_holder : report_at ids_place t ≡ passed → (id : ℕ) (out out_t out_u : List ℕ) (r s : Looked)
      → LookedBy (HoldersOf id) t.judge t.log t.work out out_t r → LookedBy (HoldersOf id) u.judge u.log u.work out out_u s
      → (r.value ≡ s.value) × (out_t ≡ out_u)
  demands_same_holder e id out out_t out_u r s l m =
      let same : holders_of id h ≡ holders_of id g = holders_any_order o p h g q (sym (ids_report d) ∙ e) id in
      let a = d.answers (HoldersOf id) out out_t r l in
      let b = f.answers (HoldersOf id) out out_u s m in (
        a.value ∙ ap (λ (gs : List Grant). cond (too_short (holder_words gs) out) 0 (length gs)) same ∙ sym b.value,
        a.list ∙ ap (λ (gs : List Grant). list_with (holder_words gs) out) same ∙ sym b.list,
      )

-- ---- runs of calls

run_demand2 : {h : History} {t : State} (w : RunOf h t) → Demand2 w.opening h t
run_demand2 {t = t} w =
    subst (λ (g : History). Demand2 w.opening g t) w.takes
    (demand2 w.opening w.capacity w.log w.work w.opened w.work' w.fits w.opens w.calls t w.run)

module _ {h g : History} {t u : State} (w : RunOf h t) (v : RunOf g u) where
  -- GRANTS IN ANY ORDER: two runs, from any openings, whose taken grants are the same with the same repeats, in whichever order: the ids
  -- report is a pass in both or a fault in both
  pub runs_any_order : Perm (grants_of h) (grants_of g) → Alike (report_at ids_place t) (report_at ids_place u)
  runs_any_order q = demands_any_order (run_demand2 w) (run_demand2 v) q

  -- .. and so for "RangeIdsLeased records taken"
  pub runs_same_records : Perm (leased_of h) (leased_of g) → Alike (report_at ids_place t) (report_at ids_place u)
  runs_same_records q = runs_any_order (leased_grants h g q)

  pub runs_same_holder : Perm (grants_of h) (grants_of g) → report_at ids_place t ≡ passed → (id : ℕ) (out out_t out_u : List ℕ) (r s : Looked)
      → LookedBy (HoldersOf id) t.judge t.log t.work out out_t r → LookedBy (HoldersOf id) u.judge u.log u.work out out_u s
      → (r.value ≡ s.value) × (out_t ≡ out_u)
  runs_same_holder q = demands_same_holder (run_demand2 w) (run_demand2 v) q

-- AT MOST ONE HOLDER: "in a passing trace `holders_of` gives at most one holder for every id"
pub run_one_holder : {h : History} {t : State} → RunOf h t → report_at ids_place t ≡ passed → (id : ℕ) (out out' : List ℕ) (r : Looked)
    → LookedBy (HoldersOf id) t.judge t.log t.work out out' r → OneHolder id h out (outcome_number r.outcome) r.value out'
run_one_holder w = demand_one_holder (run_demand2 w)

-- ---- whole traces, by their own bytes

module _ {o p : Opening} {c d : ℕ} {trace other : List ℕ} {r s : Traced} {t u : State} (w : WholeTrace o c trace r t) (v : WholeTrace p d other s u) where
  pub traces_any_order : Perm (grants_of (records_taken c trace)) (grants_of (records_taken d other)) → Alike (report_at ids_place t) (report_at ids_place u)
  traces_any_order q = demands_any_order w.demand2 v.demand2 q
