-- Grants in any order: two histories with the same grants pass the ids check both or fault both, and where they pass `holders_of` gives
-- the same. Position and kind may differ.
use mathlib.Core.Path.{◌≡◌, refl, sym, ap, ◌∙◌, subst}
use mathlib.Core.Bool.{Bool, true, ◌&&◌, Bool-set}
use mathlib.Core.List.Perm
use mathlib.Core.List.{List, [], ◌∷◌, Perm, Permᴰ, reverse_perm, perm_iff_count, count}
use mathlib.Core.Logic.{◌↔◌, ⊎_elim, ∥∥₁_elim, ∥∥₁_map}
use Prim.Native.Nat.{ℕ}
use borrow.Author.Tests.{eq-eqb}
use Rattle.rules.specs.declared.Opening.{Opening}
use Rattle.rules.specs.declared.Report.{Report}
use Rattle.rules.specs.History.{History, is_kind, any_of, those, firsts, latest_of, greatest_of}
use Rattle.rules.specs.Cases.{evidence}
use Rattle.rules.specs.IdsUnique.{Grant, grant_by, same_index, grant_eqb, first_grants, blocks_of, contains, holders_of, ids_at}
use Rattle.rules.specs.Events.{events}
use Rattle.rules.specs.Reports.{passed, faulted, at_last, Arises, report_of}
use Rattle.rules.specs.Checks.{check_at}
use Rattle.rules.specs.AnyOrder.{leased_of, grants_of, Unique, ids_place, ids_of, Alike, pass, fault, AtMostOneHolder, one_log, other_log}
use Rattle.record.proofs.Booleans.{decide, never, and_left, and_right, both}
use Rattle.rules.proofs.Members.{Mem, any_of_mem, any_of_some, any_of_none}
use Rattle.rules.proofs.Permutations.{perm_mem, perm_those}
use Rattle.rules.proofs.Reports.{Judged, clean, faulty, judged, passed_or}
use Rattle.rules.proofs.ByEvents.{arises_lawful, none_arose, none_passes}
use Rattle.rules.proofs.Grants.{same_grant, grant_itself, unique_within, clear_unique, one_holder, holder_is, holder_none}

-- the place is that of the check whose word in the sheet is ids
pub ids_place_lem : (check_at ids_place).name ≡ "ids"
ids_place_lem = refl

-- ---- one history

-- WHEN THE IDS CHECK PASSES, without order: every grant taken has an id, those of one index are one grant, and those of different
-- indexes share no id
pub ids_passes : (o : Opening) (h : History) → (ids_of o h ≡ passed) ↔ Unique (grants_of h)
ids_passes o h = (
  λ p. (clear_unique h).0 (none_arose ids_at h (ap (λ (r : Report). r.verdict) p)),
  λ u. none_passes ids_at h ((clear_unique h).1 u),
)

-- "in a passing trace `holders_of` gives at most one holder for every id"
pub passed_one_holder : (o : Opening) (h : History) → ids_of o h ≡ passed → AtMostOneHolder h
passed_one_holder o h e = one_holder h ((ids_passes o h).0 e)

-- ---- lists with the same grants

-- whether two grants are one
abbrev is_grant : Grant → Grant → Bool
is_grant g o = same_index g o && grant_eqb g o

is_itself : (g : Grant) → is_grant g g ≡ true
is_itself g = both (eq-eqb g.index g.index refl) (grant_itself g)

is_grant_lem : (g o : Grant) → is_grant g o ≡ true → g ≡ o
is_grant_lem g o e = same_grant g o (and_left (same_index g o) (grant_eqb g o) e) (and_right (same_index g o) (grant_eqb g o) e)

pub grant_discrete : (g o : Grant) → Dec (g ≡ o)
grant_discrete g o = ⊎_elim
    (λ e. yes (is_grant_lem g o e))
    (λ e. no (λ q. never (subst (λ (v : Grant). is_grant g v ≡ true) q (is_itself g)) e))
    (decide (is_grant g o))

-- a permutation is what document 02 says of it, "the same with the same repeats": every grant stands in both lists as often
pub same_repeats : (gs os : List Grant) → Perm gs os ↔ ((g : Grant) → count grant_discrete g gs ≡ count grant_discrete g os)
same_repeats gs os = perm_iff_count grant_discrete

-- it has the same grants
pub perm_grants : {gs os : List Grant} → Perm gs os → (g : Grant) → Mem g gs → Mem g os
perm_grants {os = os} q g m =
    let known : any_of (is_grant g) os ≡ true =
    ∥∥₁_elim q (Bool-set (any_of (is_grant g) os) true) (λ d. any_of_mem (is_grant g) (perm_mem d m) (is_itself g)) in
    let w = any_of_some (is_grant g) os known in
    subst (λ (v : Grant). Mem v os) (sym (is_grant_lem g w.it w.passes)) w.mem

-- ---- two histories

-- the ids report is a pass or a fault
either : (o : Opening) (h : History) → Judged (Arises ids_at) (at_last ids_at) h (ids_of o h)
either o h = let w = arises_lawful ids_at in judged (Arises ids_at) (at_last ids_at) w.nothing w.last w.only h

module _ (o p : Opening) (h g : History) where
  alike_by : (ids_of o h ≡ passed) ↔ (ids_of p g ≡ passed) → Judged (Arises ids_at) (at_last ids_at) h (ids_of o h)
      → Judged (Arises ids_at) (at_last ids_at) g (ids_of p g) → Alike (ids_of o h) (ids_of p g)
  alike_by f (clean a free) (clean b free') = pass a b
  alike_by f (clean a free) (faulty m other d b w) = passed_or _ other d (sym (f.0 a) ∙ b)
  alike_by f (faulty n kind e a v) (clean b free) = passed_or _ kind e (sym (f.1 b) ∙ a)
  alike_by f (faulty n kind e a v) (faulty m other d b w) = fault _ _ kind other e d a b

  -- equal sets of grants are enough: repeats do not matter either
  module _ (to : (v : Grant) → Mem v (grants_of h) → Mem v (grants_of g)) (back : (v : Grant) → Mem v (grants_of g) → Mem v (grants_of h)) where
    pub ids_same_grants : Alike (ids_of o h) (ids_of p g)
    ids_same_grants =
        let pass_on : ids_of o h ≡ passed → ids_of p g ≡ passed = λ e. (ids_passes p g).1 (unique_within back ((ids_passes o h).0 e)) in
        let pass_back : ids_of p g ≡ passed → ids_of o h ≡ passed = λ e. (ids_passes o h).1 (unique_within to ((ids_passes p g).0 e)) in
        alike_by (pass_on, pass_back) (either o h) (either p g)

    pub holders_same_grants : ids_of o h ≡ passed → (id : ℕ) → holders_of id h ≡ holders_of id g
    holders_same_grants e id = ⊎_elim
        (λ c.
        let w = any_of_some (contains id) (grants_of h) c in
        let u = (ids_passes o h).0 e in
        holder_is h u id w.it w.mem w.passes ∙ sym (holder_is g (unique_within back u) id w.it (to w.it w.mem) w.passes))
        (λ c.
        let n = any_of_none (contains id) (grants_of h) c in
        holder_none h id n ∙ sym (holder_none g id (λ v m. n v (back v m))))
        (decide (any_of (contains id) (grants_of h)))

  -- GRANTS IN ANY ORDER: "the same with the same repeats, in whichever order, the ids check passes both or faults both"
  pub ids_any_order : Perm (grants_of h) (grants_of g) → Alike (ids_of o h) (ids_of p g)
  ids_any_order q = ids_same_grants (perm_grants q) (perm_grants (Perm.symm q))

  -- .. and where they pass an id has the same holder in both
  pub holders_any_order : Perm (grants_of h) (grants_of g) → ids_of o h ≡ passed → (id : ℕ) → holders_of id h ≡ holders_of id g
  holders_any_order q = holders_same_grants (perm_grants q) (perm_grants (Perm.symm q))

-- records that are the same, marks and all, have the same grants; and so have whole traces
pub leased_grants : (h g : History) → Perm (leased_of h) (leased_of g) → Perm (grants_of h) (grants_of g)
leased_grants h g q = Perm.map grant_by q

pub trace_leased : (h g : History) → Perm h g → Perm (leased_of h) (leased_of g)
trace_leased h g q = ∥∥₁_map {B = Permᴰ (leased_of h) (leased_of g)} q (perm_those (is_kind 11))

-- ---- position and kind may differ

-- three grants in two orders: a fault of kind 3 at event 2, and one of kind 2 at event 1
pub orders_differ : (o : Opening)
    → Perm (leased_of one_log) (leased_of other_log)
    × (ids_of o one_log ≡ faulted 2 3 (evidence (6 ∷ 10 ∷ [])))
    × (ids_of o other_log ≡ faulted 1 2 (evidence (7 ∷ [])))
unfolding any_of those latest_of greatest_of firsts first_grants grant_eqb blocks_of ids_at events report_of
orders_differ o = (reverse_perm other_log, refl, refl)
