-- Laws of the ids case: which way it goes, by what was read and found.
use mathlib.Core.Path.{◌≡◌, sym, ap, ◌∙◌}
use mathlib.Core.Bool.{Bool, true, false, not}
use mathlib.Core.List.{List, [], ◌∷◌}
use Rattle.std.specs.Prelude.{Option, None, Some}
use Prim.Native.Nat.{ℕ, suc, ◌-◌, ◌≤◌, ◌<◌}
use native.Mathlib.Omega.{arith}
use lib.Dec.{eqb, leb}
use borrow.Author.Tests.{eq-eqb, ne_eqb, le-leb, lt-leb}
use Rattle.record.specs.Records.{TraceRecord, decode}
use Rattle.rules.specs.Cases.{Case, fault, fault_if}
use Rattle.rules.specs.History.{History, given, latest_of, any_of}
use Rattle.rules.specs.IdsUnique.{Grant, grant_by, grant_eqb, same_index, first_grants, shares, blocks_of, shared_fault, first_fault, grant_fault, ids_at}
use Rattle.history.specs.Logs.{bytes_at, record_at, hist}
use Rattle.history.proofs.Logs.{record_bytes}
use Rattle.firsts.specs.Columns.{first_grant_at}
use Rattle.ids_unique.specs.Columns.{greatest_of_lasts}
use Rattle.ids_unique.specs.Sharing.{shared_top}
use Rattle.firsts.proofs.Grants.{grant_numbered, latest_grant}
use Rattle.ids_unique.proofs.Sharing.{shared_case, above_all}

-- a first grant: empty; above every block; or as the walk says
module _ (g : Grant) (bs : List Grant) where
  pub empty_case : {first last b : ℕ} {r : Case} → first ≡ g.first → last ≡ g.last → last < first → b ≡ g.index
      → r ≡ fault 2 (b ∷ []) → r ≡ first_fault g bs
  empty_case p q l i e =
      let n : leb g.first g.last ≡ false = lt-leb g.first g.last (omega arith) in
      e ∙ ap (λ (k : ℕ). fault 2 (k ∷ [])) i ∙ rw n

  full_case : {first last : ℕ} → first ≡ g.first → last ≡ g.last → first ≤ last → first_fault g bs ≡ fault_if (any_of (shares g) bs) (shared_fault g bs)
  full_case p q l =
      let n : leb g.first g.last ≡ true = le-leb g.first g.last (omega arith) in
      rw n

  pub apart_case : {first last top : ℕ} → first ≡ g.first → last ≡ g.last → first ≤ last → top ≡ greatest_of_lasts bs → top < first
      → None ≡ first_fault g bs
  apart_case p q l t a = sym (full_case p q l ∙ rw (above_all g bs (omega arith)))

  pub walk_case : {first last : ℕ} {top : Option ℕ} {r : Case} → first ≡ g.first → last ≡ g.last → first ≤ last → top ≡ shared_top first last bs
      → r ≡ given (λ n. fault 3 (g.index ∷ n ∷ [])) top → r ≡ first_fault g bs
  walk_case p q l t e = e ∙ rw (t, p, q) (sym (full_case p q l ∙ shared_case g bs))

-- a grant again
module _ (g o : Grant) {t : Bool} (e : t ≡ grant_eqb g o) where
  pub again_same : t ≡ true → None ≡ fault_if (not (grant_eqb g o)) (fault 1 (g.index ∷ []))
  again_same q = let n : grant_eqb g o ≡ true = sym e ∙ q in rw n

  pub again_other : {b : ℕ} {r : Case} → t ≡ false → b ≡ g.index → r ≡ fault 1 (b ∷ []) → r ≡ fault_if (not (grant_eqb g o)) (fault 1 (g.index ∷ []))
  again_other q i d =
      let n : grant_eqb g o ≡ false = sym e ∙ q in
      d ∙ ap (λ (k : ℕ). fault 1 (k ∷ [])) i ∙ rw n

-- the case of a record: no grant; a first one; one again
module _ (x : TraceRecord) where
  pub no_grant_case : {k : ℕ} (h : History) → k ≡ x.kind → (k ≡ 11 → ⊥) → None ≡ ids_at x h
  unfolding ids_at
  no_grant_case h e n =
      let q : eqb x.kind 11 ≡ false = ne_eqb x.kind 11 (λ z. n (e ∙ z)) in
      rw q

  grant_case : {k : ℕ} (h : History) (o : Option Grant) → k ≡ x.kind → k ≡ 11 → latest_of (same_index (grant_by x)) (first_grants h) ≡ o
      → ids_at x h ≡ grant_fault (grant_by x) o (blocks_of h)
  unfolding ids_at
  grant_case h o e n q =
      let p : eqb x.kind 11 ≡ true = eq-eqb x.kind 11 (sym e ∙ n) in
      rw (p, q)

  module _ (log : List ℕ) (count : ℕ) {b n : ℕ} (i : b ≡ x.b) (f : n ≡ first_grant_at b (hist log count)) where
    found : latest_of (same_index (grant_by x)) (first_grants (hist log count)) ≡ grant_numbered log n
    found =
        let w : n ≡ first_grant_at x.b (hist log count) = rw (← i) f in
        latest_grant (grant_by x) log count ∙ ap (grant_numbered log) (sym w)

    pub first_grant_case : {k : ℕ} {r : Case} → k ≡ x.kind → k ≡ 11 → n ≡ 0 → r ≡ first_fault (grant_by x) (blocks_of (hist log count))
        → r ≡ ids_at x (hist log count)
    first_grant_case e q z y = y ∙ sym (grant_case (hist log count) None e q (found ∙ ap (grant_numbered log) z))

    pub again_case : {k : ℕ} {r : Case} {old : List ℕ} → k ≡ x.kind → k ≡ 11 → (n ≡ 0 → ⊥) → old ≡ bytes_at (n - 1) log
        → r ≡ fault_if (not (grant_eqb (grant_by x) (grant_by (decode old)))) (fault 1 (x.b ∷ [])) → r ≡ ids_at x (hist log count)
    again_case {r = r} {old = old} e q z o y =
        let m : n ≡ suc (n - 1) = omega arith in
        let u : grant_by (record_at log (n - 1)) ≡ grant_by (decode old) = ap grant_by (sym (record_bytes log (n - 1) o)) in
        y ∙ sym (grant_case (hist log count) (Some (grant_by (decode old))) e q (found ∙ ap (grant_numbered log) m ∙ ap Some u))
