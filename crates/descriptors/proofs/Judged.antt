-- The cases of statements and puts, from the records that the walks found. Assumes nothing.
use mathlib.Core.Path.{◌≡◌, refl, sym, ap, ◌∙◌}
use mathlib.Core.Bool.{Bool, true, false, not, ◌&&◌}
use mathlib.Core.List.{[], ◌∷◌, List}
use Rattle.std.specs.Prelude.{Option, None, Some}
use Prim.Native.Nat.{ℕ, ◌≤◌, ◌<◌}
use lib.Dec.{eqb, ltb}
use borrow.Author.Tests.{lt-ltb, le-ltb}
use Rattle.record.specs.Records.{TraceRecord, decode}
use Rattle.record.proofs.Booleans.{never, and_left, and_right, both}
use Rattle.rules.specs.Cases.{Case, fault, fault_if, case_of}
use Rattle.rules.specs.History.{History, is_some, any_of, latest_of}
use Rattle.rules.specs.Descriptors.{Entry, puts, role_of, same_place, agreement, held_by, held_eqb, entry_at, standing, at_in, at, ahead_fault, differs_fault, statement_fault, first_at_generation_in, first_at_generation}
use Rattle.rules.proofs.Members.{NonePasses, any_of_none, any_of_less}
use Rattle.rules.proofs.Placed.{any_earliest, any_latest}
use Rattle.rules.proofs.Best.{greatest_none, lowest_none}
use Rattle.rules.proofs.Agreement.{agreement_taken}
use Rattle.history.specs.declared.walk.Taken.{Taken}
use Rattle.descriptors.specs.Columns.{put_entry, put}
use Rattle.descriptors.specs.Answers.{at_place, up_to, greatest_up_to, above, lowest_above, of_generation, ahead_case, differs_case}

-- there is a value where a record was found
pub put_is_some : (o : Option Taken) {v : Option Entry} → put o ≡ v → is_some o ≡ is_some v
put_is_some None e = ap is_some e
put_is_some (Some y) e = ap is_some e

pub none_found : (o : Option Taken) {v : Option Entry} → put o ≡ v → is_some o ≡ false → None ≡ v
none_found None e n = e
none_found (Some y) e n = never refl n

-- a statement against a value
module _ (v s : TraceRecord) (index : ℕ) (vs : List Entry) (d : held_eqb (held_by v) (held_by s) ≡ false) where
  pub differs_ahead : {ra rd : ℕ} {r : Case} → v.d < s.d → ra ≡ s.a → rd ≡ s.d → r ≡ ahead_case ra index rd vs
      → r ≡ differs_case s.a index (held_by v) (held_by s) vs
  unfolding held_by
  differs_ahead l ea ed q = q ∙ rw (d, lt-ltb v.d s.d l, ea, ed)

  pub differs_behind : {ra : ℕ} {r : Case} → s.d ≤ v.d → ra ≡ s.a → r ≡ fault 3 (ra ∷ index ∷ []) → r ≡ differs_case s.a index (held_by v) (held_by s) vs
  unfolding held_by
  differs_behind l ea q = q ∙ rw (d, le-ltb v.d s.d l, ea)

-- the case of the rules is the one that is told by parts
pub differs_is : (s : Entry) (vs : List Entry) (v : Entry) → differs_fault s vs v ≡ differs_case s.range s.index v.held s.held vs
unfolding differs_fault ahead_fault
differs_is s vs v = refl

-- a statement is judged by the value in force at its index
module _ (x : TraceRecord) (h : History) (index : ℕ) {range : ℕ} (a : range ≡ x.a) where
  pub in_force : {o : Option Entry} → o ≡ at range index h → o ≡ at_in x.a index (standing h)
  unfolding at
  in_force e = e ∙ ap (λ (r : ℕ). at_in r index (standing h)) a

  pub state_none : None ≡ at range index h → None ≡ statement_fault (standing h) (entry_at index x h)
  unfolding statement_fault
  state_none e = ap (case_of (differs_fault (entry_at index x h) (standing h))) (in_force e)

  pub state_some : (y : Taken) {r : Case} → Some (put_entry y) ≡ at range index h
      → r ≡ differs_case x.a index (held_by (decode y.record.now)) (held_by x) (standing h) → r ≡ statement_fault (standing h) (entry_at index x h)
  unfolding statement_fault
  state_some y e q =
      q ∙ sym (differs_is (entry_at index x h) (standing h) (put_entry y)) ∙ ap (case_of (differs_fault (entry_at index x h) (standing h))) (in_force e)

-- where the range has no value of a generation, none is above, nor is there a greatest
module _ (range generation : ℕ) (h : History) (f : None ≡ first_at_generation range generation h) where
  none_of : (p : Entry → Bool) → ((v : Entry) → p v ≡ true → of_generation range generation v ≡ true) → NonePasses p (standing h)
  unfolding first_at_generation first_at_generation_in
  none_of p i =
      any_of_none p (standing h)
      (any_of_less (of_generation range generation) p i (standing h)
      (any_earliest (of_generation range generation) (standing h) ∙ ap is_some (sym f)))

  pub none_above : (index : ℕ) → lowest_above range index (Some generation) (standing h) ≡ None
  none_above index =
      lowest_none (λ v. v.index) (above range index (Some generation)) (standing h)
      (none_of (above range index (Some generation))
      (λ v t.
      let a = and_left (eqb v.range range && ltb index v.index) (eqb v.held.generation generation) t in
      both (and_left (eqb v.range range) (ltb index v.index) a) (and_right (eqb v.range range && ltb index v.index) (eqb v.held.generation generation) t)))

  pub none_greatest : greatest_up_to range None (Some generation) (standing h) ≡ None
  none_greatest =
      greatest_none (λ v. v.index) (up_to range None (Some generation)) (standing h)
      (none_of (up_to range None (Some generation))
      (λ v t.
      let a = and_left (eqb v.range range && true) (eqb v.held.generation generation) t in
      both (and_left (eqb v.range range) true a) (and_right (eqb v.range range && true) (eqb v.held.generation generation) t)))

-- ---- a put against the value that stands at its place

pub place_is : (x : TraceRecord) (h : History) (index : ℕ) {ra : ℕ} {o : Option Entry} → ra ≡ x.a → o ≡ latest_of (at_place ra index) (standing h)
    → o ≡ latest_of (same_place (entry_at index x h)) (standing h)
place_is x h index a e = e ∙ rw a

module _ (x : TraceRecord) (h : History) (index : ℕ) where
  pub place_free : None ≡ latest_of (same_place (entry_at index x h)) (standing h) → any_of (same_place (entry_at index x h)) (standing h) ≡ false
  place_free e = any_latest (same_place (entry_at index x h)) (standing h) ∙ ap is_some (sym e)

  module _ (y : Taken) (e : Some (put_entry y) ≡ latest_of (same_place (entry_at index x h)) (standing h)) (role : role_of x h ≡ puts index)
      (k : agreement h ≡ None) where
    against : agreement (x ∷ h) ≡ fault_if (not (held_eqb (held_by (decode y.record.now)) (held_by x))) (fault 1 (x.a ∷ index ∷ []))
    against = agreement_taken x h k index role (put_entry y) (sym e)

    pub put_same : held_eqb (held_by (decode y.record.now)) (held_by x) ≡ true → None ≡ agreement (x ∷ h)
    put_same t = sym (against ∙ rw t)

    pub put_differs : {ra : ℕ} {r : Case} → held_eqb (held_by (decode y.record.now)) (held_by x) ≡ false → ra ≡ x.a → r ≡ fault 1 (ra ∷ index ∷ [])
        → r ≡ agreement (x ∷ h)
    put_differs t a q = q ∙ sym (against ∙ rw (t, a))
