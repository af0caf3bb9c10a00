-- The campaign: from a tally of zeros, after any list of entries, every number is the one counted from the entries not refused, and
-- what a further entry is refused for. Assumes nothing.
use mathlib.Core.Path.{◌≡◌, refl, sym, ap, ◌∙◌}
use mathlib.Core.Bool.{Bool, true, false, cond, ◌&&◌, ◌||◌}
use mathlib.Core.List.{List, [], ◌∷◌}
use Prim.Native.Nat.{ℕ, suc, ◌+◌, ◌*◌, ◌^◌, ◌≤◌, ◌<◌}
use native.Mathlib.Omega.{arith}
use lib.ListN.{length}
use lib.Dec.{eqb}
use borrow.Author.Tests.{ltb-true, ltb-false, eqb-true, eq-eqb}
use Rattle.record.proofs.Numbers.{Bytes}
use Rattle.rules.specs.Checks.{check_count, check_at}
use Rattle.record.proofs.Booleans.{never, and_right, both, or_left, or_right}
use Rattle.judge.specs.declared.state.Judge.{Judge}
use Rattle.tally.specs.declared.Entered.{Entered}
use Rattle.tally.specs.declared.Refusal.{Refusal}
use Rattle.tally.specs.declared.Refusal.TheVariants.{Unfit, Unused, Full}
use Rattle.tally.specs.Stored.{holds, stored, number_in, all_to}
use Rattle.tally.specs.Counts.{place_count, tally_places, traces_at, is_used, count_at}
use Rattle.tally.specs.Entries.{width, tally_size, refusal_number, is_entry, unused_clear, raised, has_room, in_order, entry_refusal, left_by, EntersBy}
use Rattle.tally.specs.Campaigns.{zero_tally, Entry, Campaign, none, more, entered, next_refusal, sum_to, Tallied}
use Rattle.std.specs.Prelude.{Result, Ok, Err}
use Rattle.tally.proofs.Tests.{all_at, all_of, all_same}
use Rattle.tally.proofs.Widths.{stored_length, stored_same, number_stored, number_fits, stored_zeros}
use Rattle.tally.proofs.Counts.{count_none, count_more, count_unused, kinds_few, count_traces, count_totals, sum_same, AllEntries, traces_sum}

-- ---- refusals

-- "Refusal 9 is given where a count would pass 4,294,967,295": that is a count that the entry raises, and a place that it does not
-- touch is never the reason
pub raised_only : (bytes : List ℕ) (j : Judge) (i : ℕ) → Bytes bytes → holds width (raised bytes j i) ≡ false → 0 < count_at (j ∷ []) i
raised_only bytes j i b e =
    let fits : number_in width bytes i < 256 ^ width = number_fits width bytes i b in
    let above : 256 ^ width ≤ raised bytes j i = ltb-false (raised bytes j i) (256 ^ width) e in
    omega arith

-- each number is a refusal's
numbered : (a b c : Bool) → (x : Result (Unit {0}) Refusal) × (refusal_number x ≡ in_order a b c)
numbered true true true = (Ok tt, refl)
numbered true true false = (Err Full, refl)
numbered true false c = (Err Unused, refl)
numbered false b c = (Err Unfit, refl)

pub refusal_of : (bytes : List ℕ) (j : Judge) → (x : Result (Unit {0}) Refusal) × (refusal_number x ≡ entry_refusal bytes j)
unfolding entry_refusal
refusal_of bytes j = numbered (eqb (length bytes) tally_size && is_entry j) (unused_clear bytes) (has_room bytes j)

-- an entry not refused passed every test
no_refusal : (a b c : Bool) → in_order a b c ≡ 0 → (a ≡ true) × (c ≡ true)
no_refusal true true true e = (refl, refl)
no_refusal true true false e = absurd (omega arith)
no_refusal true false c e = absurd (omega arith)
no_refusal false b c e = absurd (omega arith)

-- refusal 5 says that the first did not hold
not_fit : (a b c : Bool) → in_order a b c ≡ 5 → a ≡ false
not_fit true true true e = absurd (omega arith)
not_fit true true false e = absurd (omega arith)
not_fit true false c e = absurd (omega arith)
not_fit false b c e = refl

pub entry_fits : (bytes : List ℕ) (j : Judge) → length bytes ≡ tally_size → is_entry j ≡ true → entry_refusal bytes j ≡ 5 → ⊥
unfolding entry_refusal
entry_fits bytes j l e five =
    let fit : (eqb (length bytes) tally_size && is_entry j) ≡ true = both (eq-eqb (length bytes) tally_size l) e in
    never fit (not_fit (eqb (length bytes) tally_size && is_entry j) (unused_clear bytes) (has_room bytes j) five)

module _ (bytes : List ℕ) (j : Judge) (e : entry_refusal bytes j ≡ 0) where
  tested : ((eqb (length bytes) tally_size && is_entry j) ≡ true) × (has_room bytes j ≡ true)
  unfolding entry_refusal
  tested = no_refusal (eqb (length bytes) tally_size && is_entry j) (unused_clear bytes) (has_room bytes j) e

  is_entry_lem : is_entry j ≡ true
  is_entry_lem = and_right (eqb (length bytes) tally_size) (is_entry j) tested.0

  raised_fits : (i : ℕ) → i < tally_places → raised bytes j i < 256 ^ width
  unfolding has_room
  raised_fits i l = ltb-true (raised bytes j i) (256 ^ width) (all_at tally_places (λ i. holds width (raised bytes j i)) tested.1 i l)

-- ---- a tally of numbers that fit

abbrev Fitting : (ℕ → ℕ) → Type 0
Fitting f = (i : ℕ) → i < tally_places → f i < 256 ^ width

abbrev tally_of : (ℕ → ℕ) → List ℕ
tally_of f = stored width f tally_places

number_at : (f : ℕ → ℕ) → Fitting f → (i : ℕ) → i < tally_places → number_in width (tally_of f) i ≡ f i
number_at f fit i l = number_stored width f i tally_places l (fit i l)

-- what judges add to it
abbrev plus : (ℕ → ℕ) → List Judge → ℕ → ℕ
plus f js i = f i + count_at js i

-- the tally after such judges were entered into it
record Grown (f : ℕ → ℕ) (js : List Judge) (bytes : List ℕ) : Type 0 where
  bytes_are : bytes ≡ tally_of (plus f js)
  fit : Fitting (plus f js)
  entries : AllEntries js

grown_none : (f : ℕ → ℕ) (bytes : List ℕ) → bytes ≡ tally_of f → Fitting f → Grown f [] bytes
grown_none f bytes q fit =
    let same : (i : ℕ) → f i ≡ plus f [] i = λ i. omega (arith, count_none i) in
    record {
      bytes_are = q ∙ stored_same width f (plus f []) tally_places (λ i l. same i);
      fit = λ i l. omega (arith, count_none i, fit i l);
      entries = tt;
    }

-- one judge, and then others
grown_more : (f : ℕ → ℕ) (j : Judge) (js : List Judge) (bytes : List ℕ) → is_entry j ≡ true → Grown (plus f (j ∷ [])) js bytes
    → Grown f (j ∷ js) bytes
grown_more f j js bytes e g =
    let same : (i : ℕ) → plus (plus f (j ∷ [])) js i ≡ plus f (j ∷ js) i = λ i. omega (arith, count_more j js i) in
    record {
      bytes_are = g.bytes_are ∙ stored_same width (plus (plus f (j ∷ [])) js) (plus f (j ∷ js)) tally_places (λ i l. same i);
      fit = λ i l. omega (arith, same i, g.fit i l);
      entries = (e, g.entries);
    }

-- what an entry leaves of such a tally
module _ (f : ℕ → ℕ) (fit : Fitting f) (bytes : List ℕ) (q : bytes ≡ tally_of f) (j : Judge) (r : Entered) (mid : List ℕ)
    (p : EntersBy bytes j r mid) where
  numbers_at : (i : ℕ) → i < tally_places → raised bytes j i ≡ plus f (j ∷ []) i
  numbers_at i l =
      let n : number_in width bytes i ≡ f i = ap (λ (s : List ℕ). number_in width s i) q ∙ number_at f fit i l in
      ap (λ (m : ℕ). m + count_at (j ∷ []) i) n

  module _ (e : eqb (refusal_number r.refusal) 0 ≡ true) where
    not_refused : entry_refusal bytes j ≡ 0
    not_refused = sym p.refusal ∙ eqb-true (refusal_number r.refusal) 0 e

    raised_to : mid ≡ tally_of (plus f (j ∷ []))
    unfolding left_by
    raised_to =
        let taken : eqb (entry_refusal bytes j) 0 ≡ true = eq-eqb (entry_refusal bytes j) 0 not_refused in
        p.tally
        ∙ ap (λ (b : Bool). cond b (tally_of (raised bytes j)) bytes) taken
        ∙ stored_same width (raised bytes j) (plus f (j ∷ [])) tally_places numbers_at

    raised_fit : Fitting (plus f (j ∷ []))
    raised_fit i l = omega (arith, numbers_at i l, raised_fits bytes j not_refused i l)

  kept : eqb (refusal_number r.refusal) 0 ≡ false → mid ≡ tally_of f
  unfolding left_by
  kept e =
      let refused : eqb (entry_refusal bytes j) 0 ≡ false = ap (λ (m : ℕ). eqb m 0) (sym p.refusal) ∙ e in
      p.tally ∙ ap (λ (b : Bool). cond b (tally_of (raised bytes j)) bytes) refused ∙ q

  -- one entry, and then others
  grown_by : (js : List Judge) (bytes' : List ℕ) → ((g : ℕ → ℕ) → Fitting g → mid ≡ tally_of g → Grown g js bytes')
      → (b : Bool) → eqb (refusal_number r.refusal) 0 ≡ b → Grown f (cond b (j ∷ js) js) bytes'
  grown_by js bytes' others true e =
      grown_more f j js bytes' (is_entry_lem bytes j (not_refused e)) (others (plus f (j ∷ [])) (raised_fit e) (raised_to e))
  grown_by js bytes' others false e = others f fit (kept e)

-- any list of entries
grown : (f : ℕ → ℕ) → Fitting f → {bytes bytes' : List ℕ} {es : List Entry} → bytes ≡ tally_of f → Campaign bytes es bytes'
    → Grown f (entered es) bytes'
unfolding entered
grown f fit {bytes} q none = grown_none f bytes q fit
grown f fit {bytes} {bytes'} q (more {mid = mid} {e = e} {es = es} p c) =
    let b = eqb (refusal_number e.answer.refusal) 0 in
    grown_by f fit bytes q e.judge e.answer mid p (entered es) bytes' (λ g fits s. grown g fits s c) b refl

-- ---- the tally after it

module _ (js : List Judge) (bytes : List ℕ) (all : AllEntries js) (q : bytes ≡ tally_of (count_at js)) (fit : Fitting (count_at js)) where
  counted : (i : ℕ) → i < tally_places → number_in width bytes i ≡ count_at js i
  counted i l = ap (λ (s : List ℕ). number_in width s i) q ∙ number_at (count_at js) fit i l

  -- "each check's passes and faults add up to the traces"
  added_up : (k : ℕ) → k < check_count
      → sum_to (suc (check_at k).kinds) (λ p. number_in width bytes (place_count * k + p)) ≡ number_in width bytes (place_count * check_count)
  added_up k l =
      let few = kinds_few k l in
      let n = suc (check_at k).kinds in
      let number : ℕ → ℕ = λ p. number_in width bytes (place_count * k + p) in
      let at : (p : ℕ) → p < n → number p ≡ traces_at k p js =
      λ p h. counted (place_count * k + p) (omega arith) ∙ count_traces js k p l (omega arith) in
      let total : number_in width bytes (place_count * check_count) ≡ length js = counted (place_count * check_count) (omega arith) ∙ count_totals js in
      sum_same n number (λ p. traces_at k p js) at ∙ traces_sum k l js all ∙ sym total

  -- a further entry meets the length of a tally ..
  long : eqb (length bytes) tally_size ≡ true
  long = eq-eqb (length bytes) tally_size (ap (λ (s : List ℕ). length s) q ∙ stored_length width (count_at js) tally_places)

  -- .. with the unused places zero ..
  clear_at : (i : ℕ) → i < tally_places → (b : Bool) → is_used i ≡ b → (is_used i || eqb (number_in width bytes i) 0) ≡ true
  clear_at i l true e = or_left (is_used i) (eqb (number_in width bytes i) 0) e
  clear_at i l false e =
      let z : number_in width bytes i ≡ 0 = counted i l ∙ count_unused js i e in
      or_right (is_used i) (eqb (number_in width bytes i) 0) (eq-eqb (number_in width bytes i) 0 z)

  clear : unused_clear bytes ≡ true
  unfolding unused_clear
  clear = all_of tally_places (λ i. is_used i || eqb (number_in width bytes i) 0) (λ i l. clear_at i l (is_used i) refl)

  -- .. and room where the counts of all leave it
  room : (j : Judge) → has_room bytes j ≡ all_to tally_places (λ i. holds width (count_at (j ∷ js) i))
  unfolding has_room
  room j =
      let same : (i : ℕ) → i < tally_places → raised bytes j i ≡ count_at (j ∷ js) i = λ i l. omega (arith, counted i l, count_more j js i) in
      all_same tally_places (λ i. holds width (raised bytes j i)) (λ i. holds width (count_at (j ∷ js) i))
      (λ i l. ap (λ (n : ℕ). holds width n) (same i l))

  refused_next : (j : Judge) → entry_refusal bytes j ≡ next_refusal js j
  unfolding entry_refusal
  refused_next j =
      let r = room j in
      λ i. in_order (long i && is_entry j) (clear i) (r i)

  tallied : Tallied js bytes
  tallied = record { bytes_are = q; numbers = counted; adds_up = added_up; next = λ j r bytes' p. p.refusal ∙ refused_next j }

-- THE CAMPAIGN: "From a tally of zeros, after any list of entries, every number in it is the one counted from the entries not refused,
-- and each check's passes and faults add up to the traces"
pub campaign : (es : List Entry) (bytes : List ℕ) → Campaign zero_tally es bytes → Tallied (entered es) bytes
campaign es bytes c =
    let js = entered es in
    let nothing : ℕ → ℕ = λ i. 0 in
    let g = grown nothing (λ i l. omega arith) (sym (stored_zeros width tally_places)) c in
    let same : (i : ℕ) → plus nothing js i ≡ count_at js i = λ i. omega arith in
    let bytes_are : bytes ≡ tally_of (count_at js) = g.bytes_are ∙ stored_same width (plus nothing js) (count_at js) tally_places (λ i l. same i) in
    tallied js bytes g.entries bytes_are (λ i l. omega (arith, same i, g.fit i l))
