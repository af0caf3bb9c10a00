-- Agreement with one more record: where it was clear before, only the new record and the statements that a new value touches
-- are judged. Assumes nothing.
use mathlib.Core.Path.{◌≡◌, refl, ap, ◌∙◌}
use mathlib.Core.Bool.{Bool, true, false, cond, not, ◌&&◌, ◌||◌}
use mathlib.Core.List.{List, [], ◌∷◌}
use Rattle.std.specs.Prelude.{None, Some}
use Prim.Native.Nat.{ℕ}
use lib.Dec.{eqb, ltb, leb}
use Rattle.record.specs.Records.{TraceRecord}
use Rattle.record.proofs.Booleans.{never}
use Rattle.rules.specs.Cases.{Case, is_fault, fault, fault_if, or_case, case_of, earliest_case}
use Rattle.rules.specs.History.{History, is_some, any_of, those, latest_of, greater, greatest_of, add_some, add_first}
use Rattle.rules.specs.Descriptors.{held_by, Entry, Role, puts, states, neither, role_of, entry_at, put_by, stated_by, same_place, standing, stated, at_in, held_eqb, put_fault, puts_differ, ahead_fault, differs_fault, statement_fault, agreement}
use Rattle.rules.proofs.Members.{any_of_none}
use Rattle.rules.proofs.Skips.{greatest_of_skip, lowest_of_skip}
use Rattle.rules.proofs.Placed.{latest_none, any_latest}
use Rattle.rules.proofs.CaseLists.{clear_left, clear_right, or_clear, those_enough}
use Rattle.rules.proofs.Standing.{standing_cons, stated_cons}

-- a new standing value p can change what a statement s is judged by: it may be the value at s's index, or a later one of
-- s's generation
abbrev pub touches : Entry → Entry → Bool
touches p s = eqb p.range s.range && (leb p.index s.index || eqb p.held.generation s.held.generation)

-- the case of a put p: against the value that stands at its place; where none does, the statements that it touches
abbrev pub agreement_put : Bool → Entry → History → Case
agreement_put true p h = put_fault (Some p) (standing h)
agreement_put false p h = earliest_case (statement_fault (p ∷ standing h)) (those (touches p) (stated h))

abbrev pub agreement_role : Role → TraceRecord → History → Case
agreement_role neither x h = None
agreement_role (states i) x h = statement_fault (standing h) (entry_at i x h)
agreement_role (puts i) x h = agreement_put (any_of (same_place (entry_at i x h)) (standing h)) (entry_at i x h) h

-- the case that arises at x, where agreement was clear of those before
unfoldable pub agreement_at : TraceRecord → History → Case
agreement_at x h = agreement_role (role_of x h) x h

-- ---- one value more

-- a place at which no value stands has nothing to differ from
none_differs : (p : Entry) (vs : List Entry) → any_of (same_place p) vs ≡ false → put_fault (Some p) vs ≡ None
unfolding put_fault
none_differs p vs h = rw (latest_none (same_place p) vs (any_of_none (same_place p) vs h))

-- a value that passes no test leaves what the test finds
pub at_pass : (p : Entry) (vs : List Entry) (s : Entry) → eqb p.range s.range && leb p.index s.index ≡ false
    → at_in s.range s.index (p ∷ vs) ≡ at_in s.range s.index vs
unfolding at_in
at_pass p vs s h = greatest_of_skip (λ v. v.index) (λ v. eqb v.range s.range && leb v.index s.index) p vs h

pub ahead_pass : (p : Entry) (vs : List Entry) (s : Entry)
    → eqb p.range s.range && ltb s.index p.index && eqb p.held.generation s.held.generation ≡ false
    → ahead_fault s (p ∷ vs) ≡ ahead_fault s vs
unfolding ahead_fault
ahead_pass p vs s h =
    rw (lowest_of_skip (λ v. v.index) (λ v. eqb v.range s.range && ltb s.index v.index && eqb v.held.generation s.held.generation) p vs h)

-- a statement's case, by the value that it is judged by and what is ahead of it
unfoldable pub fault_by : Entry → Case → Entry → Case
fault_by s ahead v =
    fault_if (not (held_eqb v.held s.held))
    (cond (ltb v.held.generation s.held.generation) ahead (fault 3 (s.range ∷ s.index ∷ [])))

pub statement_by : (vs : List Entry) (s : Entry) → statement_fault vs s ≡ case_of (fault_by s (ahead_fault s vs)) (at_in s.range s.index vs)
unfolding statement_fault differs_fault fault_by
statement_by vs s = refl

-- a value that does not touch a statement leaves its case as it was
untouched_at : (a b d : Bool) → a && (b || d) ≡ false → a && b ≡ false
untouched_at true true d h = h
untouched_at true false d h = refl
untouched_at false b d h = refl

untouched_ahead : (a b c d : Bool) → a && (b || d) ≡ false → a && c && d ≡ false
untouched_ahead true true c d h = never refl h
untouched_ahead true false true d h = h
untouched_ahead true false false d h = refl
untouched_ahead false b c d h = refl

pub untouched : (p : Entry) (vs : List Entry) (s : Entry) → touches p s ≡ false → statement_fault (p ∷ vs) s ≡ statement_fault vs s
untouched p vs s u =
    rw (
      statement_by (p ∷ vs) s,
      statement_by vs s,
      at_pass p vs s (untouched_at (eqb p.range s.range) (leb p.index s.index) (eqb p.held.generation s.held.generation) u),
      ahead_pass p vs s
          (untouched_ahead (eqb p.range s.range) (leb p.index s.index) (ltb s.index p.index)
          (eqb p.held.generation s.held.generation) u),
    )

-- ---- the value that a statement is judged by

-- a fault of a statement against the value v, as Bools
pub fault_by_lem : (s v : Entry) (c : Case) → is_fault (fault_by s c v)
    ≡ not (held_eqb v.held s.held) && (not (ltb v.held.generation s.held.generation) || is_fault c)
unfolding fault_by
fault_by_lem s v c = go (held_eqb v.held s.held) (ltb v.held.generation s.held.generation)
  where
    go : (a b : Bool) → is_fault (fault_if (not a) (cond b c (fault 3 (s.range ∷ s.index ∷ [])))) ≡ not a && (not b || is_fault c)
    go true b = refl
    go false true = refl
    go false false = refl

-- the value that a statement is judged by where its index is not below p's and p is the greatest so far
pub at_new : (p : Entry) (vs : List Entry) (s : Entry) → eqb p.range s.range && leb p.index s.index ≡ true
    → at_in s.range s.index (p ∷ vs) ≡ greater (λ v. v.index) p (at_in s.range s.index vs)
unfolding at_in greatest_of
at_new p vs s h = rw h

-- ---- one more record

puts_cons : (x : TraceRecord) (h : History) → puts_differ (x ∷ h) ≡ or_case (puts_differ h) (put_fault (put_by (role_of x h) x h) (standing h))
unfolding puts_differ
puts_cons x h = refl

-- agreement of one more record whose role is given
abbrev agreed : Role → TraceRecord → History → Case
agreed role x h =
    or_case (or_case (puts_differ h) (put_fault (put_by role x h) (standing h)))
    (earliest_case (statement_fault (add_first same_place (put_by role x h) (standing h))) (add_some (stated_by role x h) (stated h)))

agreement_cons : (x : TraceRecord) (h : History) → agreement (x ∷ h) ≡ agreed (role_of x h) x h
unfolding agreement
agreement_cons x h = rw (puts_cons x h, standing_cons x h, stated_cons x h)

put_none : (vs : List Entry) → put_fault None vs ≡ None
unfolding put_fault
put_none vs = refl

case_cons : (f : Entry → Case) (s : Entry) (ss : List Entry) → earliest_case f (s ∷ ss) ≡ or_case (earliest_case f ss) (f s)
unfolding earliest_case
case_cons f s ss = refl

module _ (h : History) (k : agreement h ≡ None) where
  puts_clear : puts_differ h ≡ None
  unfolding agreement
  puts_clear = clear_left (puts_differ h) (earliest_case (statement_fault (standing h)) (stated h)) k

  pub stated_clear : earliest_case (statement_fault (standing h)) (stated h) ≡ None
  unfolding agreement
  stated_clear = clear_right (puts_differ h) (earliest_case (statement_fault (standing h)) (stated h)) k

module _ (x : TraceRecord) (h : History) (k : agreement h ≡ None) where
  -- a put, by whether a value stands at its place
  agreed_put : (p : Entry) (b : Bool) → any_of (same_place p) (standing h) ≡ b
      → or_case (or_case (puts_differ h) (put_fault (Some p) (standing h)))
      (earliest_case (statement_fault (cond b (standing h) (p ∷ standing h))) (stated h))
      ≡ agreement_put b p h
  agreed_put p true e = rw (puts_clear h k, stated_clear h k) (or_clear _)
  agreed_put p false e =
      rw (puts_clear h k, none_differs p (standing h) e)
      (those_enough (statement_fault (standing h)) (statement_fault (p ∷ standing h)) (touches p) (untouched p (standing h)) (stated h) (stated_clear h k))

  agreed_role : (role : Role) → agreed role x h ≡ agreement_role role x h
  agreed_role neither = rw (puts_clear h k, put_none, stated_clear h k)
  agreed_role (states i) = rw (puts_clear h k, put_none, case_cons, stated_clear h k)
  agreed_role (puts i) = agreed_put (entry_at i x h) (any_of (same_place (entry_at i x h)) (standing h)) refl

  -- THE LAW: judging what the record touches is judging the whole beginning
  pub agreement_more : agreement (x ∷ h) ≡ agreement_at x h
  unfolding agreement_at
  agreement_more = agreement_cons x h ∙ agreed_role (role_of x h)

-- ---- the same by the role of the record

-- a put at a place where none stands
pub agreement_new : (x : TraceRecord) (h : History) → agreement h ≡ None → (i : ℕ) → role_of x h ≡ puts i
    → any_of (same_place (entry_at i x h)) (standing h) ≡ false
    → agreement (x ∷ h) ≡ earliest_case (statement_fault (entry_at i x h ∷ standing h)) (stated h)
agreement_new x h k i role free =
    agreement_cons x h ∙ rw (role, puts_clear h k, none_differs (entry_at i x h) (standing h) free, free)

-- a put at a place where a value stands
module _ (x : TraceRecord) (h : History) (k : agreement h ≡ None) (i : ℕ) (role : role_of x h ≡ puts i) where
  pub agreement_taken : (v : Entry) → latest_of (same_place (entry_at i x h)) (standing h) ≡ Some v
      → agreement (x ∷ h) ≡ fault_if (not (held_eqb v.held (held_by x))) (fault 1 (x.a ∷ i ∷ []))
  unfolding agreement_at put_fault
  agreement_taken v e =
      let t : any_of (same_place (entry_at i x h)) (standing h) ≡ true = any_latest (same_place (entry_at i x h)) (standing h) ∙ ap is_some e in
      agreement_more x h k ∙ rw (role, t, e)

-- a statement, and any other record
module _ (x : TraceRecord) (h : History) (k : agreement h ≡ None) where
  pub agreement_states : (i : ℕ) → role_of x h ≡ states i → agreement (x ∷ h) ≡ statement_fault (standing h) (entry_at i x h)
  unfolding agreement_at
  agreement_states i e = agreement_more x h k ∙ rw e

  pub agreement_neither : role_of x h ≡ neither → agreement (x ∷ h) ≡ None
  unfolding agreement_at
  agreement_neither e = agreement_more x h k ∙ rw e
