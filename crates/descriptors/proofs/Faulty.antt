-- Laws of the walk along a range's statements: the earliest that becomes faulty by a new value. Assumes nothing.
use mathlib.Core.Path.{◌≡◌, refl, sym, ap, ◌∙◌}
use mathlib.Core.Bool.{Bool, true, false, cond, ◌&&◌, and-true}
use mathlib.Core.List.{List, [], ◌∷◌}
use Rattle.std.specs.Prelude.{Option, None, Some}
use Prim.Native.Nat.{ℕ, suc, ◌-◌}
use lib.Dec.{eqb, ltb}
use borrow.Author.Tests.{eqb-true}
use Rattle.record.specs.Records.{TraceRecord, decode}
use Rattle.rules.specs.Cases.{Case, fault}
use Rattle.rules.specs.History.{History, or_else, any_of, earliest_of}
use Rattle.rules.specs.Descriptors.{Entry, puts, role_of, held_by, entry_at, same_place, tells_stated, standing, stated, agreement}
use Rattle.rules.proofs.Best.{greatest_agree, lowest_agree}
use Rattle.history.specs.declared.past.Past.{Past}
use Rattle.history.specs.declared.walk.Taken.{Taken}
use Rattle.history.specs.Pasts.{IsTaken}
use Rattle.history.proofs.Pasts.{AtTurn}
use Rattle.history.specs.Logs.{hist}
use Rattle.history.proofs.Chains.{In}
use Rattle.record.proofs.Booleans.{and_left}
use Rattle.history.proofs.Queries.{ignores_then, earliest_ignores, earliest_turns}
use Rattle.history.proofs.Walks.{told_found, told_outside, told_end}
use Rattle.history.specs.Buckets.{bucket_by}
use Rattle.descriptors.specs.Columns.{stated_bucket, stated_index, stated_entry, statement}
use Rattle.descriptors.specs.Answers.{up_to, greatest_up_to, above, lowest_above, becomes_faulty, new_case}
use Rattle.descriptors.specs.Agreement.{next_in, last_in, ahead_in, falls_behind, goes_against, new_faulty}
use Rattle.descriptors.proofs.Roles.{in_stated}
use Rattle.descriptors.proofs.Judged.{differs_is}
use Rattle.descriptors.proofs.Agreement.{agreement_found, agreement_none}

stated_bucket_lem : (cap range : ℕ) (x : TraceRecord) (h : History) (v : Entry) → tells_stated x h ≡ Some v → v.range ≡ range
    → stated_bucket cap x h ≡ Some (bucket_by cap range)
unfolding stated_bucket
stated_bucket_lem cap range x h v e r = rw (e, r)

else_none : (o : Option Entry) → or_else o None ≡ o
else_none None = refl
else_none (Some v) = refl

-- the earliest statement of the rest that passes, or else the one found so far
abbrev pub Earliest : List ℕ → (Entry → Bool) → Option Taken → ℕ → Option Entry
Earliest log q best n = or_else (earliest_of q (stated (hist log n))) (statement best)

module _ (cap range : ℕ) (log : List ℕ) (q : Entry → Bool) where
  pub earliest_skip : ((v : Entry) → q v ≡ true → v.range ≡ range) → (best : Option Taken) (k : ℕ)
      → (In (stated_bucket cap) (bucket_by cap range) log k → ⊥) → Earliest log q best (suc k) ≡ Earliest log q best k
  unfolding stated
  earliest_skip r best =
      told_outside (ignores_then (λ o. or_else o (statement best)) (earliest_ignores q)) tells_stated (stated_bucket cap) (bucket_by cap range) log
      (λ x h v e t. stated_bucket_lem cap range x h v e (r v t))

  pub earliest_start : (n : ℕ) → earliest_of q (stated (hist log n)) ≡ Earliest log q None n
  earliest_start n = sym (else_none (earliest_of q (stated (hist log n))))

  pub earliest_done : (best : Option Taken) {i : ℕ} {x : Option Entry} → i ≡ 0 → x ≡ Earliest log q best i → statement best ≡ x
  unfolding stated earliest_of
  earliest_done best z e = sym (e ∙ ap (λ (ss : List Entry). or_else (earliest_of q ss) (statement best)) (told_end tells_stated log z))

-- a turn: a statement that becomes faulty replaces the one found before
module _ (cap : ℕ) {p : Past} {b : ℕ} {y : Taken} {x : Option Entry} (q : Entry → Bool) (t : IsTaken p y) (best : Option Taken)
    (w : AtTurn (stated_bucket cap) b p.log.now (Earliest p.log.now q best) x y) where
  stated_hit : stated (hist p.log.now y.number) ≡ stated_entry y ∷ stated (hist p.log.now (y.number - 1))
  unfolding stated
  stated_hit = told_found tells_stated p.log.now t.some (in_stated cap t w.here)

  earliest_next : x ≡ or_else (earliest_of q (stated (hist p.log.now (y.number - 1)))) (cond (q (stated_entry y)) (Some (stated_entry y)) (statement best))
  earliest_next =
      w.same ∙ ap (λ (ss : List Entry). or_else (earliest_of q ss) (statement best)) stated_hit
      ∙ (earliest_turns q).turn (statement best) (stated_entry y) (stated (hist p.log.now (y.number - 1)))

  pub earliest_takes : q (stated_entry y) ≡ true → x ≡ Earliest p.log.now q (Some y) (y.number - 1)
  earliest_takes e = earliest_next ∙ rw e

  pub earliest_keeps : q (stated_entry y) ≡ false → x ≡ Earliest p.log.now q best (y.number - 1)
  earliest_keeps e = earliest_next ∙ rw e

-- the test of the walk
module _ (x : TraceRecord) (h : History) (index : ℕ) {next last : Option Entry} where
  pub faulty_is : next ≡ next_in (entry_at index x h) (standing h) → last ≡ last_in (entry_at index x h) (standing h) → (y : Taken)
      → becomes_faulty next last x index (decode y.record.now) (standing h) ≡ new_faulty (entry_at index x h) (standing h) (stated_entry y)
  unfolding new_faulty falls_behind goes_against ahead_in held_by
  faulty_is en el y = rw (en, el)

pub faulty_range : (p : Entry) (vs : List Entry) (v : Entry) → new_faulty p vs v ≡ true → v.range ≡ p.range
unfolding new_faulty
faulty_range p vs v t = eqb-true _ _ (and_left (eqb v.range p.range) (cond (ltb v.index p.index) (falls_behind p vs v) (goes_against p vs v)) t)

-- what the walks before it give
pub next_is : (x : TraceRecord) (h : History) (index : ℕ) (vs : List Entry) {ra : ℕ} {o : Option Entry} → ra ≡ x.a → o ≡ lowest_above ra index None vs
    → o ≡ next_in (entry_at index x h) vs
unfolding next_in
next_is x h index vs {ra} a e =
    e ∙ ap (λ (r : ℕ). lowest_above r index None vs) a
    ∙ lowest_agree (λ v. v.index) (above x.a index None) (λ v. eqb v.range x.a && ltb index v.index)
    (λ v. and-true (eqb v.range x.a && ltb index v.index)) vs

pub last_is : (x : TraceRecord) (h : History) (index : ℕ) (vs : List Entry) {ra rd : ℕ} {o : Option Entry} → ra ≡ x.a → rd ≡ x.d
    → o ≡ greatest_up_to ra None (Some rd) vs → o ≡ last_in (entry_at index x h) vs
unfolding last_in held_by
last_is x h index vs {ra} {rd} a d e =
    e ∙ rw (a, d)
    (greatest_agree (λ v. v.index) (up_to x.a None (Some x.d)) (λ v. eqb v.range x.a && eqb v.held.generation x.d)
    (λ v. ap (λ (b : Bool). b && eqb v.held.generation x.d) (and-true (eqb v.range x.a))) vs)

-- ---- the case of a new value

module _ (x : TraceRecord) (h : History) (index : ℕ) (role : role_of x h ≡ puts index)
    (free : any_of (same_place (entry_at index x h)) (standing h) ≡ false) (k : agreement h ≡ None) where
  pub put_clear : None ≡ earliest_of (new_faulty (entry_at index x h) (standing h)) (stated h) → None ≡ agreement (x ∷ h)
  put_clear e = sym (agreement_none x h k index role free (sym e))

  pub put_faulty : (y : Taken) {r : Case} → Some (stated_entry y) ≡ earliest_of (new_faulty (entry_at index x h) (standing h)) (stated h)
      → r ≡ new_case index x (decode y.record.now) (standing h) → r ≡ agreement (x ∷ h)
  put_faulty y e q =
      q ∙ ap (cond (ltb (stated_index (decode y.record.now)) index) (fault 2 ((decode y.record.now).a ∷ stated_index (decode y.record.now) ∷ index ∷ [])))
      (sym (differs_is (stated_entry y) (standing h) (entry_at index x h)))
      ∙ sym (agreement_found x h k index role free (stated_entry y) (sym e))
