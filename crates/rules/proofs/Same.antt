-- When two values are the same: the comparisons of agreement and of meta say so exactly when the parts that they name are
-- equal. Assumes nothing.
use mathlib.Core.Path.{◌≡◌, refl, sym, ap, ◌∙◌}
use mathlib.Core.Bool.{Bool, true, false, not, ◌&&◌, ◌||◌}
use mathlib.Core.Logic.{◌↔◌, ⊎_elim}
use lib.Dec.{eqb}
use borrow.Author.Tests.{eq-eqb, eqb-true}
use Rattle.record.specs.declared.named.RangeState.{RangeState}
use Rattle.record.specs.declared.named.RangeState.TheVariants.{Live}
use Rattle.record.specs.Keys.{key_eqb, list_eqb}
use Rattle.record.specs.Named.{state_number, state_of}
use Rattle.record.specs.Records.{TraceRecord}
use Rattle.record.proofs.Keys.{list_eqb_same, list_eqb_equal}
use Rattle.record.proofs.Names.{state_named}
use Rattle.rules.specs.History.{is_kind}
use Rattle.rules.specs.Descriptors.{Held, span_of, held_by, held_eqb, Same, named_eqb, SameNamed}
use Rattle.rules.specs.MetaNeverGoesBack.{differs_from}
use Rattle.record.proofs.Booleans.{decide, and_left, and_right}

-- where the parts that a MetaApplied names pass the test they are equal, and where they are equal they pass it
named_same : (v w : Held) → named_eqb v w ≡ true → SameNamed v w
named_same v w h =
    let starts = key_eqb v.start w.start in
    let ends = key_eqb v.end w.end in
    let voters = list_eqb v.voters w.voters in
    let keys = and_left (starts && ends) voters h in
    record {
      start = list_eqb_same _ _ (and_left starts ends keys);
      end = list_eqb_same _ _ (and_right starts ends keys);
      voters = list_eqb_same _ _ (and_right (starts && ends) voters h);
    }

same_named : (v w : Held) → SameNamed v w → named_eqb v w ≡ true
same_named v w s =
    rw (
      list_eqb_equal v.start w.start s.start,
      list_eqb_equal v.end w.end s.end,
      list_eqb_equal v.voters w.voters s.voters,
    )

-- meta's comparison: equal exactly when start, end and voters all are
pub named_exactly : (v w : Held) → (named_eqb v w ≡ true) ↔ SameNamed v w
named_exactly v w = (named_same v w, same_named v w)

unless : (a b c : Bool) → not (a && b && c) ≡ not a || not b || not c
unless true true c = refl
unless true false c = refl
unless false b c = refl

-- and it is by this that a MetaApplied differs from a value
pub named_differs : (x : TraceRecord) (v : Held) → not (named_eqb v (held_by x)) ≡ differs_from x v
unfolding held_by
named_differs x v = unless (key_eqb v.start (span_of 0 x).start) (key_eqb v.end (span_of 0 x).end) (list_eqb v.voters x.voters)

-- the test of all five: of the generation and the state, and of what a MetaApplied names
regroup : (a b g c s : Bool) → a && b && g && c && s ≡ g && (a && b && c) && s
regroup true true g c s = refl
regroup true false true c s = refl
regroup true false false c s = refl
regroup false b true c s = refl
regroup false b false c s = refl

held_by_lem : (v w : Held) → held_eqb v w ≡ eqb v.generation w.generation && named_eqb v w && eqb (state_number v.state) (state_number w.state)
unfolding held_eqb
held_by_lem v w =
    regroup (key_eqb v.start w.start) (key_eqb v.end w.end) (eqb v.generation w.generation) (list_eqb v.voters w.voters)
    (eqb (state_number v.state) (state_number w.state))

same_state : (a b : RangeState) → state_number a ≡ state_number b → a ≡ b
same_state a b e = sym (state_named a) ∙ ap state_of e ∙ state_named b

pub held_same : (v w : Held) → held_eqb v w ≡ true → Same v w
held_same v w h =
    let g = eqb v.generation w.generation in
    let s = eqb (state_number v.state) (state_number w.state) in
    let all : g && named_eqb v w && s ≡ true = sym (held_by_lem v w) ∙ h in
    let but_state = and_left (g && named_eqb v w) s all in
    let named = named_same v w (and_right g (named_eqb v w) but_state) in
    record {
      start = named.start;
      end = named.end;
      generation = eqb-true _ _ (and_left g (named_eqb v w) but_state);
      voters = named.voters;
      state = same_state _ _ (eqb-true _ _ (and_right (g && named_eqb v w) s all));
    }

pub same_held : (v w : Held) → Same v w → held_eqb v w ≡ true
same_held v w s =
    held_by_lem v w
    ∙ rw (
      eq-eqb v.generation w.generation s.generation,
      same_named v w (record { start = s.start; end = s.end; voters = s.voters }),
      eq-eqb (state_number v.state) (state_number w.state) (ap state_number s.state),
    )

-- agreement's comparison: equal exactly when start, end, generation, voters and state all are
pub held_exactly : (v w : Held) → (held_eqb v w ≡ true) ↔ Same v w
held_exactly v w = (held_same v w, same_held v w)

-- the state is not the sub-code: a RangeCreated is Live, whatever its cause
pub created_live : (x : TraceRecord) → is_kind 1 x ≡ true → (held_by x).state ≡ Live
unfolding held_by
created_live x e = rw e

-- values of two generations differ; of one, the other parts decide
pub other_generation : (v w : Held) → (v.generation ≡ w.generation → ⊥) → held_eqb v w ≡ false
other_generation v w n = ⊎_elim (λ t. absurd (n (held_same v w t).generation)) (λ t. t) (decide (held_eqb v w))

pub one_generation :
    (v w : Held) → v.generation ≡ w.generation → named_eqb v w && eqb (state_number v.state) (state_number w.state) ≡ held_eqb v w
one_generation v w e = sym (held_by_lem v w ∙ rw (eq-eqb v.generation w.generation e))
