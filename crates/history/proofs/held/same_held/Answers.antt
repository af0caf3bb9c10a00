-- Values of two generations differ; of one, what a MetaApplied names of them and the states decide. The answer is the
-- definition's test, which is exact.
use mathlib.Core.Path.{◌≡◌, refl, sym, ap, ◌∙◌}
use mathlib.Core.Bool.{Bool, ◌&&◌}
use lib.Dec.{eqb}
use denote.Enum.Bare.{sameb}
use Rattle.record.specs.contracts.named.RangeState.{the_type as RangeState-type}
use Rattle.record.specs.declared.named.RangeState.{RangeState}
use Rattle.record.specs.declared.named.RangeState.TheVariants.{Live, Merging, Subsumed}
use Rattle.record.specs.Named.{state_number}
use Rattle.record.specs.Records.{decode}
use Rattle.rules.specs.Descriptors.{Held, held_by, named_eqb}
use Rattle.record.proofs.Booleans.{means}
use Rattle.rules.proofs.Same.{held_exactly, other_generation, one_generation}
use Rattle.history.proofs.held.same_held.Goals as goal

pub returns-then-d : goal.returns-then-d
unfolding held_by
returns-then-d c =
    let whole = (let args = c.args in
    let v = held_by (decode args.a.now) in
    let w = held_by (decode args.b.now) in
    let differ : v.generation ≡ w.generation → ⊥ = λ e. c.if-d.true (c.d.ensures ∙ e ∙ sym c.d-2.ensures) in
    means (sym (other_generation v w differ)) (held_exactly v w)) in record { answer = whole.0; exactly = whole.1 }

-- states are the same where their numbers are
same_states : (a b : RangeState) → sameb RangeState-type a b ≡ eqb (state_number a) (state_number b)
same_states Live Live = refl
same_states Live Merging = refl
same_states Live Subsumed = refl
same_states Merging Live = refl
same_states Merging Merging = refl
same_states Merging Subsumed = refl
same_states Subsumed Live = refl
same_states Subsumed Merging = refl
same_states Subsumed Subsumed = refl

by_numbers : (v w : Held)
    → named_eqb v w && sameb RangeState-type v.state w.state ≡ named_eqb v w && eqb (state_number v.state) (state_number w.state)
by_numbers v w = ap (λ (t : Bool). named_eqb v w && t) (same_states v.state w.state)

pub returns : goal.returns
unfolding held_by
returns c =
    let whole = (let same = c in
    let second = same in
    let args = second.args in
    let v = held_by (decode args.a.now) in
    let w = held_by (decode args.b.now) in
    let generation : v.generation ≡ w.generation = sym second.d.ensures ∙ same.if-d.false ∙ second.d-2.ensures in
    means
    (rw (same.same_named.ensures.answer, c.eq.ensures, c.state.ensures, c.state-2.ensures) (by_numbers v w) ∙ one_generation v w generation)
    (held_exactly v w)) in record { answer = whole.0; exactly = whole.1 }
