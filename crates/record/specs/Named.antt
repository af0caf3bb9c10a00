-- The mark of a node, and the named sub-codes of kinds 1, 2 and 3, with document 01's numbers.
use Rattle.std.specs.Prelude.{cond, ℕ, eqb, Option}
use Rattle.record.specs.declared.named.NodeId.{NodeId}
use Rattle.record.specs.declared.named.RangeCause.{RangeCause}
use Rattle.record.specs.declared.named.RangeCause.TheVariants.{Bootstrap, Split, Snapshot}
use Rattle.record.specs.declared.named.RangeState.{RangeState}
use Rattle.record.specs.declared.named.RangeState.TheVariants.{Live, Merging, Subsumed}
use Rattle.record.specs.declared.named.ApplyEffect.{ApplyEffect}
use Rattle.record.specs.declared.named.ApplyEffect.TheVariants.{Applied, OutOfSpan, Frozen, Took, Aborted, Refused, None}

-- the node that wrote a record, where the record is marked with one
abbrev pub Node : Type 0
Node = Option NodeId

-- "sub-code 1 Bootstrap, 2 Split, 3 Snapshot"
abbrev pub cause_number : RangeCause → ℕ
cause_number Bootstrap = 1
cause_number Split = 2
cause_number Snapshot = 3

-- the cause with a sub-code, Snapshot where no cause has it
abbrev pub cause_of : ℕ → RangeCause
cause_of n = cond (eqb n 1) Bootstrap (cond (eqb n 2) Split Snapshot)

-- "sub-code 1 Live, 2 Merging, 3 Subsumed"
abbrev pub state_number : RangeState → ℕ
state_number Live = 1
state_number Merging = 2
state_number Subsumed = 3

-- the state with a sub-code, Subsumed where no state has it
abbrev pub state_of : ℕ → RangeState
state_of n = cond (eqb n 1) Live (cond (eqb n 2) Merging Subsumed)

-- "sub-code 1 to 7 for Applied, OutOfSpan, Frozen, Took, Aborted, Refused, None"
abbrev pub effect_number : ApplyEffect → ℕ
effect_number Applied = 1
effect_number OutOfSpan = 2
effect_number Frozen = 3
effect_number Took = 4
effect_number Aborted = 5
effect_number Refused = 6
effect_number None = 7

-- the effect with a sub-code, None where no effect has it
abbrev pub effect_of : ℕ → ApplyEffect
effect_of n =
    cond (eqb n 1) Applied
    (cond (eqb n 2) OutOfSpan
    (cond (eqb n 3) Frozen (cond (eqb n 4) Took (cond (eqb n 5) Aborted (cond (eqb n 6) Refused None)))))
