-- `Descriptors`: the values of ranges, their look-ups, and agreement.
use Rattle.std.specs.Prelude.{◌≡◌, Bool, true, false, cond, not, ◌&&◌, ◌||◌, List, [], ◌∷◌, ℕ, length, get_or, eqb, ltb, leb, Option, None, Some}
use Rattle.record.specs.Named.{Node, cause_of, state_of, state_number}
use Rattle.record.specs.declared.named.RangeCause.{RangeCause}
use Rattle.record.specs.declared.named.RangeCause.TheVariants.{Bootstrap, Split, Snapshot}
use Rattle.record.specs.declared.named.RangeState.{RangeState}
use Rattle.record.specs.declared.named.RangeState.TheVariants.{Live}
use Rattle.record.specs.Keys.{Key, key_eqb, list_eqb}
use Rattle.record.specs.Records.{Span, TraceRecord}
use Rattle.rules.specs.Cases.{Case, fault, fault_if, or_case, case_of, earliest_case}
use Rattle.rules.specs.Views.{range_of, generation_by, applied_by, created_by, descriptor_by}
use Rattle.rules.specs.History.{History, number_after, is_kind, is_by, when, holds, latest, told, firsts, latest_of, earliest_of, greatest_of, lowest_of}

-- a record's span number k, empty where it has none
abbrev pub span_of : ℕ → TraceRecord → Span
span_of k x = get_or x.spans k (record { start = []; end = [] })

-- "A value is (start, end, generation, voters, state)"
pub record Held : Type 0 where
  pub start : Key
  pub end : Key
  pub generation : ℕ
  pub voters : List ℕ
  pub state : RangeState

-- "RangeCreated's state is Live"
abbrev pub held_state : TraceRecord → RangeState
held_state x = cond (is_kind 1 x) Live (state_of x.code)

-- the value that a RangeCreated or a RangeDescriptor has
unfoldable pub held_by : TraceRecord → Held
held_by x = record { start = (span_of 0 x).start; end = (span_of 0 x).end; generation = generation_by x; voters = x.voters; state = held_state x }

-- two values are the same
unfoldable pub held_eqb : Held → Held → Bool
held_eqb v w =
    key_eqb v.start w.start
    && key_eqb v.end w.end
    && eqb v.generation w.generation
    && list_eqb v.voters w.voters
    && eqb (state_number v.state) (state_number w.state)

-- which they are "exactly when start, end, generation, voters and state all are" (proofs/Same)
pub record Same (v w : Held) : Type 0 where
  pub start : v.start ≡ w.start
  pub end : v.end ≡ w.end
  pub generation : v.generation ≡ w.generation
  pub voters : v.voters ≡ w.voters
  pub state : v.state ≡ w.state

-- the parts that a MetaApplied names are the same: it is held against a value of its generation, and has no state
abbrev pub named_eqb : Held → Held → Bool
named_eqb v w = key_eqb v.start w.start && key_eqb v.end w.end && list_eqb v.voters w.voters

-- which they are exactly when start, end and voters all are
pub record SameNamed (v w : Held) : Type 0 where
  pub start : v.start ≡ w.start
  pub end : v.end ≡ w.end
  pub voters : v.voters ≡ w.voters

-- "The applied index of (node, range) is that of the latest marked kind 1 (floor), 3 (index) or 4 (applied)"
abbrev pub tells_applied : ℕ → ℕ → TraceRecord → History → Option ℕ
tells_applied node range x h = when (is_by node x && (is_kind 1 x || is_kind 3 x || is_kind 4 x) && eqb (range_of x) range) (applied_by x)

unfoldable pub applied : ℕ → ℕ → History → Option ℕ
applied node range h = latest (tells_applied node range) h

-- "a statement at its applied index when marked and a known applied index is at least that"
unfoldable pub reached : TraceRecord → History → Node → Bool
reached x h None = false
reached x h (Some n) = holds (λ known. leb (descriptor_by x).applied known) (applied n.0 (descriptor_by x).range h)

-- what a record does: it puts its value at an index, states it at one, or neither
pub data Role : Type 0 where
  puts : ℕ → Role
  states : ℕ → Role
  neither : Role

-- "Bootstrap and Split put it at the floor; Snapshot states it there"
abbrev pub created_role : RangeCause → ℕ → Role
created_role Bootstrap floor = puts floor
created_role Split floor = puts floor
created_role Snapshot floor = states floor

-- "A RangeDescriptor is a statement at its applied index ..; else a put at its index"
abbrev pub descriptor_role : Bool → TraceRecord → Role
descriptor_role true x = states (descriptor_by x).applied
descriptor_role false x = puts (descriptor_by x).index

unfoldable pub role_of : TraceRecord → History → Role
role_of x h =
    cond (is_kind 1 x) (created_role (cause_of x.code) (created_by x).floor)
    (cond (is_kind 2 x) (descriptor_role (reached x h x.node) x) neither)

-- a value at an index of a range, put or stated, with the number of its record
pub record Entry : Type 0 where
  pub range : ℕ
  pub index : ℕ
  pub held : Held
  pub number : ℕ

abbrev pub entry_at : ℕ → TraceRecord → History → Entry
entry_at index x h = record { range = range_of x; index = index; held = held_by x; number = number_after h }

abbrev pub put_by : Role → TraceRecord → History → Option Entry
put_by (puts i) x h = Some (entry_at i x h)
put_by (states i) x h = None
put_by neither x h = None

abbrev pub stated_by : Role → TraceRecord → History → Option Entry
stated_by (puts i) x h = None
stated_by (states i) x h = Some (entry_at i x h)
stated_by neither x h = None

-- what a record puts, and what it states
abbrev pub tells_put : TraceRecord → History → Option Entry
tells_put x h = put_by (role_of x h) x h

abbrev pub tells_stated : TraceRecord → History → Option Entry
tells_stated x h = stated_by (role_of x h) x h

abbrev pub same_place : Entry → Entry → Bool
same_place v w = eqb v.range w.range && eqb v.index w.index

-- the standing values: "The first put at (range, index) stands, even after a fault"
unfoldable pub standing : History → List Entry
standing = firsts same_place tells_put

-- the statements, newest first
unfoldable pub stated : History → List Entry
stated = told tells_stated

-- among a range's standing values: "`before` takes the greatest index below the one given", ..
unfoldable pub before_in : ℕ → ℕ → List Entry → Option Entry
before_in range index vs = greatest_of (λ v. v.index) (λ v. eqb v.range range && ltb v.index index) vs

-- .. "`at` the greatest not above it", ..
unfoldable pub at_in : ℕ → ℕ → List Entry → Option Entry
at_in range index vs = greatest_of (λ v. v.index) (λ v. eqb v.range range && leb v.index index) vs

-- .. `first_at_generation` the one of that generation that was put first (so the Rust; document 01 has the lowest index)
unfoldable pub first_at_generation_in : ℕ → ℕ → List Entry → Option Entry
first_at_generation_in range generation vs = earliest_of (λ v. eqb v.range range && eqb v.held.generation generation) vs

-- a put that "differs from the standing value"
unfoldable pub put_fault : Option Entry → List Entry → Case
put_fault None vs = None
put_fault (Some p) vs =
    case_of (λ v. fault_if (not (held_eqb v.held p.held)) (fault 1 (p.range ∷ p.index ∷ []))) (latest_of (same_place p) vs)

-- kind 1 of a beginning: the earliest put that differs from the value that stands at its range and index
unfoldable pub puts_differ : History → Case
puts_differ [] = None
puts_differ (x ∷ h) = or_case (puts_differ h) (put_fault (tells_put x h) (standing h))

-- "Larger generation: fault only if a value at a higher index has that generation (kind 2: range, index, lowest such index)"
unfoldable pub ahead_fault : Entry → List Entry → Case
ahead_fault s vs =
    case_of (λ v. fault 2 (s.range ∷ s.index ∷ v.index ∷ []))
    (lowest_of (λ v. v.index) (λ v. eqb v.range s.range && ltb s.index v.index && eqb v.held.generation s.held.generation) vs)

-- a statement that differs from the value v: ahead of it, or "A generation not larger is kind 3: range, index"
unfoldable pub differs_fault : Entry → List Entry → Entry → Case
differs_fault s vs v =
    fault_if (not (held_eqb v.held s.held))
    (cond (ltb v.held.generation s.held.generation) (ahead_fault s vs) (fault 3 (s.range ∷ s.index ∷ [])))

-- "a statement differs from the standing value at the greatest index not above its own. No such value: no fault"
unfoldable pub statement_fault : List Entry → Entry → Case
statement_fault vs s = case_of (differs_fault s vs) (at_in s.range s.index vs)

-- agreement's fault of a beginning as a whole: a put that differs; else "The earliest such statement is reported"
unfoldable pub agreement : History → Case
agreement h = or_case (puts_differ h) (earliest_case (statement_fault (standing h)) (stated h))

-- the look-ups of a history: the number of the putting record
unfoldable pub before : ℕ → ℕ → History → Option Entry
before range index h = before_in range index (standing h)

unfoldable pub at : ℕ → ℕ → History → Option Entry
at range index h = at_in range index (standing h)

unfoldable pub first_at_generation : ℕ → ℕ → History → Option Entry
first_at_generation range generation h = first_at_generation_in range generation (standing h)

-- how many statements there are
unfoldable pub statements : History → ℕ
statements h = length (stated h)

-- no value has been put
unfoldable pub is_empty : History → Bool
is_empty h = eqb (length (standing h)) 0
