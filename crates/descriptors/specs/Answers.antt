-- What the answers of this crate's functions stand for in the rules.
use Rattle.std.specs.Prelude.{Bool, true, cond, not, ◌&&◌, ◌||◌, List, [], ◌∷◌, ℕ, eqb, ltb, leb, Option, None, Some}
use Rattle.rules.specs.Cases.{Case, fault, fault_if, case_of}
use Rattle.rules.specs.Answers.{Found}
use Rattle.record.specs.Records.{TraceRecord}
use Rattle.rules.specs.History.{holds, is_some, greatest_of, lowest_of}
use Rattle.rules.specs.Descriptors.{Entry, Held, held_by, held_eqb, at_in, puts, states, neither}
use Rattle.rules.specs.Descriptors as rules
use Rattle.descriptors.specs.Columns.{stated_index}
use Rattle.descriptors.specs.declared.role.Role.{Role}
use Rattle.descriptors.specs.declared.role.Role.TheVariants.{Puts, States, Neither}

-- a record's role
abbrev pub role_is : Role → rules.Role
role_is (Puts i) = puts i
role_is (States i) = states i
role_is Neither = neither

-- "These look-ups give the number of the putting record, or none"
abbrev pub found_by : Option Entry → Found
found_by None = None
found_by (Some v) = Some v.number

-- the value at a place, as a put asks for it
abbrev pub at_place : ℕ → ℕ → Entry → Bool
at_place range index v = eqb range v.range && eqb index v.index

-- what is asked of a number: nothing, or that it passes
abbrev pub asks : (ℕ → Bool) → Option ℕ → Bool
asks test None = true
asks test (Some n) = test n

-- the standing values of a range, up to an index and of a generation where these are asked for
abbrev pub up_to : ℕ → Option ℕ → Option ℕ → Entry → Bool
up_to range index generation v =
    eqb v.range range && asks (λ top. leb v.index top) index && asks (λ wanted. eqb v.held.generation wanted) generation

abbrev pub greatest_up_to : ℕ → Option ℕ → Option ℕ → List Entry → Option Entry
greatest_up_to range index generation vs = greatest_of (λ v. v.index) (up_to range index generation) vs

-- those above an index, of a generation where that is asked for
abbrev pub above : ℕ → ℕ → Option ℕ → Entry → Bool
above range index generation v =
    eqb v.range range && ltb index v.index && asks (λ wanted. eqb v.held.generation wanted) generation

abbrev pub lowest_above : ℕ → ℕ → Option ℕ → List Entry → Option Entry
lowest_above range index generation vs = lowest_of (λ v. v.index) (above range index generation) vs

-- those of a range and generation
abbrev pub of_generation : ℕ → ℕ → Entry → Bool
of_generation range generation v = eqb v.range range && eqb v.held.generation generation

-- a statement of a generation at an index: the case where the range took that generation above it
abbrev pub ahead_case : ℕ → ℕ → ℕ → List Entry → Case
ahead_case range index generation vs =
    case_of (λ v. fault 2 (range ∷ index ∷ v.index ∷ [])) (lowest_above range index (Some generation) vs)

-- a statement s at an index that is judged by the value v
abbrev pub differs_case : ℕ → ℕ → Held → Held → List Entry → Case
differs_case range index v s vs =
    fault_if (not (held_eqb v s)) (cond (ltb v.generation s.generation) (ahead_case range index s.generation vs) (fault 3 (range ∷ index ∷ [])))

-- `falls_behind`, `goes_against` and `new_faulty` of a statement in the record s at an index, by what was found of the range
abbrev pub falls_by : Option Entry → ℕ → TraceRecord → ℕ → List Entry → Bool
falls_by last generation s index vs =
    eqb s.d generation
    && not (holds (λ v. ltb index v.index) last)
    && holds (λ v. ltb v.held.generation s.d) (at_in s.a index vs)

abbrev pub against_by : Option Entry → TraceRecord → TraceRecord → ℕ → List Entry → Bool
against_by next x s index vs =
    not (holds (λ v. leb v.index index) next)
    && not (held_eqb (held_by x) (held_by s))
    && (not (ltb x.d s.d) || is_some (lowest_above s.a index (Some s.d) vs))

abbrev pub becomes_faulty : Option Entry → Option Entry → TraceRecord → ℕ → TraceRecord → List Entry → Bool
becomes_faulty next last x index s vs =
    eqb s.a x.a
    && cond (ltb (stated_index s) index) (falls_by last x.d s (stated_index s) vs) (against_by next x s (stated_index s) vs)

-- the case of a statement in the record s that became faulty by the value of the record x at an index
abbrev pub new_case : ℕ → TraceRecord → TraceRecord → List Entry → Case
new_case index x s vs =
    cond (ltb (stated_index s) index)
    (fault 2 (s.a ∷ stated_index s ∷ index ∷ []))
    (differs_case s.a (stated_index s) (held_by x) (held_by s) vs)
