-- What a new value makes of the statements that were no fault: which of them become faulty by it.
use Rattle.std.specs.Prelude.{Bool, cond, not, ◌&&◌, ◌||◌, List, eqb, ltb, leb, Option}
use Rattle.rules.specs.History.{is_some, holds, greatest_of, lowest_of}
use Rattle.rules.specs.Descriptors.{Entry, at_in, held_eqb}

-- the standing value of p's range at the lowest index above p's
unfoldable pub next_in : Entry → List Entry → Option Entry
next_in p vs = lowest_of (λ v. v.index) (λ v. eqb v.range p.range && ltb p.index v.index) vs

-- the standing value of p's range and generation at the greatest index
unfoldable pub last_in : Entry → List Entry → Option Entry
last_in p vs = greatest_of (λ v. v.index) (λ v. eqb v.range p.range && eqb v.held.generation p.held.generation) vs

-- the standing value of a statement's range and generation at the lowest index above its own
unfoldable pub ahead_in : Entry → List Entry → Option Entry
ahead_in s vs =
    lowest_of (λ v. v.index)
    (λ v. eqb v.range s.range && ltb s.index v.index && eqb v.held.generation s.held.generation) vs

-- a statement below a new value p becomes faulty by it: p has its generation, the range did not take that generation above it
-- before, and the value that it is judged by has a lower one
unfoldable pub falls_behind : Entry → List Entry → Entry → Bool
falls_behind p vs s =
    eqb s.held.generation p.held.generation
    && not (holds (λ v. ltb s.index v.index) (last_in p vs))
    && holds (λ v. ltb v.held.generation s.held.generation) (at_in s.range s.index vs)

-- a statement not below a new value p becomes faulty by it: no standing value is between, and it differs from p, with a
-- generation that is not larger or that the range took above it
unfoldable pub goes_against : Entry → List Entry → Entry → Bool
goes_against p vs s =
    not (holds (λ v. leb v.index s.index) (next_in p vs))
    && not (held_eqb p.held s.held)
    && (not (ltb p.held.generation s.held.generation) || is_some (ahead_in s vs))

-- a statement becomes faulty by a new value p
unfoldable pub new_faulty : Entry → List Entry → Entry → Bool
new_faulty p vs s = eqb s.range p.range && cond (ltb s.index p.index) (falls_behind p vs s) (goes_against p vs s)
