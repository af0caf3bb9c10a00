-- The look-ups' table: a trace in the order of time, a question about it, the answer.
use Rattle.std.specs.Prelude.{cond, List, [], ◌∷◌, ◌++◌, map, reverse, ℕ, Option, None, Some}
use Rattle.record.specs.Records.{TraceRecord}
use Rattle.rules.specs.History.{History}
use Rattle.rules.specs.Descriptors.{Entry, before, at, first_at_generation, statements, is_empty}
use Rattle.rules.specs.IdsUnique.{Grant, holders_of, blocks}
use Rattle.rules.specs.Builders.{by, b, d, f, snapshot, created, descriptor, put, apply, applied, leased}
use Rattle.rules.specs.Examples.{disputed}

-- ---- rows

-- a look-up with what it is given: range and index, range and generation, an id
pub data Question : Type 0 where
  ask_before : ℕ → ℕ → Question
  ask_at : ℕ → ℕ → Question
  ask_first_at_generation : ℕ → ℕ → Question
  ask_statements : Question
  ask_is_empty : Question
  ask_holders_of : ℕ → Question
  ask_blocks : Question

pub record LookUp : Type 0 where
  pub trace : List TraceRecord
  pub question : Question
  pub answer : List ℕ

abbrev ask : List TraceRecord → Question → List ℕ → LookUp
ask trace question answer = record { trace = trace; question = question; answer = answer }

-- "the number of the putting record, or none", which is 0 here
abbrev number_of : Option Entry → ℕ
number_of None = 0
number_of (Some v) = v.number

-- "three words a block (first, last, node)"
unfoldable pub block_words : List Grant → List ℕ
block_words [] = []
block_words (g ∷ gs) = g.first ∷ g.last ∷ g.node ∷ block_words gs

abbrev answer_of : Question → History → List ℕ
answer_of (ask_before range index) h = number_of (before range index h) ∷ []
answer_of (ask_at range index) h = number_of (at range index h) ∷ []
answer_of (ask_first_at_generation range generation) h = number_of (first_at_generation range generation h) ∷ []
answer_of ask_statements h = statements h ∷ []
answer_of ask_is_empty h = cond (is_empty h) 1 0 ∷ []
answer_of (ask_holders_of id) h = map (λ (g : Grant). g.node) (holders_of id h)
answer_of ask_blocks h = block_words (blocks h)

-- what the rules answer to a row's question
abbrev pub look_up : LookUp → List ℕ
look_up r = answer_of r.question (reverse r.trace)

-- ---- values

-- range 2 has values at 3, 7, 5 and 4, in that order of time, range 3 one at 6; the fifth record states, and the sixth puts one again
abbrev valued : List TraceRecord
valued =
    put 2 3 1 b f
    ∷ put 2 7 2 b d
    ∷ put 2 5 3 b d
    ∷ put 3 6 1 b f
    ∷ created (by 1) snapshot 2 6 3 b d
    ∷ put 2 3 1 b f
    ∷ put 2 4 2 b d
    ∷ []

abbrev of_values : List LookUp
of_values =
    -- before: the greatest index below
    ask valued (ask_before 2 3) (0 ∷ [])
    ∷ ask valued (ask_before 2 4) (1 ∷ [])
    ∷ ask valued (ask_before 2 5) (7 ∷ [])
    ∷ ask valued (ask_before 2 7) (3 ∷ [])
    ∷ ask valued (ask_before 2 8) (2 ∷ [])
    ∷ ask valued (ask_before 3 6) (0 ∷ [])
    ∷ ask valued (ask_before 3 7) (4 ∷ [])
    ∷ ask valued (ask_before 4 9) (0 ∷ [])
    -- at: the greatest index not above
    ∷ ask valued (ask_at 2 2) (0 ∷ [])
    ∷ ask valued (ask_at 2 3) (1 ∷ [])
    ∷ ask valued (ask_at 2 6) (3 ∷ [])
    ∷ ask valued (ask_at 2 7) (2 ∷ [])
    ∷ ask valued (ask_at 2 9) (2 ∷ [])
    ∷ ask valued (ask_at 3 6) (4 ∷ [])
    ∷ ask valued (ask_at 4 9) (0 ∷ [])
    -- first_at_generation: the first in time, of that range and generation
    ∷ ask valued (ask_first_at_generation 2 1) (1 ∷ [])
    ∷ ask valued (ask_first_at_generation 2 2) (2 ∷ [])
    ∷ ask (valued ++ (put 2 9 2 b d ∷ [])) (ask_first_at_generation 2 2) (2 ∷ [])
    ∷ ask valued (ask_first_at_generation 2 3) (3 ∷ [])
    ∷ ask valued (ask_first_at_generation 3 1) (4 ∷ [])
    ∷ ask valued (ask_first_at_generation 3 2) (0 ∷ [])
    ∷ ask valued (ask_first_at_generation 2 4) (0 ∷ [])
    -- the first put at an index stands although another differs, and values are put after such a fault too
    ∷ ask disputed (ask_at 2 3) (1 ∷ [])
    ∷ ask (disputed ++ (put 2 4 1 b f ∷ [])) (ask_at 2 4) (3 ∷ [])
    -- statements: how many there are, of every range and node, also equal ones
    ∷ ask [] ask_statements (0 ∷ [])
    ∷ ask (put 2 3 1 b f ∷ []) ask_statements (0 ∷ [])
    ∷ ask valued ask_statements (1 ∷ [])
    ∷ ask (valued ++ (created (by 1) snapshot 2 6 3 b d ∷ created (by 2) snapshot 9 6 3 b d ∷ [])) ask_statements (3 ∷ [])
    ∷ ask (apply (by 1) applied 2 5 ∷ descriptor (by 1) 2 4 5 1 [] b d ∷ []) ask_statements (1 ∷ [])
    -- is_empty: no value is put
    ∷ ask [] ask_is_empty (1 ∷ [])
    ∷ ask (created (by 1) snapshot 2 6 3 b d ∷ []) ask_is_empty (1 ∷ [])
    ∷ ask (put 2 3 1 b f ∷ []) ask_is_empty (0 ∷ [])
    ∷ ask valued ask_is_empty (0 ∷ [])
    ∷ []

-- ---- blocks

-- an empty grant, a second one at an index, and three blocks that share the id 10, two of them from the same first
abbrev granted : List TraceRecord
granted =
    leased 1 5 1 50 59
    ∷ leased 2 6 1 10 19
    ∷ leased 3 7 1 40 39
    ∷ leased 4 6 1 70 79
    ∷ leased 5 4 1 10 12
    ∷ leased 6 8 1 7 10
    ∷ leased 7 9 1 60 69
    ∷ []

abbrev of_blocks : List LookUp
of_blocks =
    -- by first, then by time
    ask [] ask_blocks []
    ∷ ask granted ask_blocks (7 ∷ 10 ∷ 6 ∷ 10 ∷ 19 ∷ 2 ∷ 10 ∷ 12 ∷ 5 ∷ 50 ∷ 59 ∷ 1 ∷ 60 ∷ 69 ∷ 7 ∷ [])
    -- the blocks that contain the id: from first to last
    ∷ ask granted (ask_holders_of 6) []
    ∷ ask granted (ask_holders_of 7) (6 ∷ [])
    ∷ ask granted (ask_holders_of 10) (6 ∷ 2 ∷ 5 ∷ [])
    ∷ ask granted (ask_holders_of 12) (2 ∷ 5 ∷ [])
    ∷ ask granted (ask_holders_of 13) (2 ∷ [])
    ∷ ask granted (ask_holders_of 19) (2 ∷ [])
    ∷ ask granted (ask_holders_of 20) []
    ∷ ask granted (ask_holders_of 55) (1 ∷ [])
    ∷ ask granted (ask_holders_of 40) []
    ∷ ask granted (ask_holders_of 75) []
    ∷ []

abbrev pub look_ups : List LookUp
look_ups = of_values ++ of_blocks
