-- The work area as columns of C words, each a written function of the history, and chains of records through two of them.
use Rattle.std.specs.Prelude.{◌≡◌, cond, List, [], ◌∷◌, ℕ, ◌+◌, ◌-◌, ◌<◌, length, get_or, eqb, ltb, Option, None, Some}
use Rattle.record.specs.Records.{TraceRecord}
use Rattle.rules.specs.History.{History, Tells, number_after, holds}

-- the word at each place k of the column that begins at base is F k
pub record Column (F : ℕ → ℕ) (base cap : ℕ) (work : List ℕ) : Type 0 where
  pub word : (k : ℕ) → k < cap → get_or work (base + k) 0 ≡ F k

-- a word for each record, told by it and those before, at the record's place; 0 past the records taken
unfoldable pub cell_of : (TraceRecord → History → ℕ) → History → ℕ → ℕ
cell_of g [] k = 0
cell_of g (x ∷ h) k = cond (eqb k (length h)) (g x h) (cell_of g h k)

-- the number of the latest record in the bucket b, 0 where there is none
unfoldable pub latest_in : Tells ℕ → History → ℕ → ℕ
latest_in f [] b = 0
latest_in f (x ∷ h) b = cond (holds (eqb b) (f x h)) (number_after h) (latest_in f h b)

-- for a record in a bucket the number of the latest one before it there, else 0
abbrev pub link_in : Tells ℕ → History → Option ℕ → ℕ
link_in f h None = 0
link_in f h (Some b) = latest_in f h b

unfoldable pub link_of : Tells ℕ → TraceRecord → History → ℕ
link_of f x h = link_in f h (f x h)

-- the chains of f: a column of heads and one of links
pub record Chained (f : Tells ℕ) (heads links cap : ℕ) (h : History) (work : List ℕ) : Type 0 where
  pub tops : Column (latest_in f h) heads cap work
  pub downs : Column (cell_of (link_of f) h) links cap work

-- a link that points no further than it may: whatever the work area holds, a walk goes down
abbrev pub clamp : ℕ → ℕ → ℕ
clamp x top = cond (ltb top x) 0 x

-- the number of a record in the column that begins at base, as of the record with a number; 0 as of the beginning before any
abbrev pub number_in : ℕ → List ℕ → ℕ → ℕ
number_in base work last = cond (eqb last 0) 0 (clamp (get_or work (base + (last - 1)) 0) last)

-- the work area with v at a place
pub record Put (work work' : List ℕ) (at v : ℕ) : Type 0 where
  pub len : length work' ≡ length work
  pub is : get_or work' at 0 ≡ v
  pub others : (j : ℕ) → (j ≡ at → ⊥) → get_or work' j 0 ≡ get_or work j 0

-- the record at place n entered into the chain of the bucket b: all that changes
pub record Entered (work work' : List ℕ) (heads links n b : ℕ) : Type 0 where
  pub len : length work' ≡ length work
  pub link_is : get_or work' (links + n) 0 ≡ get_or work (heads + b) 0
  pub head_is : get_or work' (heads + b) 0 ≡ n + 1
  pub others : (j : ℕ) → (j ≡ links + n → ⊥) → (j ≡ heads + b → ⊥) → get_or work' j 0 ≡ get_or work j 0

-- a record at place n entered into the chain of the bucket that it has, and else nothing changes
abbrev pub EnteredAt : List ℕ → List ℕ → ℕ → ℕ → ℕ → Option ℕ → Type 0
EnteredAt work work' heads links n None = work' ≡ work
EnteredAt work work' heads links n (Some b) = Entered work work' heads links n b

pub record EnteredIf (work work' : List ℕ) (heads links n : ℕ) (bucket : Option ℕ) : Type 0 where
  pub is : EnteredAt work work' heads links n bucket
