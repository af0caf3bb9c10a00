-- `MetaNeverGoesBack`: the names that meta gives to keys, and the meta check.
use Rattle.std.specs.Prelude.{◌≡◌, Bool, true, false, cond, not, ◌&&◌, ◌||◌, List, [], ◌∷◌, ℕ, length, ltb, leb, Option, None, Some}
use Rattle.record.specs.Keys.{Key, key_ltb, key_eqb, list_eqb, inside, Lt, Le}
use Rattle.record.specs.Records.{TraceRecord}
use Rattle.rules.specs.Cases.{Case, fault, is_fault, fault_if, or_case, case_of}
use Rattle.rules.specs.Views.{meta_by}
use Rattle.rules.specs.History.{History, is_kind, when, told, greatest_of}
use Rattle.rules.specs.Descriptors.{Held, Entry, span_of, first_at_generation}

-- kinds 1 and 2: "`first_at_generation` has nothing", or "start, end or voters differ from it"; "Both: range, generation, index"
abbrev pub differs_from : TraceRecord → Held → Bool
differs_from x v =
    not (key_eqb v.start (span_of 0 x).start) || not (key_eqb v.end (span_of 0 x).end) || not (list_eqb v.voters x.voters)

abbrev pub named_fault : TraceRecord → Option Entry → Case
named_fault x None = fault 1 ((meta_by x).range ∷ (meta_by x).generation ∷ (meta_by x).index ∷ [])
named_fault x (Some v) = fault_if (differs_from x v.held) (fault 2 ((meta_by x).range ∷ (meta_by x).generation ∷ (meta_by x).index ∷ []))

-- the name of the keys of a span: the record that won them, its generation and index
pub record Name : Type 0 where
  pub start : Key
  pub end : Key
  pub generation : ℕ
  pub index : ℕ

-- "a won span with start < end names its keys at (generation, index)": the record's second span
abbrev pub is_won : TraceRecord → Bool
is_won x = is_kind 12 x && leb 2 (length x.spans) && key_ltb (span_of 1 x).start (span_of 1 x).end

abbrev pub name_by : TraceRecord → Name
name_by x = record { start = (span_of 1 x).start; end = (span_of 1 x).end; generation = (meta_by x).generation; index = (meta_by x).index }

-- the names, newest first
unfoldable pub names : History → List Name
names h = told (λ x _. when (is_won x) (name_by x)) h

abbrev pub covers : Key → Name → Bool
covers k n = inside n.start n.end k

-- "A key's standing name has the greatest index, earliest among equals"
unfoldable pub standing_name : List Name → Key → Option Name
standing_name ns k = greatest_of (λ n. n.index) (covers k) ns

-- "Kind 3: standing index lower, generation higher: index, range, generation, old generation. Kind 4: standing index not
-- lower, generation lower: the same, then standing index"
abbrev pub name_fault : TraceRecord → Name → Case
name_fault x n =
    cond (ltb n.index (meta_by x).index)
    (fault_if (ltb (meta_by x).generation n.generation)
    (fault 3 ((meta_by x).index ∷ (meta_by x).range ∷ (meta_by x).generation ∷ n.generation ∷ [])))
    (fault_if (ltb n.generation (meta_by x).generation)
    (fault 4 ((meta_by x).index ∷ (meta_by x).range ∷ (meta_by x).generation ∷ n.generation ∷ n.index ∷ [])))

-- the case of a won key, by its standing name
unfoldable pub key_fault : TraceRecord → List Name → Key → Case
key_fault x ns k = case_of (name_fault x) (standing_name ns k)

-- the ends of the names: where the standing name of a key can change
unfoldable pub bounds : List Name → List Key
bounds [] = []
bounds (n ∷ ns) = n.start ∷ n.end ∷ bounds ns

abbrev pub lower_key : Key → Option Key → Option Key
lower_key k None = Some k
lower_key k (Some m) = Some (cond (key_ltb m k) m k)

-- the least key of a list that passes
unfoldable pub least_key : (Key → Bool) → List Key → Option Key
least_key p [] = None
least_key p (k ∷ ks) = cond (p k) (lower_key k (least_key p ks)) (least_key p ks)

-- "The walk stops at its first faulty piece, in key order": k is the least faulty key from s up to e, of all the keys that
-- there are, so that the piece that holds it is the first faulty one ..
pub record FirstFaultyKey (f : Key → Case) (s e k : Key) : Type 0 where
  pub low : Le s k
  pub high : Lt k e
  pub faulty : is_fault (f k) ≡ true
  pub before : (j : Key) → Le s j → Lt j k → is_fault (f j) ≡ false

-- .. and c is the case at which the walk stops, that key's; or Clear, where no key is faulty
pub data FirstFaulty (f : Key → Case) (s e : Key) (c : Case) : Type 0 where
  at : (k : Key) → FirstFaultyKey f s e k → c ≡ f k → FirstFaulty f s e c
  clean : ((k : Key) → Le s k → Lt k e → is_fault (f k) ≡ false) → c ≡ None → FirstFaulty f s e c

-- the case of a won span. Only its start and the ends of names are looked at, and it is the one `FirstFaulty` of the span all
-- the same: `won_fault_right` in proofs/MetaLeast.antt
unfoldable pub won_fault : TraceRecord → List Name → Case
won_fault x ns =
    case_of (key_fault x ns)
    (least_key (λ k. inside (span_of 1 x).start (span_of 1 x).end k && is_fault (key_fault x ns k)) ((span_of 1 x).start ∷ bounds ns))

-- the meta case of a record: "Per record, in order"
unfoldable pub meta_at : TraceRecord → History → Case
meta_at x h =
    fault_if (is_kind 12 x)
    (or_case (named_fault x (first_at_generation (meta_by x).range (meta_by x).generation h)) (fault_if (is_won x) (won_fault x (names h))))
