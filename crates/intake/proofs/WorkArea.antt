-- The work area is one function of C and the records taken: what the columns of every check say fixes every word. Assumes nothing.
use mathlib.Core.Path.{◌≡◌, refl, sym, ap, ◌∙◌, subst}
use mathlib.Core.List.{List, [], ◌∷◌, ◌++◌}
use Prim.Native.Nat.{ℕ, zero, suc, ◌+◌, ◌*◌, ◌≤◌, ◌<◌}
use native.Mathlib.Nat.{add-zero, add-suc, suc-add, add_comm, suc-mul, add-mul, zero-mul, zero-add, le-add_right, le_of_eq}
use native.Mathlib.Omega.{arith}
use lib.ListN.{length, get_or, take, drop, length-append, length-drop, take-append-drop, drop_of_length-le, get_or-append}
use lib.Seq.{ext_get_or, get_or-take, get_or-drop, drop-drop, drop_at, length-take-le}
use Rattle.record.specs.Records.{TraceRecord}
use Rattle.rules.specs.History.{History}
use Rattle.history.specs.Columns.{Column}
use Rattle.intake.specs.Words.{Indexed, Noted}
use Rattle.intake.specs.WorkArea.{column_of, columns_of, columns, work_of}

-- ---- one column

length_column : (n : ℕ) (F : ℕ → ℕ) → length (column_of n F) ≡ n
unfolding column_of
length_column zero F = refl
length_column (suc n) F = ap suc (length_column n (λ k. F (suc k)))

get_d_column : (n : ℕ) (F : ℕ → ℕ) (k : ℕ) → k < n → get_or (column_of n F) k 0 ≡ F k
unfolding column_of
get_d_column zero F k l = omega arith
get_d_column (suc n) F zero l = refl
get_d_column (suc n) F (suc k) l = get_d_column n (λ j. F (suc j)) k (omega arith)

module _ {F : ℕ → ℕ} {base cap : ℕ} {work : List ℕ} where
  -- a column's words are a part of the area
  column_is : base + cap ≤ length work → Column F base cap work → take cap (drop base work) ≡ column_of cap F
  column_is l q =
      let d : length (take cap (drop base work)) ≡ cap = length-take-le cap (drop base work) (omega (arith, length-drop base work)) in
      ext_get_or 0 (take cap (drop base work)) (column_of cap F) (d ∙ sym (length_column cap F)) (λ k j.
      let i : k < cap = omega arith in
      get_or-take cap (drop base work) k 0 i ∙ get_or-drop base work k 0 ∙ q.word k i ∙ sym (get_d_column cap F k i))

  -- and a part of the area that is a column's words is that column
  is_column : (rest : List ℕ) → drop base work ≡ column_of cap F ++ rest → Column F base cap work
  is_column rest e = record {
    word = λ k l.
        sym (get_or-drop base work k 0)
        ∙ ap (λ (w : List ℕ). get_or w k 0) e
        ∙ get_or-append (column_of cap F) rest 0 k (omega (arith, length_column cap F))
        ∙ get_d_column cap F k l;
  }

-- ---- columns one after the other

-- the words of each column from the c-th on
infixr 5 ◌then◌
data Columns (cap : ℕ) (work : List ℕ) : List (ℕ → ℕ) → ℕ → Type 0 where
  end : {c : ℕ} → Columns cap work [] c
  ◌then◌ : {F : ℕ → ℕ} {Fs : List (ℕ → ℕ)} {c : ℕ} → Column F (c * cap) cap work → Columns cap work Fs (suc c) → Columns cap work (F ∷ Fs) c

-- the area's length, counted from the next column
length_next : (c m cap : ℕ) → (c + suc m) * cap ≡ (suc c + m) * cap
length_next c m cap = ap (λ (k : ℕ). k * cap) (add-suc c m ∙ sym (suc-add c m))

room : (c m cap : ℕ) → c * cap + cap ≤ (suc c + m) * cap
room c m cap = rw (add-mul (suc c) m cap, suc-mul c cap) (le-add_right (c * cap + cap) (m * cap))

drop_next : (c cap : ℕ) (work : List ℕ) → drop cap (drop (c * cap) work) ≡ drop (suc c * cap) work
drop_next c cap work = drop-drop cap (c * cap) work ∙ ap (λ (k : ℕ). drop k work) (sym (suc-mul c cap))

module _ (cap : ℕ) (work : List ℕ) where
  columns_are : {Fs : List (ℕ → ℕ)} {c : ℕ} → Columns cap work Fs c → length work ≡ (c + length Fs) * cap → drop (c * cap) work ≡ columns_of cap Fs
  unfolding columns_of
  columns_are {c = c} end l = drop_of_length-le work {i = c * cap} (subst (λ (n : ℕ). length work ≤ n * cap) (add-zero c) (le_of_eq l))
  columns_are {Fs = F ∷ Fs} {c = c} (q then qs) l =
      let n : length work ≡ (suc c + length Fs) * cap = l ∙ length_next c (length Fs) cap in
      let b : c * cap + cap ≤ length work = subst (λ (k : ℕ). c * cap + cap ≤ k) (sym n) (room c (length Fs) cap) in
      sym (take-append-drop cap (drop (c * cap) work))
      ∙ ap (λ (w : List ℕ). w ++ drop cap (drop (c * cap) work)) (column_is b q)
      ∙ ap (λ (w : List ℕ). column_of cap F ++ w) (drop_next c cap work ∙ columns_are qs n)

  are_columns : (Fs : List (ℕ → ℕ)) (c : ℕ) → drop (c * cap) work ≡ columns_of cap Fs
      → (n : ℕ) → n < length Fs → Column (get_or Fs n (λ k. 0)) ((c + n) * cap) cap work
  unfolding columns_of
  are_columns [] c e n l = omega arith
  are_columns (F ∷ Fs) c e zero l =
      subst (λ (m : ℕ). Column F (m * cap) cap work) (sym (add-zero c)) (is_column (columns_of cap Fs) e)
  are_columns (F ∷ Fs) c e (suc n) l =
      let d : drop (suc c * cap) work ≡ columns_of cap Fs =
      sym (drop_next c cap work) ∙ ap (drop cap) e ∙ drop_at (column_of cap F) (columns_of cap Fs) cap (length_column cap F) in
      subst (λ (m : ℕ). Column (get_or Fs n (λ k. 0)) (m * cap) cap work) (suc-add c n ∙ sym (add-suc c n)) (are_columns Fs (suc c) d n (omega arith))

length_columns : (cap : ℕ) (Fs : List (ℕ → ℕ)) → length (columns_of cap Fs) ≡ length Fs * cap
unfolding columns_of
length_columns cap [] = sym (zero-mul cap)
length_columns cap (F ∷ Fs) =
    length-append (column_of cap F) (columns_of cap Fs)
    ∙ ap (λ (n : ℕ). n + length (columns_of cap Fs)) (length_column cap F)
    ∙ ap (λ (n : ℕ). cap + n) (length_columns cap Fs)
    ∙ add_comm cap (length Fs * cap)
    ∙ sym (suc-mul (length Fs) cap)

-- ---- the table

module _ (cap : ℕ) (h : History) where
  -- what the checks say of their columns, in the table's order
  in_order : (work : List ℕ) → Indexed cap h work → Columns cap work (columns cap h) 0
  unfolding columns
  in_order work i =
      let d = i.descriptors in
      let g = i.generations in
      let o = i.owners in
      let r = i.half in
      d.applied.tops then d.applied.downs
      then d.standing.tops then d.standing.downs
      then d.stated.tops then d.stated.downs
      then d.generation.tops then d.generation.downs
      then d.counts
      then i.firsts.tops then i.firsts.downs
      then g.keys.tops then g.keys.downs
      then g.written
      then i.ids.links
      then i.ids.lasts
      then o.held.tops then o.held.downs
      then o.nodes.tops then o.nodes.downs
      then o.newly
      then o.ended
      then r.servers
      then r.restated
      then r.refused
      then r.pendings
      then r.registered
      then i.meta.names
      then r.splits.tops then r.splits.downs
      then r.recordings.tops then r.recordings.downs
      then end

  -- every word of an area of 32 × C words is what C and the records taken say
  pub words_are : (work : List ℕ) → length work ≡ 32 * cap → Indexed cap h work → work ≡ work_of cap h
  unfolding columns work_of
  words_are work l i = ap (λ (n : ℕ). drop n work) (sym (zero-mul cap)) ∙ columns_are cap work (in_order work i) l

  -- so two areas of which the checks say the same are the same
  pub same_words : (work work' : List ℕ) → length work ≡ 32 * cap → length work' ≡ 32 * cap
      → Indexed cap h work → Indexed cap h work' → work ≡ work'
  same_words work work' l l' i i' = words_are work l i ∙ sym (words_are work' l' i')

  -- ---- and the other way round

  pub length_work : length (work_of cap h) ≡ 32 * cap
  unfolding columns work_of
  length_work = length_columns cap (columns cap h)

  -- the column at a place of the table
  column_at : (n : ℕ) → n < length (columns cap h) → Column (get_or (columns cap h) n (λ k. 0)) (n * cap) cap (work_of cap h)
  unfolding work_of
  column_at n l =
      subst (λ (c : ℕ). Column (get_or (columns cap h) n (λ k. 0)) (c * cap) cap (columns_of cap (columns cap h))) (zero-add n)
      (are_columns cap (columns_of cap (columns cap h)) (columns cap h) 0 (ap (λ (c : ℕ). drop c (columns_of cap (columns cap h))) (zero-mul cap)) n l)

  -- of the area that is so written every check says what it says of its columns
  pub written : Indexed cap h (work_of cap h)
  unfolding columns
  written = record {
    descriptors = record {
      applied = record { tops = column_at 0 (omega arith); downs = column_at 1 (omega arith) };
      standing = record { tops = column_at 2 (omega arith); downs = column_at 3 (omega arith) };
      stated = record { tops = column_at 4 (omega arith); downs = column_at 5 (omega arith) };
      generation = record { tops = column_at 6 (omega arith); downs = column_at 7 (omega arith) };
      counts = column_at 8 (omega arith);
    };
    firsts = record { tops = column_at 9 (omega arith); downs = column_at 10 (omega arith) };
    generations = record {
      keys = record { tops = column_at 11 (omega arith); downs = column_at 12 (omega arith) };
      written = column_at 13 (omega arith);
    };
    ids = record { links = column_at 14 (omega arith); lasts = column_at 15 (omega arith) };
    owners = record {
      held = record { tops = column_at 16 (omega arith); downs = column_at 17 (omega arith) };
      nodes = record { tops = column_at 18 (omega arith); downs = column_at 19 (omega arith) };
      newly = column_at 20 (omega arith);
      ended = column_at 21 (omega arith);
    };
    meta = record { names = column_at 27 (omega arith) };
    half = record {
      servers = column_at 22 (omega arith);
      restated = column_at 23 (omega arith);
      refused = column_at 24 (omega arith);
      pendings = column_at 25 (omega arith);
      registered = column_at 26 (omega arith);
      splits = record { tops = column_at 28 (omega arith); downs = column_at 29 (omega arith) };
      recordings = record { tops = column_at 30 (omega arith); downs = column_at 31 (omega arith) };
    };
  }

-- a record noted as the next turns the area of the records before it into that of the records with it
pub noted_words : (cap : ℕ) (h : History) (x : TraceRecord) (work' : List ℕ) → Noted cap h x (work_of cap h) work' → work' ≡ work_of cap (x ∷ h)
noted_words cap h x work' n = words_are cap (x ∷ h) work' (n.len ∙ length_work cap h) (n.indexed (written cap h))
