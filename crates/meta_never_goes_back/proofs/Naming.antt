-- Laws of the names: the column leads from each name to the one before it, and one more record keeps it right.
use mathlib.Core.Path.{◌≡◌, refl, sym, ap, ◌∙◌}
use mathlib.Core.Bool.{Bool, true, false, cond}
use mathlib.Core.List.{List, [], ◌∷◌}
use Rattle.std.specs.Prelude.{Some}
use Prim.Native.Nat.{ℕ, suc, ◌+◌, ◌-◌, ◌*◌, ◌%◌, ◌≤◌, ◌<◌}
use native.Mathlib.Decide.{ℕ_discrete}
use native.Mathlib.Omega.{arith}
use lib.Dec.{eqb, leb}
use lib.ListN.{length, get_or}
use borrow.Author.Tests.{eq-eqb, ne_eqb, leb-true}
use Rattle.record.specs.Records.{TraceRecord}
use Rattle.record.proofs.Booleans.{none_some}
use Rattle.rules.specs.History.{History, when, holds}
use Rattle.rules.specs.MetaNeverGoesBack.{is_won, name_by, names}
use Rattle.rules.proofs.MetaHighest.{names_skip}
use Rattle.history.specs.Columns.{latest_in, clamp, Put}
use Rattle.history.specs.declared.past.Past.{Past}
use Rattle.history.specs.declared.walk.Taken.{Taken}
use Rattle.history.specs.Logs.{bytes_at, record_at, hist}
use Rattle.history.specs.Pasts.{IsTaken}
use Rattle.history.specs.Places.{latest_name}
use Rattle.history.proofs.Cells.{cell_at, cell_new, Same, column_agrees, column_put, Zeros, column_clear}
use Rattle.history.proofs.Chains.{In, latest_here, latest_else, latest_in_lem, skip, clamped}
use Rattle.history.proofs.Logs.{record_bytes, hist_none, hist_length, hist_less}
use Rattle.rules.proofs.Tellings.{when_holds}
use Rattle.history.proofs.Walks.{look_outside, told_found, told_end}
use Rattle.meta_never_goes_back.specs.declared.names.Names.{Names}
use Rattle.meta_never_goes_back.specs.Walk.{named_by, NameGoes}
use Rattle.meta_never_goes_back.specs.Columns.{name_bucket, last_name, is_highest, name_as_of, MetaIndexed, name_before, MetaNoted}

-- ---- the column

-- no number is above that of the newest record
latest_step : (b : Bool) (n m : ℕ) → m ≤ n → cond b (suc n) m ≤ suc n
latest_step true n m l = omega arith
latest_step false n m l = omega arith

latest_length : (h : History) → last_name h ≤ length h
unfolding latest_in
latest_length [] = omega arith
latest_length (x ∷ h) = latest_step (holds (eqb 0) (name_bucket x h)) (length h) (last_name h) (latest_length h)

latest_none : last_name [] ≡ 0
unfolding latest_in
latest_none = refl

-- a word without its mark
word_rest : (m : ℕ) (b : Bool) → m ≤ 4096 → (m + cond b 8192 0) % 8192 ≡ m
word_rest m true l = omega arith
word_rest m false l = omega arith

module _ (cap : ℕ) (work : List ℕ) where
  word_some : {k : ℕ} → (k ≡ 0 → ⊥) → name_before cap work k ≡ clamp (get_or work (latest_name * cap + (k - 1)) 0 % 8192) k
  unfolding name_before
  word_some {k} n = rw (ne_eqb k 0 n)

  word_none : {k : ℕ} → k ≡ 0 → name_before cap work k ≡ 0
  unfolding name_before
  word_none {k} e = rw (eq-eqb k 0 e)

  word_is : {k m : ℕ} (b : Bool) → 0 < k → k ≤ 4096 → get_or work (latest_name * cap + (k - 1)) 0 ≡ m + cond b 8192 0 → m ≤ k → name_before cap work k ≡ m
  word_is {k} {m} b l s e u =
      word_some (λ z. omega arith) ∙ clamped (get_or work (latest_name * cap + (k - 1)) 0 % 8192) m k
      (ap (λ (w : ℕ). w % 8192) e ∙ word_rest m b (omega arith)) u

  -- the word before a place is the number of the latest name before it
  pub before_is : (log : List ℕ) (n : ℕ) {k : ℕ} → MetaIndexed cap (hist log n) work → k ≤ n → n ≤ cap → cap ≤ 4096
      → name_before cap work k ≡ last_name (hist log k)
  before_is log n {k} c l m s =
      elim (ℕ_discrete k 0) [
        | yes e ↦ word_none e ∙ sym latest_none ∙ ap last_name (sym (hist_none log) ∙ ap (hist log) (sym e))
        | no e ↦
            let p : 0 < k = omega arith in
            word_is (is_highest (record_at log (k - 1)) (hist log (k - 1))) p (omega arith)
            (c.names.word (k - 1) (omega arith) ∙ cell_at name_as_of log n (k - 1) (omega arith)
            ∙ ap (λ (h : History). last_name h + cond (is_highest (record_at log (k - 1)) (hist log (k - 1))) 8192 0) (sym (hist_less log k p)))
            (omega (arith, latest_length (hist log k), hist_length log k))
      ]

  -- the same of any history, at its end
  before_new : (h : History) → MetaIndexed cap h work → length h ≤ cap → cap ≤ 4096 → name_before cap work (length h) ≡ last_name h
  before_new [] c l s = word_none refl ∙ sym latest_none
  before_new (x ∷ h) c l s =
      let e : suc (length h) - 1 ≡ length h = omega arith in
      word_is (is_highest x h) (omega arith) (omega arith)
      (ap (λ (j : ℕ). get_or work (latest_name * cap + j) 0) e ∙ c.names.word (length h) (omega arith) ∙ cell_new name_as_of x h)
      (latest_length (x ∷ h))

-- ---- the mark

marked_go : (m : ℕ) (b : Bool) → m ≤ 4096 → leb 8192 (m + cond b 8192 0) ≡ true → b ≡ true
marked_go m true l h = refl
marked_go m false l h = absurd (omega (arith, leb-true 8192 (m + 0) h))

-- a marked record names, and surpasses every earlier name
pub marked_highest : {p : Past} {y : Taken} → IsTaken p y → MetaIndexed p.cap (hist p.log.now p.count) p.work.now
    → leb 8192 (get_or p.work.now (latest_name * p.cap + (y.number - 1)) 0) ≡ true
    → is_highest (record_at p.log.now (y.number - 1)) (hist p.log.now (y.number - 1)) ≡ true
marked_highest {p} {y} t c h =
    let k = y.number - 1 in
    let x = record_at p.log.now k in
    let older = hist p.log.now k in
    let word : get_or p.work.now (latest_name * p.cap + k) 0 ≡ name_as_of x older =
    c.names.word k (omega (arith, t.some, t.within, p.within)) ∙ cell_at name_as_of p.log.now p.count k (omega (arith, t.some, t.within)) in
    marked_go (last_name (x ∷ older)) (is_highest x older)
    (omega (arith, latest_length (x ∷ older), hist_length p.log.now k, t.some, t.within, p.within, p.small))
    (ap (leb 8192) (sym word) ∙ h)

-- ---- one more record

latest_won : (x : TraceRecord) (h : History) → is_won x ≡ true → last_name (x ∷ h) ≡ suc (length h)
unfolding name_bucket
latest_won x h e = latest_here name_bucket 0 x h (rw e)

latest_kept : (x : TraceRecord) (h : History) → is_won x ≡ false → last_name (x ∷ h) ≡ last_name h
unfolding name_bucket
latest_kept x h e = latest_else name_bucket 0 x h (λ q. none_some (sym (rw e) ∙ q))

noted_word : {cap n v : ℕ} {work : List ℕ} (x : TraceRecord) (h : History) → v ≡ cond (is_won x) (n + 1) (name_before cap work n) → length h ≡ n → n ≤ cap
    → cap ≤ 4096 → MetaIndexed cap h work → (b : Bool) → is_won x ≡ b → v ≡ last_name (x ∷ h)
noted_word {n = n} x h e l m s c true q = e ∙ rw q (omega (arith, latest_won x h q))
noted_word {cap} {n} {v} {work} x h e l m s c false q =
    e ∙ rw q (ap (name_before cap work) (sym l) ∙ before_new cap work h c (omega arith) s ∙ sym (latest_kept x h q))

pub noted : {cap n at v w : ℕ} {t : Bool} {x : TraceRecord} {h : History} {work work' : List ℕ} → length h ≡ n → n < cap → cap ≤ 4096
    → at ≡ latest_name * cap + n → v ≡ cond (is_won x) (n + 1) (name_before cap work n) → (MetaIndexed cap h work → t ≡ is_highest x h)
    → w ≡ v + cond t 8192 0 → Put work work' at w → MetaNoted cap h x work work'
noted {cap = cap} {x = x} {h = h} k l s a e f g p = record {
  len = p.len;
  others = λ j m. p.others j (λ q. m (q ∙ a ∙ ap (λ (i : ℕ). latest_name * cap + i) (sym k)));
  indexed = λ c. record {
    names = column_put name_as_of h x c.names k a
        (g ∙ rw (noted_word x h e k (omega arith) s c (is_won x) refl, f c)) p;
  };
}

-- the column is told by its own words, and is 0 where there is no record
pub indexed_agrees : {cap : ℕ} {h : History} {work work' : List ℕ} → Same (latest_name * cap) cap work work' → MetaIndexed cap h work → MetaIndexed cap h work'
indexed_agrees s c = record { names = column_agrees s c.names }

pub indexed_clear : {cap : ℕ} {work : List ℕ} → Zeros work → MetaIndexed cap [] work
indexed_clear z = record { names = column_clear name_as_of z }

-- ---- the list of names, one name at a time

names_kept : (x : TraceRecord) (h : History) → (name_bucket x h ≡ Some 0 → ⊥) → names (x ∷ h) ≡ names h
unfolding name_bucket
names_kept x h n = go (is_won x) refl
  where
    go : (b : Bool) → is_won x ≡ b → names (x ∷ h) ≡ names h
    go true e = absurd (n (rw e))
    go false e = names_skip x h e

-- what is left of the names of the first k records from the name before place i on: it is one, if there is a record, and
-- there is none between
pub record Down (log : List ℕ) (k i : ℕ) : Type 0 where
  pub here : 0 < i → is_won (record_at log (i - 1)) ≡ true
  pub same : names (hist log k) ≡ names (hist log i)

in_won : (log : List ℕ) (k : ℕ) → In name_bucket 0 log k → is_won (record_at log k) ≡ true
unfolding name_bucket
in_won log k e = when_holds (is_won (record_at log k)) 0 e

down_latest : (log : List ℕ) (k : ℕ) → Down log k (last_name (hist log k))
down_latest log k = record {
  here = λ l. in_won log _ (latest_in_lem name_bucket 0 log k l);
  same = skip name_bucket 0 log (λ (j : ℕ). names (hist log j)) (look_outside names name_bucket 0 log names_kept) k;
}

pub down : {work : List ℕ} {k i cap : ℕ} (log : List ℕ) (n : ℕ) → MetaIndexed cap (hist log n) work → k ≤ n → n ≤ cap → cap ≤ 4096 → i ≡ name_before cap work k
    → Down log k i
down {work} {k} {i} {cap} log n c l m s e = let q : i ≡ last_name (hist log k) = e ∙ before_is cap work log n c l m s in rw q (down_latest log k)

pub names_more : (log : List ℕ) {i : ℕ} → 0 < i → is_won (record_at log (i - 1)) ≡ true
    → names (hist log i) ≡ name_by (record_at log (i - 1)) ∷ names (hist log (i - 1))
unfolding names
names_more log l e = told_found (λ (y : TraceRecord) (_ : History). when (is_won y) (name_by y)) log l (rw e)

pub names_end : (log : List ℕ) {i : ℕ} → i ≡ 0 → names (hist log i) ≡ []
unfolding names
names_end log e = told_end (λ (y : TraceRecord) (_ : History). when (is_won y) (name_by y)) log e

-- ---- a walk along the names

module _ {p : Past} {s t : Names} {y : Taken} (o : s.past ≡ p) (g : NameGoes s y t) where
  pub name_taken : IsTaken p y
  name_taken = record {
    some = omega (arith, g.some, g.number);
    within = let l : s.next ≤ p.count = rw o at s.within in omega (arith, g.number);
    bytes = g.bytes ∙ ap (λ (q : Past). bytes_at (s.next - 1) q.log.now) o ∙ ap (λ (n : ℕ). bytes_at (n - 1) p.log.now) (sym g.number);
  }

  pub next_past : t.past ≡ p
  next_past = g.past ∙ o

  -- the names that are left are this one and those before it
  pub name_left : is_won (record_at p.log.now (s.next - 1)) ≡ true
      → names (hist p.log.now s.next) ≡ named_by y ∷ names (hist p.log.now (s.next - 1))
  name_left w =
      names_more p.log.now g.some w
      ∙ ap (λ (z : TraceRecord). name_by z ∷ names (hist p.log.now (s.next - 1)))
      (sym (record_bytes p.log.now (s.next - 1) (g.bytes ∙ ap (λ (q : Past). bytes_at (s.next - 1) q.log.now) o)))

  pub next_down : MetaIndexed p.cap (hist p.log.now p.count) p.work.now → Down p.log.now (s.next - 1) t.next
  next_down c =
      let l : s.next ≤ p.count = rw o at s.within in
      down p.log.now p.count c (omega arith) p.within p.small (g.next ∙ ap (λ (q : Past). name_before q.cap q.work.now (s.next - 1)) o)

pub first_down : (p : Past) {i : ℕ} → MetaIndexed p.cap (hist p.log.now p.count) p.work.now → i ≡ name_before p.cap p.work.now p.count
    → Down p.log.now p.count i
first_down p c e = down p.log.now p.count c (omega arith) p.within p.small e
