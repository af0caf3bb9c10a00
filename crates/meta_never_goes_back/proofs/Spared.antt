-- Where no name can be in conflict with a new one, or one covers it, there is no faulty key: so most walks are spared. A scan of the
-- names for one that passes a test.
use Rattle.std.specs.Prelude.{None}
use mathlib.Core.Path.{◌≡◌, refl, sym, ap, ◌∙◌}
use mathlib.Core.Bool.{Bool, true, false, cond, ◌||◌, not, ◌&&◌}
use mathlib.Core.List.{List, ◌∷◌}
use Prim.Native.Nat.{ℕ, ◌-◌, ◌<◌}
use lib.Dec.{ltb, leb}
use borrow.Author.Tests.{not-true, ltb-true, ltb-false, lt-ltb, le-ltb, leb-true, le-leb, lt-leb}
use Rattle.record.specs.Keys.{Key, key_ltb, Lt, Le}
use Rattle.record.specs.Records.{TraceRecord}
use Rattle.record.proofs.Keys.{le_lt_lt}
use Rattle.rules.specs.Cases.{is_fault, fault_if, Case}
use Rattle.rules.specs.Descriptors.{span_of}
use Rattle.rules.specs.History.{History, any_of}
use Rattle.rules.specs.MetaNeverGoesBack.{Name, is_won, covers, name_fault, won_fault, names}
use Rattle.record.proofs.Booleans.{and_left, and_right}
use Rattle.rules.proofs.Members.{Mem, here, there, any_of_mem, any_of_none}
use Rattle.rules.proofs.MetaHighest.{covered_low, covered_high, Passes, covered_clear}
use Rattle.rules.proofs.MetaLeast.{names_clear}
use Rattle.rules.proofs.Skips.{any_of_nil, any_of_skip}
use Rattle.history.specs.declared.past.Past.{Past}
use Rattle.history.specs.declared.walk.Taken.{Taken}
use Rattle.history.specs.Logs.{record_at, hist}
use Rattle.meta_never_goes_back.specs.declared.names.Names.{Names}
use Rattle.meta_never_goes_back.specs.Columns.{surpasses, MetaIndexed, name_before}
use Rattle.meta_never_goes_back.specs.Walk.{named_by, NameGoes, against, meets, opposes, not_lower, contains, covers_all}
use Rattle.meta_never_goes_back.proofs.Naming.{Down, first_down, name_left, next_down, names_end}

-- a name is at fault by its numbers
by_tests : (l g h : Bool) (c d : Case) → is_fault c ≡ true → is_fault d ≡ true
    → is_fault (cond l (fault_if g c) (fault_if h d)) ≡ ((l && g) || (not l && h))
by_tests true true h c d e f = e
by_tests true false h c d e f = refl
by_tests false g true c d e f = f
by_tests false g false c d e f = refl

not_lower_lem : (a b : ℕ) → leb b a ≡ not (ltb a b)
not_lower_lem a b = go (ltb a b) refl
  where
    go : (t : Bool) → ltb a b ≡ t → leb b a ≡ not t
    go true e = lt-leb b a (ltb-true a b e)
    go false e = le-leb b a (ltb-false a b e)

fault_against : (x : TraceRecord) (n : Name) → is_fault (name_fault x n) ≡ against x n
fault_against x n =
    by_tests (ltb n.index x.b) (ltb x.d n.generation) (ltb n.generation x.d) _ _ refl refl
    ∙ rw (sym (not_lower_lem n.index x.b))

-- a name of a won key meets the won span
does_meet : (x : TraceRecord) (n : Name) (k : Key) → Le (span_of 1 x).start k → Lt k (span_of 1 x).end → covers k n ≡ true → meets x n ≡ true
does_meet x n k a b h = rw ((le_lt_lt (covered_low k n h) b).is, (le_lt_lt a (covered_high k n h)).is)

-- a name that a new one surpasses does not oppose it
pub surpassed_clear : (x : TraceRecord) (n : Name) → surpasses x n ≡ true → opposes x n ≡ false
surpassed_clear x n e =
    let i = ltb-true n.index x.b (and_left (ltb n.index x.b) (leb n.generation x.d) e) in
    let g = leb-true n.generation x.d (and_right (ltb n.index x.b) (leb n.generation x.d) e) in
    rw (lt-ltb n.index x.b i, le-ltb x.d n.generation g, lt-leb x.b n.index i)

drop_meets : (a m : Bool) → (a && m) ≡ false → m ≡ true → a ≡ false
drop_meets true m e f = sym f ∙ e
drop_meets false m e f = refl

pub spared : (x : TraceRecord) (ns : List Name) → any_of (opposes x) ns ≡ false → won_fault x ns ≡ None
spared x ns e =
    names_clear x ns
    (λ k a b n m c. fault_against x n ∙ drop_meets (against x n) (meets x n) (any_of_none (opposes x) ns e n m) (does_meet x n k a b c))

-- where an earlier name covers the new one, neither
module _ (x : TraceRecord) (o : Name) (e : covers_all x o ≡ true) where
  numbers : not_lower x o ≡ true
  numbers = and_left (not_lower x o) (contains x o) e

  keys : contains x o ≡ true
  keys = and_right (not_lower x o) (contains x o) e

  pub spared_covered : (h : History) → Passes h → Mem o (names h) → won_fault x (names h) ≡ None
  spared_covered h p i =
      covered_clear x h p i
      (leb-true x.b o.index (and_left (leb x.b o.index) (leb x.d o.generation) numbers))
      (leb-true x.d o.generation (and_right (leb x.b o.index) (leb x.d o.generation) numbers))
      (record { is = not-true _ (and_left (not (key_ltb (span_of 1 x).start o.start)) (not (key_ltb o.end (span_of 1 x).end)) keys) })
      (record { is = not-true _ (and_right (not (key_ltb (span_of 1 x).start o.start)) (not (key_ltb o.end (span_of 1 x).end)) keys) })

-- ---- a scan of the names, newest first

-- of the names of the first n records those before place i are left, the next of them that of the record there; by those that were
-- passed over none passes the test
pub record Passed (test : Name → Bool) (log : List ℕ) (n i : ℕ) : Type 0 where
  pub here : 0 < i → is_won (record_at log (i - 1)) ≡ true
  pub same : any_of test (names (hist log n)) ≡ any_of test (names (hist log i))
  pub among : (o : Name) → Mem o (names (hist log i)) → Mem o (names (hist log n))

module _ {test : Name → Bool} {log : List ℕ} {n : ℕ} where
  passed_first : {i : ℕ} → Down log n i → Passed test log n i
  passed_first d = record { here = d.here; same = ap (any_of test) d.same; among = λ o m. rw d.same m }

  pub passed_end : {i : ℕ} → i ≡ 0 → Passed test log n i → any_of test (names (hist log n)) ≡ false
  passed_end e w = w.same ∙ ap (any_of test) (names_end log e) ∙ any_of_nil test

-- at first all are left
pub scan_first : (test : Name → Bool) {p : Past} {s t : Names} → s ≡ t → t.past ≡ p → t.next ≡ name_before p.cap p.work.now p.count
    → (s.past ≡ p) × (MetaIndexed p.cap (hist p.log.now p.count) p.work.now → Passed test p.log.now p.count s.next)
scan_first test {p} e o n = (ap (λ (u : Names). u.past) e ∙ o, λ k. passed_first (first_down p k (ap (λ (u : Names). u.next) e ∙ n)))

module _ {test : Name → Bool} {p : Past} {s t : Names} {y : Taken} (o : s.past ≡ p) (g : NameGoes s y t) (w : Passed test p.log.now p.count s.next) where
  pub left : names (hist p.log.now s.next) ≡ named_by y ∷ names (hist p.log.now (s.next - 1))
  left = name_left o g (w.here g.some)

  pub passed_by : test (named_by y) ≡ false → MetaIndexed p.cap (hist p.log.now p.count) p.work.now → Passed test p.log.now p.count t.next
  passed_by q c =
      let d = next_down o g c in
      record {
        here = d.here;
        same = w.same ∙ ap (any_of test) left ∙ any_of_skip test (named_by y) _ q ∙ ap (any_of test) d.same;
        among = λ n m. w.among n (let k : Mem n (names (hist p.log.now (s.next - 1))) = rw d.same m in rw left (there k));
      }

  -- one that passes; and the last of them, before which there is none that does
  pub passes_here : test (named_by y) ≡ true → any_of test (names (hist p.log.now p.count)) ≡ true
  passes_here q = w.same ∙ ap (any_of test) left ∙ any_of_mem test here q

  pub passed_last : test (named_by y) ≡ false → any_of test (names (hist p.log.now (y.number - 1))) ≡ false
      → any_of test (names (hist p.log.now p.count)) ≡ false
  passed_last q e =
      w.same ∙ ap (any_of test) left ∙ any_of_skip test (named_by y) _ q
      ∙ ap (λ (n : ℕ). any_of test (names (hist p.log.now (n - 1)))) (sym g.number) ∙ e

  pub passed_mem : Mem (named_by y) (names (hist p.log.now p.count))
  passed_mem = w.among (named_by y) (rw left here)
