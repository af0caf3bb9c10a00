-- To surpass is transitive: where a new name surpasses a marked one, it surpasses all those before it; and when a name is marked.
use mathlib.Core.Path.{◌≡◌, sym, ap, ◌∙◌}
use mathlib.Core.Bool.{Bool, true, false, not}
use Prim.Native.Nat.{◌+◌, ◌-◌, ◌*◌, ◌≤◌, ◌<◌}
use lib.ListN.{get_or}
use native.Mathlib.Omega.{arith}
use lib.Dec.{ltb, leb}
use borrow.Author.Tests.{not-true, not-false, ltb-true, lt-ltb, leb-true, le-leb}
use Rattle.record.specs.Records.{TraceRecord}
use Rattle.rules.specs.History.{History, any_of}
use Rattle.rules.specs.MetaNeverGoesBack.{Name, is_won, name_by, names}
use Rattle.record.proofs.Booleans.{and_left, and_right, both}
use Rattle.rules.proofs.Members.{Mem, any_of_none, none_any_of}
use Rattle.history.specs.declared.past.Past.{Past}
use Rattle.history.specs.declared.walk.Taken.{Taken}
use Rattle.history.specs.Logs.{record_at, hist}
use Rattle.history.specs.Pasts.{IsTaken}
use Rattle.history.specs.Places.{latest_name}
use Rattle.history.proofs.Logs.{record_bytes}
use Rattle.meta_never_goes_back.specs.Columns.{surpasses, unsurpassed, is_highest, MetaIndexed}
use Rattle.meta_never_goes_back.specs.Walk.{named_by, opposes}
use Rattle.meta_never_goes_back.proofs.Naming.{marked_highest}
use Rattle.meta_never_goes_back.proofs.Spared.{surpassed_clear}

-- ---- to surpass is transitive

module _ (x : TraceRecord) (n : Name) (e : surpasses x n ≡ true) where
  above : n.index < x.b
  above = ltb-true n.index x.b (and_left (ltb n.index x.b) (leb n.generation x.d) e)

  not_below_lem : n.generation ≤ x.d
  not_below_lem = leb-true n.generation x.d (and_right (ltb n.index x.b) (leb n.generation x.d) e)

surpasses_both : (x y : TraceRecord) (n : Name) → surpasses x (name_by y) ≡ true → surpasses y n ≡ true → surpasses x n ≡ true
surpasses_both x y n p q =
    let i = above x (name_by y) p in
    let j = above y n q in
    let g = not_below_lem x (name_by y) p in
    let h = not_below_lem y n q in
    both (lt-ltb n.index x.b (omega arith)) (le-leb n.generation x.d (omega arith))

-- a marked name surpasses those before it, and so does one that surpasses it
module _ (x y : TraceRecord) (h : History) (e : is_highest y h ≡ true) (p : surpasses x (name_by y) ≡ true) where
  older_none : any_of (unsurpassed y) (names h) ≡ false
  unfolding is_highest
  older_none = not-true _ (and_right (is_won y) (not (any_of (unsurpassed y) (names h))) e)

  older : (n : Name) → Mem n (names h) → surpasses x n ≡ true
  older n m = surpasses_both x y n p (not-false _ (any_of_none (unsurpassed y) (names h) older_none n m))

  older_surpassed : any_of (unsurpassed x) (names h) ≡ false
  older_surpassed = none_any_of (unsurpassed x) (names h) (λ n m. ap not (older n m))

  older_clear : any_of (opposes x) (names h) ≡ false
  older_clear = none_any_of (opposes x) (names h) (λ n m. surpassed_clear x n (older n m))

-- so past a marked name that a new one surpasses there is none that it does not, and none that opposes it
module _ (x : TraceRecord) {p : Past} {y : Taken} (t : IsTaken p y) (c : MetaIndexed p.cap (hist p.log.now p.count) p.work.now)
    (m : leb 8192 (get_or p.work.now (latest_name * p.cap + (y.number - 1)) 0) ≡ true) (e : surpasses x (named_by y) ≡ true) where
  at_place : surpasses x (name_by (record_at p.log.now (y.number - 1))) ≡ true
  at_place = ap (λ (z : TraceRecord). surpasses x (name_by z)) (sym (record_bytes p.log.now (y.number - 1) t.bytes)) ∙ e

  pub marked_surpassed : any_of (unsurpassed x) (names (hist p.log.now (y.number - 1))) ≡ false
  marked_surpassed = older_surpassed x (record_at p.log.now (y.number - 1)) (hist p.log.now (y.number - 1)) (marked_highest t c m) at_place

  pub marked_clear : any_of (opposes x) (names (hist p.log.now (y.number - 1))) ≡ false
  marked_clear = older_clear x (record_at p.log.now (y.number - 1)) (hist p.log.now (y.number - 1)) (marked_highest t c m) at_place

-- ---- when the mark is set

-- a record that names is the highest where no name is left that it does not surpass
pub highest_is : (x : TraceRecord) (h : History) {b : Bool} → is_won x ≡ true → any_of (unsurpassed x) (names h) ≡ b → not b ≡ is_highest x h
unfolding is_highest
highest_is x h e q = sym (rw (e, q))

pub highest_not : (x : TraceRecord) (h : History) → is_won x ≡ false → false ≡ is_highest x h
unfolding is_highest
highest_not x h e = rw e
