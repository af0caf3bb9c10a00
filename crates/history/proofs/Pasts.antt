-- Laws of walks over the records taken: what a chain gives is a record taken, and a look-back along it stands where its next record is.
use mathlib.Core.Path.{◌≡◌, refl, sym, ap, subst, ◌∙◌}
use mathlib.Core.List.{List}
use Prim.Native.Nat.{ℕ, suc, ◌+◌, ◌-◌, ◌*◌, ◌≤◌, ◌<◌}
use native.Mathlib.Omega.{arith}
use native.Mathlib.Nat.{add-mul, one-mul}
use native.Mathlib.Decide.{dec_lt}
use borrow.Author.Tests.{le-ltb, lt-ltb}
use lib.ListN.{get_or}
use Rattle.record.specs.Numbers.{part}
use Rattle.record.proofs.Numbers.{get_d_part}
use Rattle.rules.specs.History.{Tells}
use Rattle.history.specs.declared.past.Past.{Past}
use Rattle.history.specs.declared.walk.Chain.{Chain}
use Rattle.history.specs.declared.walk.Taken.{Taken}
use Rattle.history.specs.Bounds.{Bounds}
use Rattle.history.specs.Logs.{bytes_at}
use Rattle.history.specs.Columns.{Chained, clamp}
use Rattle.history.specs.Pasts.{taken, IsTaken, Begins, Goes}
use Rattle.history.proofs.Chains.{In, Stands, stands_first, stands_next}

-- what is left of a walk along a chain of the records taken
pub record OnPast (p : Past) (down : ℕ) (c : Chain) : Type 0 where
  pub log : c.log ≡ p.log
  pub links : c.links.now ≡ part (down * p.cap) ((down + 1) * p.cap) p.work.now
  pub within : c.next ≤ p.count

-- what a look-back is lent has the bounds that the definitions below ask for
pub bounds : (p : Past) → Bounds p.log.now p.work.now p.count p.cap
bounds p = record { log_holds = p.log_holds; work_holds = p.work_holds; within = p.within; positive = p.positive; small = p.small }

-- a clamped number is no greater than the top
clamp_below : (x top : ℕ) → clamp x top ≤ top
clamp_below x top =
    elim (dec_lt top x) [
      | yes l ↦ rw (lt-ltb top x l) (omega arith)
      | no l ↦ rw (le-ltb top x (omega arith)) (omega arith)
    ]

module _ {p : Past} {down : ℕ} where
  pub on_first : {tops b : ℕ} {c : Chain} → Begins p tops down b c → OnPast p down c
  on_first e = record { log = e.log; links = e.links; within = rw e.next (clamp_below _ _) }

  module _ {s t : Chain} {x : Taken} (o : OnPast p down s) (e : Goes s x t) where
    pub on_next : OnPast p down t
    on_next = record {
      log = e.log ∙ o.log;
      links = ap (λ (l : _). l.now) e.links ∙ o.links;
      within = let l : t.next ≤ s.next - 1 = rw e.next (clamp_below _ _) in omega (arith, o.within);
    }

    pub taken_on : IsTaken p x
    taken_on = record {
      some = omega (arith, e.some, e.number);
      within = omega (arith, e.number, o.within);
      bytes = e.bytes ∙ ap (λ (l : _). bytes_at (s.next - 1) l.now) o.log ∙ ap (λ (n : ℕ). bytes_at (n - 1) p.log.now) (sym e.number);
    }

    -- the word of the link is that of the column
    link_word : s.next ≤ p.cap → get_or s.links.now (s.next - 1) 0 ≡ get_or p.work.now (down * p.cap + (s.next - 1)) 0
    link_word l =
        let k : down * p.cap + (s.next - 1) - down * p.cap ≡ s.next - 1 = omega arith in
        ap (λ (w : List ℕ). get_or w (s.next - 1) 0) o.links
        ∙ ap (λ (i : ℕ). get_or (part (down * p.cap) ((down + 1) * p.cap) p.work.now) i 0) (sym k)
        ∙ get_d_part (down * p.cap) ((down + 1) * p.cap) (down * p.cap + (s.next - 1)) p.work.now (omega arith) (rw (add-mul, one-mul) (omega (arith, l, e.some)))

-- the next record's number, by the word of the column
pub next_word : {p : Past} {down : ℕ} {s t : Chain} {x : Taken} → OnPast p down s → Goes s x t
    → t.next ≡ clamp (get_or p.work.now (down * p.cap + (s.next - 1)) 0) (s.next - 1)
next_word {p} {s = s} o e = e.next ∙ ap (λ (n : ℕ). clamp n (s.next - 1)) (link_word o e (omega (arith, o.within, p.within)))

-- in a turn: the record at hand is of the bucket, and x is still g up to it
pub record AtTurn {A : Type 0} (f : Tells ℕ) (b : ℕ) (log : List ℕ) (g : ℕ → A) (x : A) (y : Taken) : Type 0 where
  pub here : In f b log (y.number - 1)
  pub same : x ≡ g y.number

pub along_turn : {A : Type 0} {f : Tells ℕ} {b : ℕ} {log : List ℕ} {g : ℕ → A} {x : A} {s t : Chain} {y : Taken} → Goes s y t
    → Stands f b log g x s.next → AtTurn f b log g x y
along_turn {f = f} {b = b} {log = log} {g = g} e w = record {
  here = subst (λ (n : ℕ). In f b log (n - 1)) (sym e.number) (w.here e.some);
  same = w.same ∙ ap g (sym e.number);
}

-- a look-back g that the records outside the bucket leave as it is, along the bucket's chain
module _ {A : Type 0} {f : Tells ℕ} {p : Past} {down b : ℕ} (g : ℕ → A)
    (skip : (k : ℕ) → (In f b p.log.now k → ⊥) → g (suc k) ≡ g k) {heads : ℕ} (c : Chained f heads (down * p.cap) p.cap (taken p) p.work.now) where
  pub along_first : {tops : ℕ} {x : A} {s : Chain} → heads ≡ tops * p.cap → b < p.cap → x ≡ g p.count → Begins p tops down b s
      → Stands f b p.log.now g x s.next
  along_first {tops} h l y e = stands_first g skip c l y (ap (λ (i : ℕ). i + b) (sym h)) e.next

  -- the look-back may be another than before the turn, as where it has the best so far beside it
  pub along_next : {h : ℕ → A} {x z : A} {s t : Chain} {y : Taken} → OnPast p down s → Goes s y t → Stands f b p.log.now h z s.next
      → x ≡ g (y.number - 1) → Stands f b p.log.now g x t.next
  along_next {s = s} o e w q =
      stands_next g skip c (omega (arith, e.some, o.within)) p.within (w.here e.some) (q ∙ ap (λ (n : ℕ). g (n - 1)) e.number) refl
      (next_word o e)
