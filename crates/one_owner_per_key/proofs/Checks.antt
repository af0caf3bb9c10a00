-- Laws of what the checks look up, one for each way that the code can go.
use mathlib.Core.Path.{◌≡◌, refl, sym, ap, ◌∙◌}
use mathlib.Core.Bool.{Bool, true, false, cond, not, ◌&&◌, ◌||◌}
use Rattle.std.specs.Prelude.{Option, None, Some, MatchOption}
use Prim.Native.Nat.{ℕ, suc, ◌+◌, ◌-◌, ◌*◌}
use native.Mathlib.Omega.{arith}
use lib.ListN.{length}
use lib.Dec.{eqb, ltb}
use borrow.Author.Tests.{le-ltb, ne_eqb}
use Rattle.record.specs.declared.named.NodeId.{NodeId}
use Rattle.record.specs.Records.{Span, TraceRecord, decode}
use Rattle.std.proofs.lemmas.Map.Entries.{option_filter}
use Rattle.history.specs.declared.past.Past.{Past}
use Rattle.history.specs.declared.walk.Taken.{Taken}
use Rattle.history.specs.Pasts.{IsTaken, IsFound, number_of}
use Rattle.history.proofs.Logs.{record_bytes}
use Rattle.rules.specs.History.{History, is_kind, is_by, is_some, holds}
use Rattle.rules.specs.Descriptors.{span_of}
use Rattle.rules.specs.OneOwnerPerKey.{is_holding, hold_of, has_hold}
use Rattle.history.specs.Logs.{record_at, hist}
use Rattle.one_owner_per_key.specs.Numbers.{ends_all, latest_end, latest_hold, hold_number, latest_newly}
use Rattle.one_owner_per_key.specs.Columns.{bit, newly_cell, ended_cell}
use Rattle.rules.proofs.Marks.{by_itself}
use Rattle.one_owner_per_key.proofs.Latest.{number_step}
use Rattle.one_owner_per_key.proofs.Holds.{span_by, held_span, held_some, held_if, held_by_ends}
use Rattle.one_owner_per_key.proofs.AsOf.{newly_cell_lem, ended_cell_lem}

-- ---- what is held, by the latest that says so

-- the code's test of it
abbrev pub after : ℕ → Taken → Bool
after ended y = ltb ended y.number && is_holding (decode y.record.now)

module _ (p : Past) where
  after_is : (ended : ℕ) (y : Taken) → IsTaken p y → number_of (option_filter (after ended) (Some y)) ≡ held_if p.log.now ended y.number
  after_is ended y t = go (ltb ended y.number) (is_holding (decode y.record.now)) (ap (λ (x : TraceRecord). is_holding x) (record_bytes p.log.now (y.number - 1) t.bytes))
    where
      go : (t u : Bool) → u ≡ is_holding (record_at p.log.now (y.number - 1))
          → number_of (cond (t && u) (Some y) None) ≡ cond t (cond (is_holding (record_at p.log.now (y.number - 1))) y.number 0) 0
      go false u e = refl
      go true true e = rw (← e)
      go true false e = rw (← e)

  held_filter : (ended : ℕ) (o : Option Taken) → IsFound p o → number_of (option_filter (after ended) o) ≡ held_if p.log.now ended (number_of o)
  held_filter ended None t = rw (le-ltb ended 0 (omega arith))
  held_filter ended (Some y) t = after_is ended y t

  pub held_number : (node range n : ℕ) {ended : ℕ} (o : Option Taken) {r : Option Taken} → IsFound p o → number_of o ≡ latest_hold node range (hist p.log.now n)
      → ended ≡ latest_end node (hist p.log.now n) → r ≡ option_filter (after ended) o → number_of r ≡ hold_number node range (hist p.log.now n)
  held_number node range n {ended} o f ek ee e =
      ap number_of e ∙ held_filter ended o f ∙ rw (ek, ee) (sym (held_by_ends node range p.log.now n))

-- ---- what was found

-- a number is one of a record found
pub some_number : (p : Past) (o : Option Taken) → IsFound p o → is_some o ≡ not (eqb (number_of o) 0)
some_number p None t = refl
some_number p (Some y) t = let z : y.number ≡ 0 → ⊥ = λ q. omega (arith, t.some) in rw (ne_eqb y.number 0 z)

module _ (p : Past) (node range n : ℕ) (o : Option Taken) (t : IsFound p o) (e : number_of o ≡ hold_number node range (hist p.log.now n)) where
  -- a range is held where its hold is found
  pub held_found : has_hold node range (hist p.log.now n) ≡ is_some o
  held_found = held_some node range (hist p.log.now n) ∙ ap (λ (k : ℕ). not (eqb k 0)) (sym e) ∙ sym (some_number p o t)

  pub held_none : {t : Bool} → is_some o ≡ not t → t ≡ not (has_hold node range (hist p.log.now n))
  held_none {t} q = go t (sym (held_found ∙ q))
    where
      go : (t : Bool) → not t ≡ has_hold node range (hist p.log.now n) → t ≡ not (has_hold node range (hist p.log.now n))
      go true e = rw (← e)
      go false e = rw (← e)

  -- ---- a span that meets the one held

  pub met_is : (m : Span → Bool) (r : Bool) {Gives : Taken → Type 0} → ((y : Taken) → Gives y → r ≡ m (span_of 0 (decode y.record.now)))
      → MatchOption o (r ≡ false) Gives → r ≡ holds m (hold_of node range (hist p.log.now n))
  met_is m r {Gives} calls g = go o t g (ap (span_by p.log.now) e ∙ held_span node range p.log.now n)
    where
      go : (o : Option Taken) → IsFound p o → MatchOption o (r ≡ false) Gives → span_by p.log.now (number_of o) ≡ hold_of node range (hist p.log.now n) → r ≡ holds m (hold_of node range (hist p.log.now n))
      go None t g s = g ∙ ap (holds m) s
      go (Some y) t g s =
          let z : y.number ≡ 0 → ⊥ = λ q. omega (arith, t.some) in
          let q : Some (span_of 0 (record_at p.log.now (y.number - 1))) ≡ hold_of node range (hist p.log.now n) = rw (ne_eqb y.number 0 z) at s in
          calls y g ∙ ap (λ (x : TraceRecord). m (span_of 0 x)) (record_bytes p.log.now (y.number - 1) t.bytes) ∙ ap (holds m) q

-- ---- the cells

module _ (n : NodeId) (x : TraceRecord) (h : History) (m : x.node ≡ Some n) where
  is_marked : is_by n.0 x ≡ true
  is_marked = by_itself n x m

  pub newly_word : {w b : ℕ} → w ≡ latest_newly n.0 h → b ≡ bit (is_holding x && not (has_hold n.0 x.a h)) → 2 * w + b ≡ newly_cell x h
  newly_word {w} {b} ew eb = sym (newly_cell_lem n.0 x h is_marked ∙ rw (← ew, is_marked, ← eb))

  pub ended_word : {count e w : ℕ} → length h ≡ count → e ≡ latest_end n.0 h → w ≡ cond (is_kind 6 x || is_kind 10 x) (count + 1) e → w ≡ ended_cell x h
  ended_word {count} {e} {w} l ee ew =
      let s : suc (length h) ≡ count + 1 = omega arith in
      ew ∙ sym (ended_cell_lem n.0 x h is_marked ∙ number_step (λ y _. ends_all n.0 y) x h ∙ rw (is_marked, s, ← ee))
