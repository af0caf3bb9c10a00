-- Laws of the lowest node that lacks a right range: a walk along the records of the parent that recorded an index meets every such node.
use mathlib.Core.Path.{◌≡◌, refl, sym, ap, ◌∙◌}
use mathlib.Core.Bool.{Bool, true, not, ◌&&◌}
use mathlib.Core.List.{List}
use Rattle.std.specs.Prelude.{Option, None, Some}
use Prim.Native.Nat.{ℕ, ◌+◌, ◌-◌, ◌*◌, ◌≤◌, ◌<◌}
use native.Mathlib.Omega.{arith}
use native.Mathlib.Decide.{ℕ_discrete, dec_lt}
use lib.ListN.{get_or}
use lib.Dec.{eqb, ltb}
use borrow.Author.Tests.{eqb-true, ltb-true}
use Rattle.record.specs.Named.{Node}
use Rattle.record.specs.Records.{TraceRecord, decode}
use Rattle.rules.specs.History.{Tells, is_kind, is_by, by_node}
use Rattle.rules.specs.RightHalf.{Registered, is_restated, reaches, lacks}
use Rattle.record.proofs.Booleans.{never, and_left, and_right}
use Rattle.rules.proofs.Candidates.{LowestOfAll}
use Rattle.history.specs.Logs.{bytes_at, record_at, hist}
use Rattle.history.specs.declared.past.Past.{Past}
use Rattle.history.specs.declared.walk.Chain.{Chain}
use Rattle.history.specs.declared.walk.Taken.{Taken}
use Rattle.history.specs.Columns.{Chained, latest_in}
use Rattle.history.specs.Pasts.{taken, Begins, Goes}
use Rattle.history.proofs.Logs.{record_bytes}
use Rattle.history.proofs.Pasts.{OnPast, next_word}
use Rattle.history.proofs.Chains.{In, clamped, link_at, latest_bound, latest_in_lem, latest_gap}
use Rattle.one_owner_per_key.specs.Numbers.{latest_number}
use Rattle.rules.proofs.Marks.{by_marked}
use Rattle.one_owner_per_key.proofs.Latest.{number_bound, number_is}
use Rattle.rules.proofs.Lowest.{least_found, at_most, Sound, none_sound, sound_lower, at_most_still, at_most_new}
use Rattle.debts.specs.declared.owed.Asked.TheVariants.{Recording}
use Rattle.splits.specs.Numbers.{refused_number}
use Rattle.splits.specs.Columns.{recorded_bucket, records_by, by_recording}
use Rattle.debts.specs.Walk.{asks, reached}
use Rattle.right_half.specs.Answers.{lowered_by}
use Rattle.debts.proofs.Owing.{reached_is}

-- a walk along a chain for the lowest node stands before i: the nodes of the bucket's records from i on are taken over
pub record Lowering (f : Tells ℕ) (b : ℕ) (log : List ℕ) (n : ℕ) (P : ℕ → Bool) (i : ℕ) (best : Option ℕ) : Type 0 where
  pub here : 0 < i → In f b log (i - 1)
  pub sound : Sound P best
  pub done : (k m : ℕ) → i ≤ k → k < n → In f b log k → is_by m (record_at log k) ≡ true → P m ≡ true → at_most best m ≡ true

-- the node of one record more
module _ (P : ℕ → Bool) where
  entered_by_node : (m : Node) (best : Option ℕ) → Sound P best → Sound P (lowered_by P m best)
  entered_by_node None best s = s
  entered_by_node (Some m) best s = sound_lower P m.0 (P m.0) best refl s

  still : (m : Node) (r : ℕ) (best : Option ℕ) → at_most best r ≡ true → at_most (lowered_by P m best) r ≡ true
  still None r best e = e
  still (Some m) r best e = at_most_still m.0 r (P m.0) best e

  new : (m : Node) (r : ℕ) (best : Option ℕ) → by_node r m ≡ true → P r ≡ true → at_most (lowered_by P m best) r ≡ true
  new None r best e p = never e refl
  new (Some m) r best e p =
      let q : m.0 ≡ r = eqb-true m.0 r e in
      rw (q, p) (at_most_new r r best (omega arith))

module _ (f : Tells ℕ) (b : ℕ) (P : ℕ → Bool) (p : Past) (tops down : ℕ) (c : Chained f (tops * p.cap) (down * p.cap) p.cap (taken p) p.work.now) where
  pub lower_first : {s : Chain} → b < p.cap → Begins p tops down b s → Lowering f b p.log.now p.count P s.next None
  lower_first {s} l z =
      let q : s.next ≡ latest_in f (taken p) b =
      z.next ∙ clamped (get_or p.work.now (tops * p.cap + b) 0) (latest_in f (taken p) b) p.count (c.tops.word b l) (latest_bound f b p.log.now p.count) in
      record {
        here = λ o. rw q (latest_in_lem f b p.log.now p.count (rw q at o));
        sound = none_sound P;
        done = λ k m u v h e r. absurd (latest_gap f b p.log.now p.count k (rw q at u) v h);
      }

  pub lower_next : {s t : Chain} {x : Taken} {best best' : Option ℕ} → OnPast p down s → Goes s x t → Lowering f b p.log.now p.count P s.next best
      → best' ≡ lowered_by P (decode x.record.now).node best → Lowering f b p.log.now p.count P t.next best'
  lower_next {s} {t} {x} {best} {best'} o e w eb =
      let i = s.next in
      let y : decode x.record.now ≡ record_at p.log.now (i - 1) =
      record_bytes p.log.now (i - 1) (e.bytes ∙ ap (λ (l : _). bytes_at (i - 1) l.now) o.log) in
      let d : best' ≡ lowered_by P (record_at p.log.now (i - 1)).node best = eb ∙ ap (λ (z : TraceRecord). lowered_by P z.node best) y in
      let q : t.next ≡ latest_in f (hist p.log.now (i - 1)) b =
      next_word o e ∙ clamped (get_or p.work.now (down * p.cap + (i - 1)) 0) (latest_in f (hist p.log.now (i - 1)) b) (i - 1)
      (link_at f p.log.now c.downs (omega (arith, e.some, o.within)) p.within (w.here e.some)) (latest_bound f b p.log.now (i - 1)) in
      record {
        here = λ k. rw q (latest_in_lem f b p.log.now (i - 1) (rw q at k));
        sound = rw d (entered_by_node P (record_at p.log.now (i - 1)).node best w.sound);
        done = λ k m u v h g r.
            elim (ℕ_discrete k (i - 1)) [
              | yes z ↦ rw d (new P (record_at p.log.now (i - 1)).node m best (ap (λ (j : ℕ). is_by m (record_at p.log.now j)) (sym z) ∙ g) r)
              | no z ↦
                  elim (dec_lt k (i - 1)) [
                    | yes j ↦ absurd (latest_gap f b p.log.now (i - 1) k (rw q at u) j h)
                    | no j ↦ rw d (still P (record_at p.log.now (i - 1)).node m best (w.done k m (omega arith) v h g r))
                  ]
            ];
      }

-- where every number that passes is the node of a record of the bucket
pub lower_end : (f : Tells ℕ) (b : ℕ) (P : ℕ → Bool) (p : Past) {i : ℕ} {best q : Option ℕ} → i ≡ 0 → Lowering f b p.log.now p.count P i best
    → ((m : ℕ) → P m ≡ true → (k : ℕ) × ((k < p.count) × (In f b p.log.now k × (is_by m (record_at p.log.now k) ≡ true))))
    → LowestOfAll P q → best ≡ q
lower_end f b P p {i} {best} {q} z w every all =
    least_found best q (record {
      sound = w.sound;
      least = λ m h. let t = every m h in w.done t.0 m (omega arith) t.1.0 t.1.1.0 t.1.1.1 h;
    }) all

-- a node whose recorded index reaches the split has a record in the parent's bucket
pub lacking_met : (cap : ℕ) (log : List ℕ) (n : ℕ) (s : Registered) (x : TraceRecord) (m : ℕ) → lacks s x (hist log n) m ≡ true
    → (k : ℕ) × ((k < n) × (In (by_recording cap) (recorded_bucket cap s.parent) log k × (is_by m (record_at log k) ≡ true)))
unfolding reached asks by_recording
lacking_met cap log n s x m e =
    let r = and_right (is_restated m (hist log n)) _ (and_left (is_restated m (hist log n) && reaches m s (hist log n)) _ (and_left _ _ e)) in
    let g = and_left (ltb (refused_number m (hist log n)) (latest_number (asks Recording m s.parent) (hist log n))) _ (sym (reached_is log n m s) ∙ r) in
    let o : refused_number m (hist log n) < latest_number (asks Recording m s.parent) (hist log n) = ltb-true _ _ g in
    let b = number_bound (asks Recording m s.parent) log n in
    let k = latest_number (asks Recording m s.parent) (hist log n) - 1 in
    let i = number_is (asks Recording m s.parent) log n (omega arith) in
    let u = and_left (is_by m (record_at log k) && eqb (record_at log k).a s.parent) _ i in
    let v = and_right (is_by m (record_at log k) && eqb (record_at log k).a s.parent) _ i in
    let y = and_left (is_by m (record_at log k)) _ u in
    let a = eqb-true (record_at log k).a s.parent (and_right (is_by m (record_at log k)) _ u) in
    let t : records_by (record_at log k) (hist log k) (record_at log k).node ≡ true =
    by_marked (λ j. is_kind 2 (record_at log k) && not (is_restated j (hist log k))) (records_by (record_at log k) (hist log k)) (λ j. refl) m
    (record_at log k).node y ∙ v in
    (k, (omega arith, (rw (t, a), y)))
