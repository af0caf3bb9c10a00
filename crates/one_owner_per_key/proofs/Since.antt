-- Laws of the walk down the records at which a node newly held a range: it gives their ranges since the node's latest end.
use mathlib.Core.Path.{◌≡◌, refl, sym, ap, subst, ◌∙◌}
use mathlib.Core.Bool.{Bool, true, false, ◌&&◌}
use mathlib.Core.List.{List, [], ◌∷◌}
use Prim.Native.Nat.{ℕ, zero, suc, ◌-◌, ◌≤◌, ◌<◌}
use native.Mathlib.Omega.{arith}
use native.Mathlib.Decide.{ℕ_discrete}
use lib.ListN.{length}
use lib.Dec.{ltb}
use borrow.Author.Tests.{lt-ltb, le-ltb}
use Rattle.std.specs.Prelude.{Option, None, Some}
use Rattle.std.proofs.lemmas.Iterator.{YieldsList}
use Rattle.std.proofs.lemmas.Iterator.Splits.{YieldsList-from_shown_while}
use Rattle.record.specs.Records.{TraceRecord, decode}
use Rattle.rules.specs.History.{History, Tells, Mem, here, there, when, told, number_after}
use Rattle.rules.proofs.Skips.{told_nil, told_hit, told_skip}
use Rattle.history.specs.declared.past.Past.{Past}
use Rattle.history.specs.declared.walk.Taken.{Taken}
use Rattle.history.specs.Logs.{record_at, hist, bytes_at}
use Rattle.history.specs.Pasts.{taken, Indexed}
use Rattle.history.proofs.Logs.{hist_none, hist_suc, hist_length, record_bytes}
use Rattle.history.proofs.Walks.{look_less}
use Rattle.one_owner_per_key.specs.declared.newly.NewlyHeld.{NewlyHeld}
use Rattle.one_owner_per_key.specs.Columns.{OwnersIndexed, before_in}
use Rattle.one_owner_per_key.specs.Newly.{SinceEnd, Goes, Steps}
use Rattle.one_owner_per_key.specs.Numbers.{newly_holds, latest_newly}
use Rattle.one_owner_per_key.proofs.AsOf.{before_is, newly_by}
use Rattle.one_owner_per_key.proofs.Holds.{Began}
use Rattle.one_owner_per_key.proofs.Latest.{passes_at, number_bound, number_is, as_of}

-- the ranges newly held after an end
abbrev tells_since : ℕ → ℕ → Tells ℕ
tells_since node ended x h = when (ltb ended (number_after h) && newly_holds node x h) x.a

unfoldable pub since : ℕ → ℕ → History → List ℕ
since node ended h = told (tells_since node ended) h

module _ (node ended : ℕ) where
  since_none : since node ended [] ≡ []
  unfolding since
  since_none = told_nil (tells_since node ended)

  module _ (x : TraceRecord) (h : History) where
    since_hit : ended ≤ length h → newly_holds node x h ≡ true → since node ended (x ∷ h) ≡ x.a ∷ since node ended h
    unfolding since
    since_hit l e = told_hit (tells_since node ended) x h x.a (rw (lt-ltb ended (suc (length h)) (omega arith), e))

    since_before : length h < ended → since node ended (x ∷ h) ≡ since node ended h
    unfolding since
    since_before l = told_skip (tells_since node ended) x h (rw (le-ltb ended (suc (length h)) (omega arith)))

    since_skip : newly_holds node x h ≡ false → since node ended (x ∷ h) ≡ since node ended h
    unfolding since
    since_skip e = told_skip (tells_since node ended) x h (go (ltb ended (suc (length h))))
      where
        go : (t : Bool) → when (t && newly_holds node x h) x.a ≡ None
        go true = rw e
        go false = refl

    since_more : {r : ℕ} → Mem r (since node ended h) → Mem r (since node ended (x ∷ h))
    unfolding since
    since_more {r} m = go (tells_since node ended x h) refl
      where
        go : (o : Option ℕ) → tells_since node ended x h ≡ o → Mem r (told (tells_since node ended) (x ∷ h))
        go None e = rw (told_skip (tells_since node ended) x h e) m
        go (Some v) e = rw (told_hit (tells_since node ended) x h v e) (there m)

  module _ (log : List ℕ) where
    abbrev left : ℕ → List ℕ
    left n = since node ended (hist log n)

    -- up to the end there is none
    left_ended : (n : ℕ) → n ≤ ended → left n ≡ []
    left_ended zero l = ap (since node ended) (hist_none log) ∙ since_none
    left_ended (suc n) l =
        let k : length (hist log n) < ended = omega (arith, hist_length log n) in
        ap (since node ended) (hist_suc log n) ∙ since_before (record_at log n) (hist log n) k ∙ left_ended n (omega arith)

    left_turn : {i : ℕ} → ended < i → passes_at (newly_holds node) log (i - 1) ≡ true → left i ≡ (record_at log (i - 1)).a ∷ left (i - 1)
    left_turn {i} l e =
        let k : ended ≤ length (hist log (i - 1)) = omega (arith, hist_length log (i - 1)) in
        look_less (since node ended) log i (omega arith) ∙ since_hit (record_at log (i - 1)) (hist log (i - 1)) k e

    -- what is not newly held changes nothing
    left_latest : (n : ℕ) → left n ≡ left (latest_newly node (hist log n))
    left_latest =
        as_of (newly_holds node) log left
        (λ k e. ap (since node ended) (hist_suc log k) ∙ since_skip (record_at log k) (hist log k) e)

    -- what began since is among them
    pub began_mem : (n : ℕ) {r : ℕ} → Began node r log ended n → Mem r (left n)
    began_mem zero b = absurd (omega (arith, b.before))
    began_mem (suc n) {r} b =
        elim (ℕ_discrete b.at n) [
          | yes e ↦
              let k : ended ≤ length (hist log n) = omega (arith, b.after, hist_length log n) in
              let h : newly_holds node (record_at log n) (hist log n) ≡ true =
              ap (λ (j : ℕ). newly_holds node (record_at log j) (hist log j)) (sym e) ∙ b.newly in
              let a : (record_at log n).a ≡ r = ap (λ (j : ℕ). (record_at log j).a) (sym e) ∙ b.range_is in
              subst (Mem r) (sym (ap (since node ended) (hist_suc log n) ∙ since_hit (record_at log n) (hist log n) k h))
              (subst (λ (v : ℕ). Mem r (v ∷ left n)) (sym a) here)
          | no d ↦
              subst (λ (h : History). Mem r (since node ended h)) (sym (hist_suc log n))
              (since_more (record_at log n) (hist log n)
              (began_mem n (record { at = b.at; after = b.after; before = omega (arith, b.before); newly = b.newly; range_is = b.range_is })))
        ]

-- ---- the walk

-- what it reads of a record
abbrev pub range_read : Taken → ℕ
range_read y = (decode y.record.now).a

module _ (p : Past) (node : ℕ) (ended : ℕ) (k : Indexed OwnersIndexed p) where
  record OnNewly (s : NewlyHeld) : Type 0 where
    pub past : s.past ≡ p
    pub ends : s.ended ≡ ended
    pub here : 0 < s.next → passes_at (newly_holds node) p.log.now (s.next - 1) ≡ true
    pub within : s.next ≤ p.count

  turn : (s : NewlyHeld) (x : Taken) (t : NewlyHeld) → OnNewly s → Goes s x t
      → OnNewly t × (left node ended p.log.now s.next ≡ range_read x ∷ left node ended p.log.now t.next)
  turn s x t o e =
      let l : 0 < s.next = omega (arith, e.some) in
      let n : t.next ≡ latest_newly node (hist p.log.now (s.next - 1)) =
      e.next ∙ ap (λ (q : Past). before_in q.work.now q.cap s.next) o.past
      ∙ before_is p.log.now p.count node k p.within s.next l o.within (newly_by node (record_at p.log.now (s.next - 1)) (hist p.log.now (s.next - 1)) (o.here l)) in
      let a : (record_at p.log.now (s.next - 1)).a ≡ range_read x =
      sym (ap (λ (y : TraceRecord). y.a) (record_bytes p.log.now (s.next - 1) (e.bytes ∙ ap (λ (q : Past). bytes_at (s.next - 1) q.log.now) o.past))) in (
        record {
          past = e.past ∙ o.past;
          ends = e.ended ∙ o.ends;
          here = rw n (number_is (newly_holds node) p.log.now (s.next - 1));
          within = omega (arith, n, number_bound (newly_holds node) p.log.now (s.next - 1), o.within);
        },
        left_turn node ended p.log.now (omega (arith, e.some, o.ends)) (o.here l)
            ∙ ap (λ (r : ℕ). r ∷ left node ended p.log.now (s.next - 1)) a
            ∙ ap (λ (l : List ℕ). range_read x ∷ l) (left_latest node ended p.log.now (s.next - 1) ∙ ap (left node ended p.log.now) (sym n)),
      )

  -- THE WALK GIVES THEIR RANGES
  pub newly_yields : {s : NewlyHeld} → SinceEnd p node s → s.ended ≡ ended → YieldsList Steps range_read s (since node ended (taken p))
  newly_yields {s} f e =
      subst (YieldsList Steps range_read s) (sym (left_latest node ended p.log.now p.count ∙ ap (left node ended p.log.now) (sym (f.latest k))))
      (YieldsList-from_shown_while Steps range_read (λ (c : NewlyHeld). left node ended p.log.now c.next) OnNewly
      (λ s t o l. ap length (left_ended node ended p.log.now s.next (omega (arith, l, o.ends))))
      turn
      s
      (record {
        past = f.past;
        ends = e;
        here = rw (f.latest k) (number_is (newly_holds node) p.log.now p.count);
        within = omega (arith, f.latest k, number_bound (newly_holds node) p.log.now p.count);
      }))
