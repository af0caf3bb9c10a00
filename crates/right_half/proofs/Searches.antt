-- Laws of the lowest missing right range: over the registered splits it is the lowest over all ranges.
use mathlib.Core.Path.{◌≡◌, refl, sym, ap, ◌∙◌}
use mathlib.Core.Bool.{Bool, true, false, cond, not, and-false}
use mathlib.Core.List.{List, map}
use Rattle.std.specs.Prelude.{Option, None, Some}
use Prim.Native.Nat.{ℕ, ◌-◌, ◌<◌}
use native.Mathlib.Omega.{arith}
use Rattle.rules.specs.History.{is_some, lower, lowest_of}
use Rattle.rules.specs.OneOwnerPerKey.{has_hold}
use Rattle.rules.specs.RightHalf.{Registered, registered, registers, is_missing, owes}
use Rattle.record.proofs.Booleans.{never, and_left, and_right, both}
use Rattle.rules.proofs.Owed.{missing_right}
use Rattle.history.specs.declared.past.Past.{Past}
use Rattle.history.specs.Logs.{record_at, hist}
use Rattle.history.specs.Pasts.{taken, Indexed}
use Rattle.rules.proofs.Lowest.{least_found, at_most, Sound, none_sound, sound_lower, at_most_still, at_most_new}
use Rattle.splits.specs.declared.split.Split.{Split}
use Rattle.splits.specs.Columns.{Known}
use Rattle.splits.specs.Numbers.{latest_registering}
use Rattle.splits.specs.Walk.{split_of, IsSplit}
use Rattle.splits.proofs.Finding.{Passed, passed_first, passed_next}
use Rattle.debts.specs.Walk.{cancel_number, has_part, owes_split}
use Rattle.right_half.specs.Answers.{lacks_split}
use Rattle.one_owner_per_key.specs.Answers.{is_below}
use Rattle.debts.proofs.Parts.{owes_away}
use Rattle.debts.proofs.Owing.{split_owes, owes_split_lem}

module _ (log : List ℕ) (n node t right : ℕ) where
  pub lacks_held : has_hold node right (hist log n) ≡ true → false ≡ lacks_split log n node t right
  unfolding lacks_split
  lacks_held e = rw e

  pub lacks_away : t < n → has_part log n node (record_at log t) ≡ false → false ≡ lacks_split log n node t right
  unfolding lacks_split
  lacks_away l e = rw (← owes_away log n node t (cancel_number node right (hist log n)) l e) (sym (and-false (not (has_hold node right (hist log n)))))

  pub lacks_owes : {r : Bool} {c : ℕ} → has_hold node right (hist log n) ≡ false → c ≡ cancel_number node right (hist log n)
      → r ≡ owes_split log n node t c → r ≡ lacks_split log n node t right
  unfolding lacks_split
  lacks_owes e f g = g ∙ rw (e, f)

-- ---- one more: not below the lowest so far, lacking, or not

pub lowered_above : (t : Bool) (right : ℕ) (best : Option ℕ) → is_below right best ≡ false → best ≡ cond t (lower (λ n. n) right best) best
lowered_above t right None e = never refl e
lowered_above true right (Some b) e = rw e
lowered_above false right (Some b) e = refl

pub lowered_new : (right : ℕ) (best : Option ℕ) {t : Bool} → is_below right best ≡ true → t ≡ true → Some right ≡ cond t (lower (λ n. n) right best) best
lowered_new right None e f = rw f
lowered_new right (Some b) e f = rw (f, e)

pub lowered_not : (right : ℕ) (best : Option ℕ) {t : Bool} → t ≡ false → best ≡ cond t (lower (λ n. n) right best) best
lowered_not right best f = rw f

-- ---- a walk over the registered splits stands before i: all from i on are taken over

pub record Searching (log : List ℕ) (n node i : ℕ) (best : Option ℕ) : Type 0 where
  pub sound : Sound (is_missing node (hist log n)) best
  pub done : Passed (λ t s. lacks_split log n node t s.right ≡ true → at_most best s.right ≡ true) log n i

module _ (log : List ℕ) (n node : ℕ) where
  lacks_missing : (t : ℕ) (s : Registered) → t < n → registers (record_at log t) (hist log t) ≡ Some s → lacks_split log n node t s.right ≡ true
      → is_missing node (hist log n) s.right ≡ true
  unfolding lacks_split
  lacks_missing t s l r h =
      both (split_owes log n node s t l r refl (and_right (not (has_hold node s.right (hist log n))) _ h))
      (and_left (not (has_hold node s.right (hist log n))) _ h)

  pub search_first : {i : ℕ} → i ≡ latest_registering (hist log n) → Searching log n node i None
  search_first e = record {
    sound = none_sound (is_missing node (hist log n));
    done = passed_first (λ t s. lacks_split log n node t s.right ≡ true → at_most None s.right ≡ true) log n e;
  }

  lacking : (r t : ℕ) → not (has_hold node r (hist log n)) ≡ true → owes_split log n node t (cancel_number node r (hist log n)) ≡ true
      → lacks_split log n node t r ≡ true
  unfolding lacks_split
  lacking r t p q = both p q

  pub search_end : {i : ℕ} {best : Option ℕ} → i ≡ 0 → Searching log n node i best
      → best ≡ lowest_of (λ k. k) (is_missing node (hist log n)) (map (λ s. s.right) (registered (hist log n)))
  search_end {i} {best} z w =
      least_found best _ (record {
        sound = w.sound;
        least = λ r e.
            let o = owes_split_lem log n node r (and_left (is_some (owes node r (hist log n))) _ e) in
            let h = lacking r o.at (and_right (is_some (owes node r (hist log n))) _ e) o.owing in
            ap (at_most best) (sym o.its) ∙ w.done o.at o.split (omega arith) o.before o.is (ap (lacks_split log n node o.at) o.its ∙ h);
      })
      (missing_right node (hist log n))

module _ (p : Past) (node : ℕ) (ix : Indexed Known p) {x : Split} (z : IsSplit p x) {i j : ℕ} (k : x.number ≡ i) {best best' : Option ℕ}
    (w : Searching p.log.now p.count node i best)
    (eb : best' ≡ cond (lacks_split p.log.now p.count node (x.number - 1) x.right) (lower (λ k. k) x.right best) best)
    (ej : j ≡ latest_registering (hist p.log.now (i - 1))) where
  by_test : (t : Bool) → lacks_split p.log.now p.count node (x.number - 1) x.right ≡ t
      → Sound (is_missing node (taken p)) (cond t (lower (λ k. k) x.right best) best)
  by_test true h =
      sound_lower (is_missing node (taken p)) x.right true best
      (lacks_missing p.log.now p.count node (x.number - 1) (split_of x) (omega (arith, z.some, z.within)) (z.is ix) h) w.sound
  by_test false h = w.sound

  pub search_next : Searching p.log.now p.count node j best'
  search_next = record {
    sound = rw eb (by_test (lacks_split p.log.now p.count node (x.number - 1) x.right) refl);
    done = passed_next p z ix k w.done
        (λ t s d h. rw eb (at_most_still x.right s.right (lacks_split p.log.now p.count node (x.number - 1) x.right) best (d h)))
        (λ h. rw (eb, h) (at_most_new x.right x.right best (omega arith)))
        ej;
  }
