-- The lowest range that a node holds over a span that meets another: the least of those newly held since the node's latest end.
use mathlib.Core.Path.{◌≡◌, refl, sym, ap, ◌∙◌}
use mathlib.Core.Bool.{Bool, true, false, ◌&&◌}
use mathlib.Core.List.{List, [], ◌∷◌, ◌++◌, map}
use Prim.Native.Nat.{ℕ}
use native.Mathlib.Omega.{arith}
use Rattle.std.specs.Prelude.{Option, None, Some}
use Rattle.std.specs.List.{fold}
use Rattle.std.proofs.lemmas.List.{map-append}
use Rattle.std.proofs.lemmas.List.Sums.{fold-append}
use Rattle.record.specs.Records.{Span}
use Rattle.record.proofs.Booleans.{never, and_right}
use Rattle.rules.specs.History.{History, Mem, here, there, holds, lower}
use Rattle.rules.specs.OneOwnerPerKey.{hold_of, has_hold, meets, lowest_meeting}
use Rattle.rules.proofs.Candidates.{holds_some, lowest_meeting_right}
use Rattle.rules.proofs.Lowest.{at_most, Sound, least_found, lowered, none_sound, sound_lower, at_most_still, at_most_new}
use Rattle.history.specs.Logs.{hist}
use Rattle.one_owner_per_key.specs.Answers.{is_below}
use Rattle.one_owner_per_key.specs.Numbers.{latest_end}
use Rattle.one_owner_per_key.proofs.Holds.{Began, began}
use Rattle.one_owner_per_key.proofs.Since.{since, began_mem}

-- ---- one number more: below the lowest so far, or not

lower_below : (x : ℕ) (o : Option ℕ) → is_below x o ≡ true → lower (λ n. n) x o ≡ Some x
lower_below x None e = refl
lower_below x (Some b) e = rw e

lower_above : (t : Bool) (x : ℕ) (o : Option ℕ) → is_below x o ≡ false → lowered t x o ≡ o
lower_above t x None e = never refl e
lower_above true x (Some b) e = rw e
lower_above false x (Some b) e = refl

-- ---- the least of numbers that passes, taken one after another

module _ (P : ℕ → Bool) where
  abbrev from : Option ℕ → List ℕ → Option ℕ
  from o xs = fold (λ o x. lowered (P x) x o) o xs

  abbrev pub least : List ℕ → Option ℕ
  least xs = from None xs

  least_sound : (xs : List ℕ) (o : Option ℕ) → Sound P o → Sound P (from o xs)
  least_sound [] o s = s
  least_sound (x ∷ xs) o s = least_sound xs (lowered (P x) x o) (sound_lower P x (P x) o refl s)

  least_still : (r : ℕ) (xs : List ℕ) (o : Option ℕ) → at_most o r ≡ true → at_most (from o xs) r ≡ true
  least_still r [] o e = e
  least_still r (x ∷ xs) o e = least_still r xs (lowered (P x) x o) (at_most_still x r (P x) o e)

  least_most : (r : ℕ) → P r ≡ true → (xs : List ℕ) (o : Option ℕ) → Mem r xs → at_most (from o xs) r ≡ true
  least_most r e xs o (here {xs = ys}) = least_still r ys (lowered (P r) r o) (rw e (at_most_new r r o (omega arith)))
  least_most r e xs o (there {y = x} {xs = ys} m) = least_most r e ys (lowered (P x) x o) m

  -- a walk goes on by an item y, of which x is read: it passes and is below the lowest so far, or that stays
  module _ {A : Type 0} (v : A → ℕ) (ys : List A) (y : A) {x : ℕ} {best : Option ℕ} (ex : x ≡ v y) (w : best ≡ least (map v ys)) where
    one_more : least (map v (ys ++ y ∷ [])) ≡ lowered (P x) x best
    one_more = ap least (map-append v ys (y ∷ [])) ∙ fold-append (λ o x. lowered (P x) x o) None (map v ys) (v y ∷ []) ∙ rw (ex, w)

    pub least_lowered : is_below x best ≡ true → P x ≡ true → Some x ≡ least (map v (ys ++ y ∷ []))
    least_lowered b e = sym (one_more ∙ rw e (lower_below x best b))

    pub least_apart : P x ≡ false → best ≡ least (map v (ys ++ y ∷ []))
    least_apart e = sym (one_more ∙ rw e)

    pub least_above : is_below x best ≡ false → best ≡ least (map v (ys ++ y ∷ []))
    least_above b = sym (one_more ∙ lower_above (P x) x best b)

-- ---- a range that may not be met, held over a span that meets s

abbrev pub met : (ℕ → Bool) → Span → ℕ → History → ℕ → Bool
met p s node h r = p r && holds (meets s) (hold_of node r h)

met_held : (p : ℕ → Bool) (s : Span) (node : ℕ) (h : History) (r : ℕ) → met p s node h r ≡ true → has_hold node r h ≡ true
met_held p s node h r e = holds_some (meets s) (hold_of node r h) (and_right (p r) (holds (meets s) (hold_of node r h)) e)

-- THE LOWEST OF THOSE NEWLY HELD
pub lowest_since : (p : ℕ → Bool) (s : Span) (node : ℕ) (log : List ℕ) (n : ℕ) {ended : ℕ} → ended ≡ latest_end node (hist log n)
    → least (met p s node (hist log n)) (since node ended (hist log n)) ≡ lowest_meeting p s node (hist log n)
lowest_since p s node log n {ended} e =
    let P = met p s node (hist log n) in
    least_found (least P (since node ended (hist log n))) (lowest_meeting p s node (hist log n))
    (record {
      sound = least_sound P (since node ended (hist log n)) None (none_sound P);
      least = λ r m.
          let b : Began node r log ended n = rw e (began node r log n (met_held p s node (hist log n) r m)) in
          least_most P r m (since node ended (hist log n)) None (began_mem node ended log n b);
    })
    (lowest_meeting_right p s node (hist log n))
