-- The one registered split of a parent and an index: what is found of them among the registered splits is that one or nothing.
use mathlib.Core.Path.{◌≡◌, refl, sym, ap, ◌∙◌}
use mathlib.Core.Bool.{Bool, true, false, cond, ◌&&◌}
use Rattle.std.specs.Prelude.{Option, None, Some}
use Prim.Native.Nat.{ℕ}
use lib.Dec.{eqb}
use borrow.Author.Tests.{eqb-true}
use Rattle.rules.specs.History.{History, latest_of}
use Rattle.rules.specs.RightHalf.{Registered, is_split, registered}
use Rattle.record.proofs.Booleans.{never, and_left, and_right}
use Rattle.rules.proofs.Members.{Mem}
use Rattle.rules.proofs.Placed.{Answer, Latest, latest_of_right, placed_mem}
use Rattle.rules.proofs.Once.{splits_one}

module _ (h : History) (parent index : ℕ) (s : Registered) (mem : Mem s (registered h)) (at : is_split parent index s ≡ true) where
  same : (u : Registered) → Mem u (registered h) → is_split parent index u ≡ true → u ≡ s
  same u m e =
      splits_one h u s m mem
      (eqb-true u.parent parent (and_left (eqb u.parent parent) _ e) ∙ sym (eqb-true s.parent parent (and_left (eqb s.parent parent) _ at)))
      (eqb-true u.index index (and_right (eqb u.parent parent) _ e) ∙ sym (eqb-true s.index index (and_right (eqb s.parent parent) _ at)))

  and_three : (a b c : Bool) → a ≡ true → a && b && c ≡ b && c
  and_three a b c e = rw e

  module _ (p q : Registered → Bool) where
    abbrev test : Registered → Bool
    test u = is_split parent index u && p u && q u

    test_is : test s ≡ p s && q s
    test_is = and_three (is_split parent index s) (p s) (q s) at

    one : (o : Option Registered) (t : Bool) → p s && q s ≡ t → Answer (Latest test (registered h)) test (registered h) o → o ≡ cond t (Some s) None
    one None true e a = never (test_is ∙ e) (a s mem)
    one None false e a = refl
    one (Some u) t e a =
        let w = a.place.passes in
        let z : u ≡ s = same u (placed_mem a.place) (and_left (is_split parent index u) _ (and_left (is_split parent index u && p u) _ w)) in
        let v : t ≡ true = sym e ∙ sym test_is ∙ ap test (sym z) ∙ w in
        rw (v, z)

    pub only_split : latest_of test (registered h) ≡ cond (p s && q s) (Some s) None
    only_split = one (latest_of test (registered h)) (p s && q s) refl (latest_of_right test (registered h))
