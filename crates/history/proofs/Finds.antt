-- Laws of `find` and `any` along a chain of the records taken: what is found is the newest record of the bucket that passes the test.
use mathlib.Core.Path.{◌≡◌, refl, sym, ap, subst, ◌∙◌}
use mathlib.Core.Bool.{Bool, true, false}
use mathlib.Core.List.{List, [], ◌∷◌}
use Prim.Native.Nat.{ℕ, suc, ◌-◌, ◌*◌, ◌<◌}
use denote.Param.Members.{Mut, Called}
use denote.Ref.{Bor}
use Rattle.std.proofs.lemmas.Option.{MatchOption-at_some}
use Rattle.std.specs.Prelude.{Option, None, Some, MatchOption, is_some}
use Rattle.std.specs.Fn.{CalledAt, Takes, TakesAt}
use Rattle.std.specs.Iterator.{Yields, YieldsThen, FindsItem, ChecksAny, CallableAtEachTurn, CallableWhile, CallableWhileAt}
use Rattle.std.specs.List.{FoldsTo}
use Rattle.rules.specs.History.{Tells}
use Rattle.history.specs.declared.past.Past.{Past}
use Rattle.history.specs.declared.walk.Chain.{Chain}
use Rattle.history.specs.declared.walk.Taken.{Taken}
use Rattle.history.specs.Columns.{Chained}
use Rattle.history.specs.Pasts.{taken, IsTaken, IsFound, Begins, Steps}
use Rattle.history.proofs.Chains.{In, Stands}
use Rattle.history.proofs.Pasts.{OnPast, on_first, on_next, taken_on, AtTurn, along_first, along_turn, along_next}

-- what a call answers is a test of the record at hand, and it leaves the closure as it was
abbrev pub Tests : {F : Type 0} → (F → Taken → Bool → F → Type 0) → F → (Taken → Bool) → Type 0
Tests {F} R f test = (x : Taken) (b : Bool) (q : F) → R f x b q → (q ≡ f) × (b ≡ test x)

-- calls that answered no at each record passed over
abbrev PassesOver : {F : Type 0} → (F → Taken → Bool → F → Type 0) → F → List Taken → F → Type 0
PassesOver R f xs f' = FoldsTo (λ h x q. R h x false q) f xs f'

module _ {F : Type 0} (R : F → Taken → Bool → F → Type 0) {f : F} {test : Taken → Bool} (calls : Tests R f test) {p : Past} {down : ℕ} where
  passed_on : (xs : List Taken) (t : Chain) (f' : F) {s : Chain} → OnPast p down s → Yields Steps s xs t → PassesOver R f xs f'
      → OnPast p down t × (f' ≡ f)
  passed_on [] t f' o y e = (subst (OnPast p down) y o, sym e)
  passed_on (x ∷ xs) t f' o y e = passed_on xs t f' (on_next o y.1) y.2 (subst (λ h. PassesOver R h xs f') (calls x false e.0 e.1).0 e.2)

  -- at each turn a closure may be called that may be called at every record taken
  serves : {Q : F → Taken → Type 0} {s : Chain} → OnPast p down s → ((x : Taken) → IsTaken p x → Q f x)
      → CallableAtEachTurn Steps (λ h x q. R h x false q) Q s f
  serves {Q} o ask = record {
    at = λ xs t h x u y e n. let w = passed_on xs t h o y e in subst (λ (q : F). Q q x) (sym w.1) (ask x (taken_on w.0 n));
  }

  -- what is found is a record taken
  pub found_taken : (r : Option Taken) (u : Chain) {s : Chain} → OnPast p down s → (xs : List Taken) × (f' : F) × YieldsThen Steps s xs r u × PassesOver R f xs f'
      → IsFound p r
  found_taken None u o e = tt
  found_taken (Some y) u o e = taken_on (passed_on e.0 e.2.0 e.1 o e.2.1 e.3).0 e.2.2

  module _ {A : Type 0} {at : Tells ℕ} {b : ℕ} (look : ℕ → A) (skip : (k : ℕ) → (In at b p.log.now k → ⊥) → look (suc k) ≡ look k)
      {heads : ℕ} (c : Chained at heads (down * p.cap) p.cap (taken p) p.work.now)
      (miss : (y : Taken) → IsTaken p y → test y ≡ false → look y.number ≡ look (y.number - 1)) where
    passed_along : (xs : List Taken) (t : Chain) (f' : F) {s : Chain} {x : A} → OnPast p down s → Stands at b p.log.now look x s.next
        → Yields Steps s xs t → PassesOver R f xs f' → Stands at b p.log.now look x t.next
    passed_along [] t f' {x = x} o w y e = subst (λ (c : Chain). Stands at b p.log.now look x c.next) y w
    passed_along (x ∷ xs) t f' o w y e =
        let k = calls x false e.0 e.1 in
        passed_along xs t f' (on_next o y.1)
        (along_next look skip c o y.1 w ((along_turn y.1 w).same ∙ miss x (taken_on o y.1) (sym k.1)))
        y.2
        (subst (λ h. PassesOver R h xs f') k.0 e.2)

    -- a look-back from the bucket's newest record on: where a walk stops it is as of the record there; where it ends, as of none
    found_along : (r : Option Taken) (u : Chain) {tops : ℕ} {s : Chain} → heads ≡ tops * p.cap → b < p.cap → Begins p tops down b s
        → (xs : List Taken) × (f' : F) × YieldsThen Steps s xs r u × PassesOver R f xs f'
        → MatchOption r (look p.count ≡ look 0) (AtTurn at b p.log.now look (look p.count))
    found_along None u h l z e =
        (passed_along e.0 e.2.0 e.1 (on_first z) (along_first look skip c h l refl z) e.2.1 e.3).same ∙ ap look e.2.2.0
    found_along (Some v) u h l z e = along_turn e.2.2 (passed_along e.0 e.2.0 e.1 (on_first z) (along_first look skip c h l refl z) e.2.1 e.3)

    -- so the look-back is what is answered, where that is so of a record that passes and of none
    pub found_is : (answer : Option Taken → A) → answer None ≡ look 0
        → ((y : Taken) → IsTaken p y → In at b p.log.now (y.number - 1) → test y ≡ true → answer (Some y) ≡ look y.number)
        → (r : Option Taken) (u : Chain) {tops : ℕ} {s : Chain} → heads ≡ tops * p.cap → b < p.cap → Begins p tops down b s
        → (xs : List Taken) (f' : F) → YieldsThen Steps s xs r u → PassesOver R f xs f'
        → ((v : Taken) → r ≡ Some v → (h : F) × R f' v true h) → answer r ≡ look p.count
    found_is answer end hit None u h l z xs f' y e stop = end ∙ sym (found_along None u h l z (xs, f', y, e))
    found_is answer end hit (Some v) u h l z xs f' y e stop =
        let w = found_along (Some v) u h l z (xs, f', y, e) in
        let same = (passed_on xs y.0 f' (on_first z) y.1 e).1 in
        let last = stop v refl in
        let passes = sym (calls v true last.0 (subst (λ h. R h v true last.0) same last.1)).1 in
        hit v (found_taken (Some v) u (on_first z) (xs, f', y, e)) w.here passes ∙ sym w.same

-- `find`
module _ {F : Type 0} {g : Mut F (Bor Taken × Unit {0}) Bool} {f : F} {test : Taken → Bool} (calls : Tests (CalledAt g) f test) {p : Past} {down : ℕ} where
  pub find_serves : {s : Chain} → OnPast p down s → ((x : Taken) → IsTaken p x → TakesAt g f x) → CallableWhileAt Steps g false s f
  find_serves = serves (CalledAt g) calls

  pub find_taken : (r : Option Taken) (u : Chain) {s : Chain} → OnPast p down s → FindsItem Steps g s f r u → IsFound p r
  find_taken r u o e = found_taken (CalledAt g) calls r u o (e.0, e.1, e.2, e.3)

  pub find_is : {A : Type 0} {at : Tells ℕ} {b : ℕ} (look : ℕ → A) → ((k : ℕ) → (In at b p.log.now k → ⊥) → look (suc k) ≡ look k)
      → {heads : ℕ} → Chained at heads (down * p.cap) p.cap (taken p) p.work.now
      → ((y : Taken) → IsTaken p y → test y ≡ false → look y.number ≡ look (y.number - 1))
      → (answer : Option Taken → A) → answer None ≡ look 0
      → ((y : Taken) → IsTaken p y → In at b p.log.now (y.number - 1) → test y ≡ true → answer (Some y) ≡ look y.number)
      → (r : Option Taken) (u : Chain) {tops : ℕ} {s : Chain} → heads ≡ tops * p.cap → b < p.cap → Begins p tops down b s
      → FindsItem Steps g s f r u → answer r ≡ look p.count
  find_is look skip c miss answer end hit r u h l z e =
      found_is (CalledAt g) calls look skip c miss answer end hit r u h l z e.0 e.1 e.2 e.3 (λ v q. MatchOption-at_some _ _ v q e.4)

-- `any`
module _ {F : Type 0} {g : Mut F (Taken × Unit {0}) Bool} {f : F} {test : Taken → Bool} (calls : Tests (λ h x b q. Called g h (x, tt) b q) f test)
    {p : Past} {down : ℕ} where
  pub any_serves : {s : Chain} → OnPast p down s → ((x : Taken) → IsTaken p x → Takes g f (x, tt)) → CallableWhile Steps g false s f
  any_serves = serves (λ h x b q. Called g h (x, tt) b q) calls

  pub any_is : {at : Tells ℕ} {b : ℕ} (look : ℕ → Bool) → ((k : ℕ) → (In at b p.log.now k → ⊥) → look (suc k) ≡ look k)
      → {heads : ℕ} → Chained at heads (down * p.cap) p.cap (taken p) p.work.now
      → ((y : Taken) → IsTaken p y → test y ≡ false → look y.number ≡ look (y.number - 1))
      → look 0 ≡ false
      → ((y : Taken) → IsTaken p y → In at b p.log.now (y.number - 1) → test y ≡ true → look y.number ≡ true)
      → (r : Bool) (u : Chain) {tops : ℕ} {s : Chain} → heads ≡ tops * p.cap → b < p.cap → Begins p tops down b s
      → ChecksAny Steps g s f r u → r ≡ look p.count
  any_is look skip c miss end hit r u h l z e =
      answer_is e.1 e.5
      ∙ found_is (λ h x b q. Called g h (x, tt) b q) calls look skip c miss is_some (sym end) (λ y t w n. sym (hit y t w n)) e.1 u h l z e.0 e.2 e.3 e.4
      (λ v q. (MatchOption-at_some _ _ v q e.5).1)
    where
      answer_is : (o : Option Taken) → MatchOption o (r ≡ false) (λ x. (r ≡ true) × ((j : F) × Called g e.2 (x, tt) true j)) → r ≡ is_some o
      answer_is None m = m
      answer_is (Some v) m = m.0
