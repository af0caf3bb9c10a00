-- What `told`, `latest` and `firsts` say of a history: all that was told, the latest of it, and of each the first, once.
use mathlib.Core.Path.{◌≡◌, refl}
use mathlib.Core.Bool.{Bool, true, false, cond}
use mathlib.Core.List.{List, [], ◌∷◌, ◌++◌}
use Rattle.std.specs.Prelude.{Option, None, Some}
use mathlib.Core.Logic.{◌⊎◌, inl, inr, ⊎_elim}
use Prim.Native.Nat.{◌≤◌}
use native.Mathlib.Omega.{arith}
use lib.ListN.{length}
use Rattle.record.specs.Records.{TraceRecord}
use Rattle.rules.specs.History.{History, Tells, or_else, add_some, add_first, any_of, those, latest_of, told, latest, firsts}
use Rattle.record.proofs.Booleans.{decide, never}
use Rattle.rules.proofs.Members.{Mem, here, there, mem_nil, Passing, NonePasses, any_of_mem, any_of_some, any_of_none, none_any_of, those_mem}
use Rattle.rules.proofs.Skips.{those_nil, those_hit, those_skip}

module _ {A : Type 0} where
  -- one of the records told a, judged by it and those before
  pub data ToldBy (tells : Tells A) (a : A) : History → Type 0 where
    now : {x : TraceRecord} {h : History} → tells x h ≡ Some a → ToldBy tells a (x ∷ h)
    before : {x : TraceRecord} {h : History} → ToldBy tells a h → ToldBy tells a (x ∷ h)

  told_next : (tells : Tells A) (x : TraceRecord) (h : History) {a : A} (o : Option A) → tells x h ≡ o → (Mem a (told tells h) → ToldBy tells a h)
      → Mem a (add_some o (told tells h)) → ToldBy tells a (x ∷ h)
  told_next tells x h None e f m = before (f m)
  told_next tells x h (Some b) e f here = now e
  told_next tells x h (Some b) e f (there m) = before (f m)

  -- `told` has exactly what was told
  pub told_by : (tells : Tells A) (h : History) {a : A} → Mem a (told tells h) → ToldBy tells a h
  unfolding told
  told_by tells [] m = mem_nil m
  told_by tells (x ∷ h) m = told_next tells x h (tells x h) refl (λ n. told_by tells h n) m

  pub add_mem : (o : Option A) {a : A} {xs : List A} → Mem a xs → Mem a (add_some o xs)
  add_mem None m = m
  add_mem (Some b) m = there m

  pub by_told : (tells : Tells A) {a : A} {h : History} → ToldBy tells a h → Mem a (told tells h)
  unfolding told
  by_told tells (now e) = rw e here
  by_told tells (before {x = x} {h = h} w) = add_mem (tells x h) (by_told tells w)

  -- what was told stays so, whatever records follow
  pub told_stays : (tells : Tells A) (more : List TraceRecord) (h : History) {a : A} → Mem a (told tells h) → Mem a (told tells (more ++ h))
  unfolding told
  told_stays tells [] h m = m
  told_stays tells (x ∷ more) h m = add_mem (tells x (more ++ h)) (told_stays tells more h m)

  -- `latest` is the latest of it
  pub latest_told : (tells : Tells A) (h : History) → latest tells h ≡ latest_of (λ a. true) (told tells h)
  unfolding latest told latest_of
  latest_told tells [] = refl
  latest_told tells (x ∷ h) = by_tells (tells x h) (latest_told tells h)
    where
      by_tells : (o : Option A) → latest tells h ≡ latest_of (λ a. true) (told tells h)
          → or_else o (latest tells h) ≡ latest_of (λ a. true) (add_some o (told tells h))
      by_tells None e = e
      by_tells (Some a) e = refl

  -- ---- the first of each

  -- no two are the same: none is the same as one before it
  pub data Apart (same : A → A → Bool) : List A → Type 0 where
    alone : Apart same []
    joined : {x : A} {xs : List A} → NonePasses (same x) xs → Apart same xs → Apart same (x ∷ xs)

  apart_next : (same : A → A → Bool) (o : Option A) (xs : List A) → Apart same xs → Apart same (add_first same o xs)
  apart_next same None xs w = w
  apart_next same (Some a) xs w = by_known (any_of (same a) xs) refl
    where
      by_known : (b : Bool) → any_of (same a) xs ≡ b → Apart same (cond b xs (a ∷ xs))
      by_known true e = w
      by_known false e = joined (any_of_none (same a) xs e) w

  pub firsts_apart : (same : A → A → Bool) (tells : Tells A) (h : History) → Apart same (firsts same tells h)
  unfolding firsts
  firsts_apart same tells [] = alone
  firsts_apart same tells (x ∷ h) = apart_next same (tells x h) (firsts same tells h) (firsts_apart same tells h)

  -- so two of them that are the same are one
  pub apart_one : {same : A → A → Bool} {xs : List A} {a b : A} → Apart same xs → Mem a xs → Mem b xs → same a b ≡ true → same b a ≡ true → a ≡ b
  apart_one {same = same} {a = a} {b = b} alone m _ e f = elim m [ ]
  apart_one (joined h w) here here e f = refl
  apart_one (joined h w) here (there n) e f = never e (h _ n)
  apart_one (joined h w) (there m) here e f = never f (h _ m)
  apart_one (joined h w) (there m) (there n) e f = apart_one w m n e f

  -- .. those that pass are so too ..
  pub those_apart : {same : A → A → Bool} (p : A → Bool) {xs : List A} → Apart same xs → Apart same (those p xs)
  those_apart p alone = rw (those_nil p) alone
  those_apart p (joined {x = x} {xs = xs} h w) = ⊎_elim
      (λ e. rw (those_hit p x xs e) (joined (λ y m. h y (those_mem p xs m).0) (those_apart p w)))
      (λ e. rw (those_skip p x xs e) (those_apart p w))
      (decide (p x))

  -- .. and where all are the same there is one at most
  pub apart_few : {same : A → A → Bool} {xs : List A} → Apart same xs → ((a b : A) → Mem a xs → Mem b xs → same a b ≡ true) → length xs ≤ 1
  apart_few alone f = omega arith
  apart_few (joined {x = x} {xs = []} h w) f = omega arith
  apart_few (joined {x = x} {xs = y ∷ ys} h w) f = never (f x y here (there here)) (h y here)

  -- what is the same as itself, and as what is the same as a same one
  pub record Sameness (same : A → A → Bool) : Type 0 where
    pub itself : (a : A) → same a a ≡ true
    pub through : (a b c : A) → same a b ≡ true → same b c ≡ true → same a c ≡ true

module _ {A : Type 0} (same : A → A → Bool) (tells : Tells A) where
  known_cases : (b : A) (xs : List A) {a : A} (k : Bool) → any_of (same b) xs ≡ k → Mem a (cond k xs (b ∷ xs))
      → ((◌≡◌ {A = Option A} (Some b) (Some a)) × (any_of (same a) xs ≡ false)) ⊎ Mem a xs
  known_cases b xs true e n = inr n
  known_cases b xs false e here = inl (refl, e)
  known_cases b xs false e (there n) = inr n

  first_cases : (o : Option A) (xs : List A) {a : A} → Mem a (add_first same o xs) → ((o ≡ Some a) × (any_of (same a) xs ≡ false)) ⊎ Mem a xs
  first_cases None xs m = inr m
  first_cases (Some b) xs m = known_cases b xs (any_of (same b) xs) refl m

  first_mem : (o : Option A) {a : A} {xs : List A} → Mem a xs → Mem a (add_first same o xs)
  first_mem None m = m
  first_mem (Some b) {a} {xs} m = by_known (any_of (same b) xs)
    where
      by_known : (k : Bool) → Mem a (cond k xs (b ∷ xs))
      by_known true = m
      by_known false = there m

  -- what is first was told ..
  pub firsts_told : (h : History) {a : A} → Mem a (firsts same tells h) → Mem a (told tells h)
  unfolding firsts told
  firsts_told [] m = mem_nil m
  firsts_told (x ∷ h) m = ⊎_elim
      (λ w. rw w.0 here)
      (λ n. add_mem (tells x h) (firsts_told h n))
      (first_cases (tells x h) (firsts same tells h) m)

  -- .. and stays first, whatever records follow
  pub firsts_stays : (more : List TraceRecord) (h : History) {a : A} → Mem a (firsts same tells h) → Mem a (firsts same tells (more ++ h))
  unfolding firsts
  firsts_stays [] h m = m
  firsts_stays (x ∷ more) h m = first_mem (tells x (more ++ h)) (firsts_stays more h m)

  -- a was told by a record before which nothing of the same was told
  pub data FirstBy (a : A) : History → Type 0 where
    first : {x : TraceRecord} {h : History} → tells x h ≡ Some a → NonePasses (same a) (told tells h) → FirstBy a (x ∷ h)
    earlier : {x : TraceRecord} {h : History} → FirstBy a h → FirstBy a (x ∷ h)

  module _ (s : Sameness same) where
    covered : (a : A) (xs : List A) (k : Bool) → any_of (same a) xs ≡ k → Passing (same a) (cond k xs (a ∷ xs))
    covered a xs true e = any_of_some (same a) xs e
    covered a xs false e = record { it = a; mem = here; passes = s.itself a }

    -- all that was told is the same as one of the firsts
    pub told_covered : {a : A} {h : History} → ToldBy tells a h → Passing (same a) (firsts same tells h)
    unfolding firsts
    told_covered {a = a} (now {h = h} e) = rw e (covered a (firsts same tells h) _ refl)
    told_covered (before {x = x} {h = h} w) =
        let p = told_covered w in
        record { it = p.it; mem = first_mem (tells x h) p.mem; passes = p.passes }

    unknown : (h : History) {a : A} → any_of (same a) (firsts same tells h) ≡ false → NonePasses (same a) (told tells h)
    unknown h {a} e b m = ⊎_elim
        (λ q. let p = told_covered (told_by tells h m) in never (any_of_mem (same a) p.mem (s.through a b p.it q p.passes)) e)
        (λ q. q)
        (decide (same a b))

    -- the firsts are exactly what was told first of each
    pub firsts_by : (h : History) {a : A} → Mem a (firsts same tells h) → FirstBy a h
    unfolding firsts
    firsts_by [] m = mem_nil m
    firsts_by (x ∷ h) m = ⊎_elim
        (λ w. first w.0 (unknown h w.1))
        (λ n. earlier (firsts_by h n))
        (first_cases (tells x h) (firsts same tells h) m)

  pub by_firsts : {a : A} {h : History} → FirstBy a h → Mem a (firsts same tells h)
  unfolding firsts
  by_firsts {a = a} (first {h = h} e f) = rw (e, none_any_of (same a) (firsts same tells h) (λ b m. f b (firsts_told h m))) here
  by_firsts (earlier {x = x} {h = h} w) = first_mem (tells x h) (by_firsts w)
