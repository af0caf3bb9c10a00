-- What `latest_of` and `earliest_of` find: each meets a plain relation, and what meets the relation is found.
use mathlib.Core.Path.{◌≡◌, refl, ap, ◌∙◌, subst}
use mathlib.Core.Bool.{Bool, true, false, cond, ◌||◌}
use mathlib.Core.List.{List, [], ◌∷◌, ◌++◌}
use Rattle.std.proofs.lemmas.Option.{same_Some}
use Rattle.std.specs.Prelude.{Option, None, Some}
use Rattle.rules.specs.History.{when, or_else, is_some, any_of, latest_of, earliest_of}
use Rattle.record.proofs.Booleans.{never, none_some}
use Rattle.rules.proofs.Members.{Mem, here, there, mem_nil, mem_cons, mem_right, NonePasses}
use Rattle.rules.proofs.Skips.{latest_of_hit, latest_of_skip, earliest_of_kept, earliest_of_hit}

module _ {A : Type 0} where
  -- one of the elements that pass: of a list that is newest first, those after it in time, and those before

  pub record Placed (p : A → Bool) (xs : List A) (r : A) : Type 0 where
    pub later : List A
    pub earlier : List A
    pub split : xs ≡ later ++ (r ∷ earlier)
    pub passes : p r ≡ true

  abbrev pub placed_here : {p : A → Bool} (x : A) (xs : List A) → p x ≡ true → Placed p (x ∷ xs) x
  placed_here x xs e = record { later = []; earlier = xs; split = refl; passes = e }

  abbrev pub placed_there : {p : A → Bool} (x : A) {xs : List A} {r : A} → Placed p xs r → Placed p (x ∷ xs) r
  placed_there x w = record { later = x ∷ w.later; earlier = w.earlier; split = ap (λ (l : List A). x ∷ l) w.split; passes = w.passes }

  pub placed_mem : {p : A → Bool} {xs : List A} {r : A} → Placed p xs r → Mem r xs
  placed_mem w = rw w.split (mem_right w.later here)

  -- the latest that passes, and the earliest
  pub record Latest (p : A → Bool) (xs : List A) (r : A) : Type 0 where
    pub place : Placed p xs r
    pub after : NonePasses p place.later

  pub record Earliest (p : A → Bool) (xs : List A) (r : A) : Type 0 where
    pub place : Placed p xs r
    pub before : NonePasses p place.earlier

  -- an answer that is right: none where no element passes, else one that meets the relation
  abbrev pub Answer : (A → Type 0) → (A → Bool) → List A → Option A → Type 0
  Answer R p xs None = NonePasses p xs
  Answer R p xs (Some r) = R r

  -- what such an answer gives meets the relation; and it gives something where an element passes
  module _ (R : A → Type 0) (p : A → Bool) (xs : List A) where
    pub answer_some : {r : A} (o : Option A) → Answer R p xs o → o ≡ Some r → R r
    answer_some None h e = none_some e
    answer_some {r} (Some y) h e = subst R (same_Some y r e) h

    pub answer_passing : {y : A} (o : Option A) → Answer R p xs o → Mem y xs → p y ≡ true → (r : A) × (o ≡ Some r)
    answer_passing {y} None h m e = never e (h y m)
    answer_passing (Some r) h m e = (r, refl)

  latest_next : (p : A → Bool) (x : A) (xs : List A) (b : Bool) (o : Option A) → p x ≡ b → Answer (Latest p xs) p xs o
      → Answer (Latest p (x ∷ xs)) p (x ∷ xs) (cond b (Some x) o)
  latest_next p x xs true o e h = record { place = placed_here x xs e; after = λ y m. mem_nil m }
  latest_next p x xs false None e h = mem_cons e h
  latest_next p x xs false (Some r) e h = record { place = placed_there x h.place; after = mem_cons e h.after }

  pub latest_of_right : (p : A → Bool) (xs : List A) → Answer (Latest p xs) p xs (latest_of p xs)
  unfolding latest_of
  latest_of_right p [] = λ y m. mem_nil m
  latest_of_right p (x ∷ xs) = latest_next p x xs (p x) (latest_of p xs) refl (latest_of_right p xs)

  earliest_next : (p : A → Bool) (x : A) (xs : List A) (b : Bool) (o : Option A) → p x ≡ b → Answer (Earliest p xs) p xs o
      → Answer (Earliest p (x ∷ xs)) p (x ∷ xs) (or_else o (when b x))
  earliest_next p x xs true None e h = record { place = placed_here x xs e; before = h }
  earliest_next p x xs false None e h = mem_cons e h
  earliest_next p x xs b (Some r) e h = record { place = placed_there x h.place; before = h.before }

  pub earliest_of_right : (p : A → Bool) (xs : List A) → Answer (Earliest p xs) p xs (earliest_of p xs)
  unfolding earliest_of
  earliest_of_right p [] = λ y m. mem_nil m
  earliest_of_right p (x ∷ xs) = earliest_next p x xs (p x) (earliest_of p xs) refl (earliest_of_right p xs)

  pub earliest_meets : (p : A → Bool) {xs : List A} {r : A} → earliest_of p xs ≡ Some r → Earliest p xs r
  earliest_meets p {xs} e = answer_some (Earliest p xs) p xs (earliest_of p xs) (earliest_of_right p xs) e

  -- where one passes, there is an earliest
  pub earliest_passing : (p : A → Bool) {xs : List A} {y : A} → Mem y xs → p y ≡ true → (r : A) × (earliest_of p xs ≡ Some r)
  earliest_passing p {xs} m e = answer_passing (Earliest p xs) p xs (earliest_of p xs) (earliest_of_right p xs) m e

  -- what meets the relation is found
  pub latest_found : (p : A → Bool) {xs : List A} {r : A} → Latest p xs r → latest_of p xs ≡ Some r
  latest_found p {r = r} w = ap (latest_of p) w.place.split ∙ go w.place.later w.after
    where
      go : (later : List A) → NonePasses p later → latest_of p (later ++ (r ∷ w.place.earlier)) ≡ Some r
      go [] h = latest_of_hit p r _ w.place.passes
      go (x ∷ l) h = latest_of_skip p x _ (h x here) ∙ go l (λ y m. h y (there m))

  pub latest_none : (p : A → Bool) (xs : List A) → NonePasses p xs → latest_of p xs ≡ None
  unfolding latest_of
  latest_none p [] h = refl
  latest_none p (x ∷ xs) h = rw (h x here) (latest_none p xs (λ y m. h y (there m)))

  pub earliest_none : (p : A → Bool) (xs : List A) → NonePasses p xs → earliest_of p xs ≡ None
  unfolding earliest_of
  earliest_none p [] h = refl
  earliest_none p (x ∷ xs) h = rw (h x here, earliest_none p xs (λ y m. h y (there m)))

  pub earliest_found : (p : A → Bool) {xs : List A} {r : A} → Earliest p xs r → earliest_of p xs ≡ Some r
  earliest_found p {r = r} w = ap (earliest_of p) w.place.split ∙ go w.place.later
    where
      go : (later : List A) → earliest_of p (later ++ (r ∷ w.place.earlier)) ≡ Some r
      go [] = earliest_of_hit p r _ (earliest_none p _ w.before) w.place.passes
      go (x ∷ l) = earliest_of_kept p x _ r (go l)

-- whether one passes is whether one is found
either_earliest : {A : Type 0} (b a : Bool) (v : A) (o : Option A) → a ≡ is_some o → b || a ≡ is_some (or_else o (when b v))
either_earliest true a v None e = refl
either_earliest true a v (Some w) e = refl
either_earliest false a v None e = e
either_earliest false a v (Some w) e = e

pub any_earliest : {A : Type 0} (p : A → Bool) (vs : List A) → any_of p vs ≡ is_some (earliest_of p vs)
unfolding any_of earliest_of
any_earliest p [] = refl
any_earliest p (v ∷ vs) = either_earliest (p v) (any_of p vs) v (earliest_of p vs) (any_earliest p vs)

any_go : {A : Type 0} (b a : Bool) (v : A) (o : Option A) → a ≡ is_some o → b || a ≡ is_some (cond b (Some v) o)
any_go true a v o e = refl
any_go false a v o e = e

pub any_latest : {A : Type 0} (p : A → Bool) (vs : List A) → any_of p vs ≡ is_some (latest_of p vs)
unfolding any_of latest_of
any_latest p [] = refl
any_latest p (v ∷ vs) = any_go (p v) (any_of p vs) v (latest_of p vs) (any_latest p vs)
