-- Lists of keys: the least that passes, the last up to a key, and how many are above a key.
use mathlib.Core.Path.{◌≡◌, refl}
use mathlib.Core.Bool.{Bool, true, false, cond, not, ◌&&◌}
use mathlib.Core.List.{List, [], ◌∷◌}
use Rattle.std.specs.Prelude.{Option, None, Some}
use mathlib.Core.Logic.{⊎_elim}
use Prim.Native.Nat.{ℕ, ◌+◌, ◌≤◌, ◌<◌}
use native.Mathlib.Omega.{arith}
use Rattle.record.specs.Keys.{Key, key_ltb, Lt, Le}
use Rattle.rules.specs.MetaNeverGoesBack.{lower_key, least_key}
use Rattle.record.proofs.Booleans.{never}
use Rattle.record.proofs.Keys.{lt_or_le, le_refl, clash, lt_le, lt_lt_lt, le_le_le}
use Rattle.rules.proofs.Members.{Mem, here, there, mem_nil, mem_cons}
use Rattle.rules.proofs.Placed.{Answer}

-- ---- the least key of a list that passes

pub record LeastKey (q : Key → Bool) (ks : List Key) (m : Key) : Type 0 where
  pub mem : Mem m ks
  pub passes : q m ≡ true
  pub least : (k : Key) → Mem k ks → q k ≡ true → Le m k

least_lower : (q : Key → Bool) (k m : Key) (ks : List Key) (b : Bool) → key_ltb m k ≡ b → q k ≡ true → LeastKey q ks m → LeastKey q (k ∷ ks) (cond b m k)
least_lower q k m ks true l e h = record { mem = there h.mem; passes = h.passes; least = mem_cons (λ t. lt_le (record { is = l })) h.least }
least_lower q k m ks false l e h =
    record { mem = here; passes = e; least = mem_cons (λ t. le_refl k) (λ j i t. le_le_le (record { is = l }) (h.least j i t)) }

least_next : (q : Key → Bool) (k : Key) (ks : List Key) (b : Bool) (o : Option Key) → q k ≡ b → Answer (LeastKey q ks) q ks o
    → Answer (LeastKey q (k ∷ ks)) q (k ∷ ks) (cond b (lower_key k o) o)
least_next q k ks true None e h = record { mem = here; passes = e; least = mem_cons (λ t. le_refl k) (λ j i t. never t (h j i)) }
least_next q k ks true (Some m) e h = least_lower q k m ks _ refl e h
least_next q k ks false None e h = mem_cons e h
least_next q k ks false (Some m) e h = record { mem = there h.mem; passes = h.passes; least = mem_cons (λ t. never t e) h.least }

pub least_key_right : (q : Key → Bool) (ks : List Key) → Answer (LeastKey q ks) q ks (least_key q ks)
unfolding least_key
least_key_right q [] = λ k m. mem_nil m
least_key_right q (k ∷ ks) = least_next q k ks _ (least_key q ks) refl (least_key_right q ks)

-- ---- the last of a list of keys up to a key, from s on

mem_under : {f s x : Key} {xs : List Key} → Mem f (s ∷ xs) → Mem f (s ∷ x ∷ xs)
mem_under here = here
mem_under (there m) = there (there m)

last_up : Key → Key → List Key → Key
last_up s k [] = s
last_up s k (x ∷ xs) = cond (key_ltb (last_up s k xs) x && not (key_ltb k x)) x (last_up s k xs)

pub record Floor (s k : Key) (xs : List Key) (f : Key) : Type 0 where
  pub low : Le s f
  pub high : Le f k
  pub mem : Mem f (s ∷ xs)
  pub gap : (x : Key) → Mem x xs → Lt f x → Lt k x

floor_step : (s k x f : Key) (xs : List Key) (a b : Bool) → key_ltb f x ≡ a → key_ltb k x ≡ b → Floor s k xs f → Floor s k (x ∷ xs) (cond (a && not b) x f)
floor_step s k x f xs true false p q g =
    let l : Lt f x = record { is = p } in
    record {
      low = le_le_le g.low (lt_le l);
      high = record { is = q };
      mem = there here;
      gap = mem_cons (λ h. clash h (le_refl x)) (λ y m h. g.gap y m (lt_lt_lt l h));
    }
floor_step s k x f xs true true p q g =
    record { low = g.low; high = g.high; mem = mem_under g.mem; gap = mem_cons (λ h. record { is = q }) g.gap }
floor_step s k x f xs false b p q g =
    record { low = g.low; high = g.high; mem = mem_under g.mem; gap = mem_cons (λ h. never h.is p) g.gap }

floor_is : (s k : Key) (xs : List Key) → Le s k → Floor s k xs (last_up s k xs)
unfolding last_up
floor_is s k [] h = record { low = le_refl s; high = h; mem = here; gap = λ x m l. mem_nil m }
floor_is s k (x ∷ xs) h = floor_step s k x (last_up s k xs) xs _ _ refl refl (floor_is s k xs h)

pub floor : (s k : Key) (xs : List Key) → Le s k → (f : Key) × Floor s k xs f
floor s k xs h = (last_up s k xs, floor_is s k xs h)

-- ---- how many keys of a list are above one: what is left of a walk

unfoldable pub above : Key → List Key → ℕ
above c [] = 0
above c (x ∷ xs) = cond (key_ltb c x) 1 0 + above c xs

above_cons : (c x : Key) (xs : List Key) → above c (x ∷ xs) ≡ cond (key_ltb c x) 1 0 + above c xs
unfolding above
above_cons c x xs = refl

one_le : (c n x : Key) → Lt c n → cond (key_ltb n x) 1 0 ≤ cond (key_ltb c x) 1 0
one_le c n x h = ⊎_elim
    (λ (l : Lt n x). rw (l.is, (lt_lt_lt h l).is) (omega arith))
    (λ (l : Le x n). rw l.is (omega arith))
    (lt_or_le n x)

above_le : (c n : Key) (xs : List Key) → Lt c n → above n xs ≤ above c xs
unfolding above
above_le c n [] h = omega arith
above_le c n (x ∷ xs) h = omega (arith, one_le c n x h, above_le c n xs h)

pub above_falls : {c n : Key} {xs : List Key} → Lt c n → Mem n xs → above n xs < above c xs
above_falls {c} {n} h (here {xs = xs}) = rw (above_cons n n xs, above_cons c n xs, (le_refl n).is, h.is) (omega (arith, above_le c n xs h))
above_falls {c} {n} h (there {y = x} {xs = xs} m) = rw (above_cons n x xs, above_cons c x xs) (omega (arith, one_le c n x h, above_falls h m))
