-- While no generations fault arose, a key's last write alone decides whether any earlier write of the key opposes a new one. It
-- is what lets the check compare with that write only.
use mathlib.Core.Path.{◌≡◌, refl, sym, ap, ◌∙◌}
use mathlib.Core.Bool.{Bool, true, false, not, ◌&&◌, ◌||◌}
use mathlib.Core.List.{List, [], ◌∷◌}
use mathlib.Core.Logic.{◌⊎◌, inl, inr, ⊎_elim}
use Rattle.std.specs.Prelude.{Option, None, Some}
use Prim.Native.Nat.{ℕ, ◌<◌}
use native.Mathlib.Omega.{arith}
use native.Mathlib.Decide.{dec_lt, ℕ_discrete}
use lib.Dec.{eqb, ltb}
use borrow.Author.Tests.{ltb-true, lt-ltb, eqb-true, eqb-false, eq-eqb, ne_eqb, not-true}
use Rattle.record.specs.Keys.{Key, key_eqb}
use Rattle.record.specs.Records.{TraceRecord}
use Rattle.record.proofs.Keys.{list_eqb_same}
use Rattle.rules.specs.declared.Verdict.TheVariants.{Pass}
use Rattle.rules.specs.History.{History, holds, is_some, any_of, latest_of, firsts}
use Rattle.rules.specs.Cases.{is_fault}
use Rattle.rules.specs.GenerationsRise.{Write, tells_write, same_write, writes, is_earlier, opposes, write_fault, generations_at}
use Rattle.rules.specs.Reports.{at_last, Arises, report_of}
use Rattle.record.proofs.Booleans.{never, and_left, and_right, both, or_cases, or_left, or_right, absorbs}
use Rattle.rules.proofs.ByEvents.{none_arose}
use Rattle.rules.proofs.Members.{any_of_mem, any_of_some, any_of_none}
use Rattle.rules.proofs.Placed.{any_latest}
use Rattle.rules.proofs.Skips.{any_of_nil, any_of_skip, latest_of_nil, latest_of_hit, latest_of_skip, firsts_nil, firsts_hit, firsts_skip, firsts_known}

-- ---- the last write of a key

-- of the same key, and opposed to generation g of a range
abbrev opposed : Key → ℕ → ℕ → Write → Bool
opposed key range g o = key_eqb o.key key && opposes range g o

-- every write has a generation, and none older of its key opposes it
data Risen : List Write → Type 0 where
  alone : Risen []
  above : {w : Write} {os : List Write} {g : ℕ} → w.generation ≡ Some g → any_of (opposed w.key w.range g) os ≡ false → Risen os → Risen (w ∷ os)

-- "a higher generation, or another range and the same generation", as facts
against_is : (range g by v : ℕ) → ltb g v || (not (eqb by range) && eqb v g) ≡ true → (g < v) ⊎ ((by ≡ range → ⊥) × (v ≡ g))
against_is range g by v e =
    ⊎_elim (λ y. inl (ltb-true g v y))
    (λ y. inr (
      eqb-false by range (not-true (eqb by range) (and_left (not (eqb by range)) (eqb v g) y)),
      eqb-true v g (and_right (not (eqb by range)) (eqb v g) y),
    ))
    (or_cases (ltb g v) (not (eqb by range) && eqb v g) e)

against_above : (range g by v : ℕ) → g < v → ltb g v || (not (eqb by range) && eqb v g) ≡ true
against_above range g by v l = or_left (ltb g v) (not (eqb by range) && eqb v g) (lt-ltb g v l)

against_other : (range g by v : ℕ) → (by ≡ range → ⊥) → v ≡ g → ltb g v || (not (eqb by range) && eqb v g) ≡ true
against_other range g by v n e =
    or_right (ltb g v) (not (eqb by range) && eqb v g) (both (ap not (ne_eqb by range n)) (eq-eqb v g e))

-- a write that opposes the new one, and does not oppose w: then w opposes the new one
module _ (range g : ℕ) (w : Write) {u : ℕ} (wg : w.generation ≡ Some u) where
  weigh : (v by : ℕ) → ltb g v || (not (eqb by range) && eqb v g) ≡ true → ltb u v || (not (eqb by w.range) && eqb v u) ≡ false
      → ltb g u || (not (eqb w.range range) && eqb u g) ≡ true
  weigh v by e d =
      elim (dec_lt u v) [
        | yes l ↦ never (against_above w.range u by v l) d
        | no l ↦
            ⊎_elim (λ y. against_above range g w.range u (omega arith))
            (λ y.
            elim (dec_lt g u) [
              | yes m ↦ against_above range g w.range u m
              | no m ↦
                  elim (ℕ_discrete by w.range) [
                    | yes q ↦ against_other range g w.range u (λ z. y.0 (q ∙ z)) (omega (arith, y.1))
                    | no q ↦ never (against_other w.range u by v q (omega (arith, y.1))) d
                  ]
            ])
            (against_is range g by v e)
      ]

  transfer : (o : Write) → opposes range g o ≡ true → opposes w.range u o ≡ false → opposes range g w ≡ true
  transfer o e d = rw wg (go o.generation e d)
    where
      go : (b : Option ℕ) → holds (λ v. ltb g v || (not (eqb o.range range) && eqb v g)) b ≡ true
          → holds (λ v. ltb u v || (not (eqb o.range w.range) && eqb v u)) b ≡ false
          → ltb g u || (not (eqb w.range range) && eqb u g) ≡ true
      go None p q = never p refl
      go (Some v) p q = weigh v o.range p q

  -- so where any older one of its key does, w does
  last_opposes : (key : Key) (os : List Write) → key_eqb w.key key ≡ true → any_of (opposed w.key w.range u) os ≡ false
      → any_of (opposed key range g) os ≡ true → opposes range g w ≡ true
  last_opposes key os k n e =
      let f = any_of_some (opposed key range g) os e in
      let q : w.key ≡ key = list_eqb_same w.key key k in
      let m = and_left (key_eqb f.it.key key) (opposes range g f.it) f.passes in
      let j : key_eqb f.it.key w.key ≡ true = rw q m in
      transfer f.it (and_right (key_eqb f.it.key key) (opposes range g f.it) f.passes)
      (right_false j (any_of_none (opposed w.key w.range u) os n f.it f.mem))
    where
      right_false : {a b : Bool} → a ≡ true → a && b ≡ false → b ≡ false
      right_false {a} {b} p r = rw p at r

any_cons : (p : Write → Bool) (w : Write) (os : List Write) → any_of p (w ∷ os) ≡ p w || any_of p os
unfolding any_of
any_cons p w os = refl

last_decides : (key : Key) (range g : ℕ) {ws : List Write} → Risen ws
    → any_of (opposed key range g) ws ≡ holds (opposes range g) (latest_of (is_earlier key) ws)
last_decides key range g alone = none_yet
  where
    none_yet : any_of (opposed key range g) [] ≡ holds (opposes range g) (latest_of (is_earlier key) [])
    none_yet = any_of_nil (opposed key range g) ∙ sym (ap (holds (opposes range g)) (latest_of_nil (is_earlier key)))
last_decides key range g (above {w} {os} {g = u} e n r) = go (key_eqb w.key key) refl (last_decides key range g r)
  where
    rated : (t : Bool) → key_eqb w.key key ≡ t → is_earlier key w ≡ t && true
    rated t q = rw (q, e)

    go : (t : Bool) → key_eqb w.key key ≡ t → any_of (opposed key range g) os ≡ holds (opposes range g) (latest_of (is_earlier key) os)
        → any_of (opposed key range g) (w ∷ os) ≡ holds (opposes range g) (latest_of (is_earlier key) (w ∷ os))
    go true q i =
        any_cons (opposed key range g) w os
        ∙ ap (λ (t : Bool). (t && opposes range g w) || any_of (opposed key range g) os) q
        ∙ absorbs (opposes range g w) (any_of (opposed key range g) os) (last_opposes range g w e key os q n)
        ∙ sym (ap (holds (opposes range g)) (latest_of_hit (is_earlier key) w os (rated true q)))
    go false q i =
        any_of_skip (opposed key range g) w os (ap (λ (t : Bool). t && opposes range g w) q) ∙ i
        ∙ sym (ap (holds (opposes range g)) (latest_of_skip (is_earlier key) w os (rated false q)))

-- ---- while no fault arose the writes have risen

-- an opposing write of the key has a generation: so the key has a last one
last_exists : (key : Key) (range g : ℕ) (ws : List Write) → any_of (opposed key range g) ws ≡ true → latest_of (is_earlier key) ws ≡ None → ⊥
last_exists key range g ws e n =
    let f = any_of_some (opposed key range g) ws e in
    let k = and_left (key_eqb f.it.key key) (opposes range g f.it) f.passes in
    let o = and_right (key_eqb f.it.key key) (opposes range g f.it) f.passes in
    let r : is_earlier key f.it ≡ true = both k (rated _ f.it.generation o) in
    let z : any_of (is_earlier key) ws ≡ true = any_of_mem (is_earlier key) f.mem r in
    never z (any_latest (is_earlier key) ws ∙ ap is_some n)
  where
    rated : (p : ℕ → Bool) (b : Option ℕ) → holds p b ≡ true → holds (λ v. true) b ≡ true
    rated p None q = q
    rated p (Some v) q = refl

module _ (x : TraceRecord) (h : History) {w : Write} (t : tells_write x h ≡ Some w) (n : any_of (same_write w) (writes h) ≡ false)
    (c : is_fault (generations_at x h) ≡ true → ⊥) where
  case_is : generations_at x h ≡ write_fault w w.generation (writes h)
  unfolding generations_at
  case_is = rw (t, n)

  has_generation : (b : Option ℕ) → w.generation ≡ b → (g : ℕ) × (w.generation ≡ Some g)
  has_generation None e = absurd (c (ap is_fault (case_is ∙ ap (λ (b : Option ℕ). write_fault w b (writes h)) e)))
  has_generation (Some g) e = (g, e)

  none_opposed : {g : ℕ} → w.generation ≡ Some g → any_of (opposed w.key w.range g) (writes h) ≡ false
  none_opposed {g} e = go (any_of (opposed w.key w.range g) (writes h)) (latest_of (is_earlier w.key) (writes h)) refl refl
    where
      go : (s : Bool) (b : Option Write) → any_of (opposed w.key w.range g) (writes h) ≡ s → latest_of (is_earlier w.key) (writes h) ≡ b → s ≡ false
      go false b p q = refl
      go true None p q = absurd (last_exists w.key w.range g (writes h) p q)
      go true (Some o) p q = absurd (c (ap is_fault (case_is ∙ ap (λ (b : Option ℕ). write_fault w b (writes h)) e) ∙ rw (p, q)))

risen : (h : History) → (Arises generations_at h → ⊥) → Risen (writes h)
unfolding Arises writes
risen [] n = rw (firsts_nil tells_write same_write) alone
risen (x ∷ h) n = go (tells_write x h) refl (risen h (λ a. n (inr a)))
  where
    pick : (w : Write) (s : Bool) → tells_write x h ≡ Some w → any_of (same_write w) (firsts same_write tells_write h) ≡ s
        → Risen (firsts same_write tells_write h)
        → Risen (firsts same_write tells_write (x ∷ h))
    pick w true t k r = rw (firsts_known same_write tells_write x h w t k) r
    pick w false t k r =
        let g = has_generation x h t k (λ z. n (inl z)) w.generation refl in
        rw (firsts_hit same_write tells_write x h w t k) (above g.1 (none_opposed x h t k (λ z. n (inl z)) g.1) r)

    go : (o : Option Write) → tells_write x h ≡ o → Risen (firsts same_write tells_write h) → Risen (firsts same_write tells_write (x ∷ h))
    go None t r = rw (firsts_skip same_write tells_write x h t) r
    go (Some w) t r = pick w (any_of (same_write w) (firsts same_write tells_write h)) t refl r

-- THE LAW: while the generations report is a pass, some earlier write of a key opposes a new one exactly where the key's last does
pub last_write_decides : (h : History) → (report_of (at_last generations_at) h).verdict ≡ Pass → (key : Key) (range g : ℕ)
    → any_of (λ o. key_eqb o.key key && opposes range g o) (writes h) ≡ holds (opposes range g) (latest_of (is_earlier key) (writes h))
last_write_decides h p key range g = last_decides key range g (risen h (none_arose generations_at h p))
