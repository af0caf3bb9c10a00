-- The standing values: one at each range and index, the first put there; newest first, so that their records' numbers fall.
use mathlib.Core.Path.{◌≡◌, refl, sym, ap}
use mathlib.Core.List.{◌∷◌}
use Rattle.record.specs.Records.{TraceRecord}
use Rattle.rules.specs.History.{History, add_some, add_first, told, firsts}
use Rattle.rules.specs.Descriptors.{Entry, put_by, stated_by, role_of, tells_put, same_place, standing, stated}
use Rattle.rules.proofs.Members.{Mem}
use Rattle.rules.proofs.Firsts.{Apart, apart_one, firsts_apart, FirstBy, firsts_by, by_firsts}
use Rattle.rules.proofs.Once.{by_same, same_by_sameness}
use Rattle.rules.proofs.Numbered.{Falling, firsts_fall}
use Rattle.rules.proofs.Roles.{puts_entry}

-- what one more record adds to the standing values, and to the statements
module _ (x : TraceRecord) (h : History) where
  pub standing_cons : standing (x ∷ h) ≡ add_first same_place (put_by (role_of x h) x h) (standing h)
  unfolding standing firsts
  standing_cons = refl

  pub stated_cons : stated (x ∷ h) ≡ add_some (stated_by (role_of x h) x h) (stated h)
  unfolding stated told
  stated_cons = refl

-- ---- the standing values

module _ (h : History) where
  -- no two have one range and index
  pub standing_apart : Apart same_place (standing h)
  unfolding standing
  standing_apart = firsts_apart same_place tells_put h

  pub standing_one : (v w : Entry) → Mem v (standing h) → Mem w (standing h) → v.range ≡ w.range → v.index ≡ w.index → v ≡ w
  standing_one v w m n r i =
      let k = by_same (λ (v : Entry). v.range) (λ v. v.index) in
      apart_one standing_apart m n (k v w r i) (k w v (sym r) (sym i))

  -- they are exactly the first puts: before each nothing was put at its range and index
  pub standing_first : {v : Entry} → Mem v (standing h) → FirstBy same_place tells_put v h
  unfolding standing
  standing_first m = firsts_by same_place tells_put (same_by_sameness (λ v. v.range) (λ v. v.index)) h m

  pub first_standing : {v : Entry} → FirstBy same_place tells_put v h → Mem v (standing h)
  unfolding standing
  first_standing w = by_firsts same_place tells_put w

  pub standing_falls : Falling (λ v. v.number) (standing h)
  unfolding standing
  standing_falls = firsts_fall (λ v. v.number) tells_put (λ x g v e. ap (λ (u : Entry). u.number) (puts_entry x g e)) same_place h
