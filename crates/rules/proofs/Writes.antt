-- Laws of the writes of records: which records have one, by their fields.
use mathlib.Core.Path.{◌≡◌, refl, sym, ap}
use mathlib.Core.Bool.{Bool, true, false, ◌&&◌}
use Prim.Native.Nat.{ℕ}
use lib.ListN.{length}
use lib.Dec.{eqb, leb}
use Rattle.record.specs.declared.named.ApplyEffect.TheVariants.{Applied}
use Rattle.record.specs.Named.{effect_of, effect_number}
use Rattle.record.specs.Records.{TraceRecord}
use Rattle.rules.specs.History.{is_kind}
use Rattle.rules.specs.GenerationsRise.{has_effect}

-- an Applied write with a key
abbrev pub is_write : TraceRecord → Bool
is_write x = has_effect Applied x && leb 1 (length x.spans)

-- an Applied write is one with sub-code 1
applied_code : (c : ℕ) → eqb (effect_number (effect_of c)) 1 ≡ eqb c 1
applied_code c = go (eqb c 1) (eqb c 2) (eqb c 3) (eqb c 4) (eqb c 5) (eqb c 6) refl refl refl refl refl refl
  where
    go : (s t u v w x : Bool) → eqb c 1 ≡ s → eqb c 2 ≡ t → eqb c 3 ≡ u → eqb c 4 ≡ v → eqb c 5 ≡ w → eqb c 6 ≡ x → eqb (effect_number (effect_of c)) 1 ≡ s
    go true t u v w x a b d e f g = rw a
    go false true u v w x a b d e f g = rw (a, b)
    go false false true v w x a b d e f g = rw (a, b, d)
    go false false false true w x a b d e f g = rw (a, b, d, e)
    go false false false false true x a b d e f g = rw (a, b, d, e, f)
    go false false false false false true a b d e f g = rw (a, b, d, e, f, g)
    go false false false false false false a b d e f g = rw (a, b, d, e, f, g)

pub write_test : (x : TraceRecord) {k c n : ℕ} → k ≡ x.kind → c ≡ x.code → n ≡ length x.spans
    → eqb k 3 && eqb c 1 && leb 1 n ≡ is_write x
write_test x p q r = rw (p, q, r) (ap (λ (t : Bool). (is_kind 3 x && t) && leb 1 (length x.spans)) (sym (applied_code x.code)))

-- only a RaftApply has one
pub not_apply : (x : TraceRecord) → is_kind 3 x ≡ false → is_write x ≡ false
not_apply x e = rw e
