-- `GenerationsRise`: the writes that count, and the generations check.
use Rattle.std.specs.Prelude.{Bool, true, not, ◌&&◌, ◌||◌, List, [], ◌∷◌, ℕ, length, eqb, ltb, leb, Option, None, Some}
use Rattle.record.specs.declared.named.ApplyEffect.{ApplyEffect}
use Rattle.record.specs.declared.named.ApplyEffect.TheVariants.{Applied}
use Rattle.record.specs.Keys.{Key, key_eqb}
use Rattle.record.specs.Named.{effect_of, effect_number}
use Rattle.record.specs.Records.{TraceRecord}
use Rattle.rules.specs.Cases.{Case, fault, fault_if, case_of}
use Rattle.rules.specs.Views.{apply_by}
use Rattle.rules.specs.History.{History, is_kind, when, any_of, holds, firsts, latest_of}
use Rattle.rules.specs.Descriptors.{Entry, span_of, before}

-- a RaftApply with this effect
abbrev pub has_effect : ApplyEffect → TraceRecord → Bool
has_effect f x = is_kind 3 x && eqb (effect_number (effect_of x.code)) (effect_number f)

-- a write, with the generation of `before` at its record, where there is one
pub record Write : Type 0 where
  pub range : ℕ
  pub index : ℕ
  pub key : Key
  pub generation : Option ℕ

abbrev pub generation_of : Option Entry → Option ℕ
generation_of None = None
generation_of (Some v) = Some v.held.generation

-- an "Applied write with a key"
abbrev pub tells_write : TraceRecord → History → Option Write
tells_write x h =
    when (has_effect Applied x && leb 1 (length x.spans))
    (record {
      range = (apply_by x).range;
      index = (apply_by x).index;
      key = (span_of 0 x).start;
      generation = generation_of (before (apply_by x).range (apply_by x).index h);
    })

abbrev pub same_write : Write → Write → Bool
same_write w o = eqb w.range o.range && eqb w.index o.index

-- the writes that count: "The first Applied write with a key at each (range, index) counts", newest first
unfoldable pub writes : History → List Write
writes = firsts same_write tells_write

-- an earlier write of that key that has a generation
abbrev pub is_earlier : Key → Write → Bool
is_earlier key o = key_eqb o.key key && holds (λ g. true) o.generation

-- "an earlier write of that key has a higher generation, or another range and the same generation"
abbrev pub opposes : ℕ → ℕ → Write → Bool
opposes range generation o =
    holds (λ g. ltb generation g || (not (eqb o.range range) && eqb g generation)) o.generation

abbrev pub last_generation : Option ℕ → ℕ
last_generation None = 0
last_generation (Some g) = g

-- kind 2: "range, index, generation, then the key's last write's generation and range"
abbrev pub rise_fault : Write → ℕ → List Write → Case
rise_fault w g ws =
    fault_if (any_of (λ o. key_eqb o.key w.key && opposes w.range g o) ws)
    (case_of (λ o. fault 2 (w.range ∷ w.index ∷ g ∷ last_generation o.generation ∷ o.range ∷ [])) (latest_of (is_earlier w.key) ws))

-- a write that counts: "Kind 1: none: range, index", else kind 2
abbrev pub write_fault : Write → Option ℕ → List Write → Case
write_fault w None ws = fault 1 (w.range ∷ w.index ∷ [])
write_fault w (Some g) ws = rise_fault w g ws

-- the generations case of a record
unfoldable pub generations_at : TraceRecord → History → Case
generations_at x h =
    case_of (λ w. fault_if (not (any_of (same_write w) (writes h))) (write_fault w w.generation (writes h))) (tells_write x h)
