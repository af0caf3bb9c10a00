-- What `filter` and `map_or` of an `Option` give, by the test or the value that their closures compute.
use mathlib.Core.Path.{◌≡◌, refl, ap, ◌∙◌}
use mathlib.Core.Bool.{Bool, true, false}
use Rattle.std.specs.Prelude.{Option, None, Some, MatchOption}
use Rattle.std.specs.Bool.{then_some}
use Rattle.std.specs.Option.{unwrap_or, option_map}
use Rattle.std.proofs.lemmas.Map.Entries.{option_filter}
use Prim.Native.Nat.{ℕ}
use Rattle.history.specs.declared.walk.Taken.{Taken}
use Rattle.history.specs.Pasts.{number_of}

then_some_is : {A : Type 0} (b : Bool) (x : A) → then_some b x ≡ option_filter (λ _. b) (Some x)
then_some_is true x = refl
then_some_is false x = refl

pub filtered : {A : Type 0} {Returns : A → Bool → Type 0} {test : A → Bool} → ((x : A) (b : Bool) → Returns x b → b ≡ test x)
    → (o r : Option A) → MatchOption o (r ≡ None) (λ x. (b : Bool) × Returns x b × (r ≡ then_some b x)) → r ≡ option_filter test o
filtered calls None r m = m
filtered calls (Some x) r m = m.2 ∙ then_some_is m.0 x ∙ ap (λ (b : Bool). option_filter (λ _. b) (Some x)) (calls x m.0 m.1)

pub mapped_or : {A B : Type 0} {value : A → B} (default : B) {r : B} {Gives : A → Type 0} → ((x : A) → Gives x → r ≡ value x)
    → (o : Option A) → MatchOption o (r ≡ default) Gives → r ≡ unwrap_or (option_map value o) default
mapped_or default calls None m = m
mapped_or default calls (Some x) m = calls x m

-- the number of what was found
pub numbered : {n : ℕ} {Gives : Taken → Type 0} → ((x : Taken) → Gives x → n ≡ x.number) → (o : Option Taken) → MatchOption o (n ≡ 0) Gives
    → n ≡ number_of o
numbered calls None m = m
numbered calls (Some x) m = calls x m
