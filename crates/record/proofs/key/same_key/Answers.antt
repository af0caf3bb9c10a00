-- Places that hold the same have the same key; else the two parts are the keys in the two places.
use mathlib.Core.Path.{sym, ◌∙◌}
use mathlib.Core.Bool.{◌&&◌}
use lib.Dec.{eqb}
use lib.ListN.{length}
use Rattle.record.specs.Limits.{key_size}
use Rattle.record.proofs.Keys.{places_key, same_is}
use Rattle.record.proofs.key.same_key.Goals as goal

pub returns-then-same_place : goal.returns-then-same_place
returns-then-same_place c =
    let a = c.args in
    let whole = eqb (length a.a.now) key_size && eqb (length a.b.now) key_size in
    let same = c.if-same_place.true in
    same ∙ sym (places_key a.a.now a.b.now whole (sym c.same_place.ensures ∙ same))

pub returns-else-same_place : goal.returns-else-same_place
returns-else-same_place c = rw (← c.key.ensures, ← c.key-else-same_place.ensures) (c.eq.ensures ∙ same_is _ _)
