-- The name that stands at a key, found newest first: each name that covers the key is weighed against the best so far.
use mathlib.Core.Path.{◌≡◌}
use mathlib.Core.List.{List, [], ◌∷◌}
use Rattle.std.specs.Prelude.{Option}
use Prim.Native.Nat.{ℕ}
use Rattle.record.specs.Keys.{Key}
use Rattle.rules.specs.MetaNeverGoesBack.{Name, covers, standing_name}
use Rattle.history.specs.Weighing.{greater_of}
use Rattle.history.proofs.Queries.{greatest_turns, greatest_end}
use Rattle.meta_never_goes_back.specs.Walk.{stood_with}

abbrev pub index_of : Name → ℕ
index_of n = n.index

pub stood_turn : (c : Key) (v : Name) (ns : List Name) (best : Option Name)
    → greater_of index_of best (standing_name (v ∷ ns) c) ≡ greater_of index_of (stood_with c best v) (standing_name ns c)
unfolding standing_name
stood_turn c v ns best = (greatest_turns index_of (covers c)).turn best v ns

pub stood_end : (c : Key) (best : Option Name) → greater_of index_of best (standing_name [] c) ≡ best
unfolding standing_name
stood_end c best = greatest_end index_of (covers c) best
