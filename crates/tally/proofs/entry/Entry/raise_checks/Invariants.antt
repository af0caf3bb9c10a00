-- `raise_checks`: record by record, the places of the first k records are raised.
use Rattle.std.proofs.Common.{◌≡◌, ◌*◌}
use Rattle.tally.specs.Counts.{place_count}
use Rattle.tally.specs.Raising.{tallied_to}
use Rattle.tally.proofs.entry.Entry.raise_checks.Given as goal

abbrev pub invariant-loop-k : goal.invariant-loop-k
invariant-loop-k l = l.tally ≡ tallied_to (place_count * l.k) l.initial.tally l.self.places l.self.taken
