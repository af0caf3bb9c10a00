-- All registered splits from the walk's place on are taken over.
use Rattle.std.specs.Option.{option_map}
use Rattle.record.specs.Records.{decode}
use Rattle.history.specs.Pasts.{Indexed}
use Rattle.splits.specs.Columns.{Known}
use Rattle.splits.specs.Walk.{split_of, AreSplit}
use Rattle.splits.proofs.Finding.{OnSplits}
use Rattle.debts.proofs.Debts.{Covering}
use Rattle.debts.proofs.debt.covered_split.Given as goal

abbrev pub invariant-loop-split : goal.invariant-loop-split
invariant-loop-split l = record {
  on : OnSplits l.past l.split-iterator;
  found : AreSplit l.past l.best;
  covering : Indexed Known l.past
      → Covering l.past.log.now l.old.number (decode l.old.record.now) l.right l.server.0 l.split-iterator.next (option_map split_of l.best);
}
