-- The one registered split of its range and index.
use mathlib.Core.Path.{◌∙◌}
use Rattle.std.proofs.Common.{rules}
use borrow.Author.Tests.{tests}
use Prim.Native.Nat.{◌-◌}
use Rattle.history.proofs.Logs.{record_bytes}
use Rattle.history.proofs.Options.{filtered}
use Rattle.debts.proofs.Debts.{voted, applied_is}
use Rattle.debts.proofs.debt.applied_split.Goals as goal

pub returns-clause-is : goal.returns-clause-is
returns-clause-is c =
    let a = c.args in
    let o = c.split_of in
    let y = record_bytes a.past.now.log.now (a.old.now.number - 1) c.requires.bytes in
    λ ix. applied_is a.past.now ix (a.old.now.number - 1) a.right a.server.0 o.result o.ensures.found
    (o.ensures.latest ix ∙ rw (c.a-range.ensures, c.b-index.ensures, y))
    (filtered {test = voted a.right a.server.0} (λ x b q. search (rules, tests)) o.result c.filter.result c.filter.ensures)
