-- The latest that says what is held, against the latest end.
use borrow.Author.Tests.{tests}
use Rattle.std.proofs.Common.{rules}
use Rattle.history.proofs.Options.{filtered}
use Rattle.one_owner_per_key.proofs.Checks.{after, held_number}
use Rattle.one_owner_per_key.proofs.held.held_after.Goals as goal

pub returns-clause-held : goal.returns-clause-held
returns-clause-held c =
    let a = c.args in
    let o = c.hold_of in
    λ k e. held_number a.past.now a.node.0 a.range a.top o.result o.ensures.found (o.ensures.latest k) e
    (filtered {test = after a.ended} (λ x b q. search (rules, tests)) o.result c.filter.result c.filter.ensures)
