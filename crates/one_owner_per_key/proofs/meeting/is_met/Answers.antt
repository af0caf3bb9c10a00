-- The span of what is held, where it is.
use borrow.Author.Tests.{tests}
use Rattle.std.proofs.Common.{rules}
use Rattle.record.specs.Records.{decode}
use Rattle.rules.specs.Descriptors.{span_of}
use Rattle.rules.specs.OneOwnerPerKey.{meets}
use Rattle.one_owner_per_key.proofs.Checks.{met_is}
use Rattle.one_owner_per_key.proofs.meeting.is_met.Goals as goal

pub returns : goal.returns
returns c =
    let a = c.args in
    let p = a.past.now in
    let h = c.held_after in
    λ k e. met_is p a.node.0 a.range p.count h.result h.ensures.found (h.ensures.held k e) (meets (span_of a.k (decode a.rec.now))) c.is_some_and.result
    (λ y g. search (rules, tests))
    c.is_some_and.ensures
