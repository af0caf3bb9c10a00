-- Kind 1 names its own; kind 2 uses up the pending RangeSplit of its node.
use native.Mathlib.Omega.{arith}
use borrow.Author.Tests.{tests}
use Rattle.std.proofs.Common.{rules}
use Rattle.record.specs.Records.{decode}
use Rattle.history.proofs.Options.{filtered}
use Rattle.splits.proofs.Splits.{names_itself}
use Rattle.splits.proofs.States.{pendingly_is}
use Rattle.splits.proofs.Finding.{uses, names_found}
use Rattle.splits.proofs.split.names.Goals as goal

pub returns-then-is_created-clause-names : goal.returns-then-is_created-clause-names
returns-then-is_created-clause-names c =
    let a = c.args in
    λ ix node e. names_itself a.past.now.log.now (decode a.rec.now) a.past.now.count node c.is_created.ensures c.if-is_created.true

pub returns-clause-names : goal.returns-clause-names
returns-clause-names c =
    let a = c.args in
    let p = a.past.now in
    let o = c.pending_of in
    λ ix node e.
    let k = pendingly_is p.log.now node p.within (omega arith) e ix.1.pendings o.ensures.is in
    let q = names_found p (decode a.rec.now) node c.is_created.ensures c.if-is_created.false o.result o.ensures.found k
    (filtered {test = uses (decode a.rec.now)} (λ x b r. search (rules, tests)) o.result c.filter.result c.filter.ensures) in
    search rules
