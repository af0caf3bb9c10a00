-- By its recorded index, by its RangeSplit, or by the record itself.
use mathlib.Core.Path.{◌∙◌}
use borrow.Author.Tests.{tests}
use Rattle.std.proofs.Common.{rules}
use Rattle.record.specs.Records.{decode}
use Rattle.one_owner_per_key.proofs.Checks.{some_number}
use Rattle.splits.proofs.States.{refused_is, mark_is}
use Rattle.debts.proofs.Comings.{traced_found, first_early, first_itself}
use Rattle.debts.proofs.owed.is_applied_first.Goals.{then-is_reached, else-is_reached}
use Rattle.debts.proofs.owed.is_applied_first.Goals as goal

pub returns-then-is_some : goal.returns-then-is_some
returns-then-is_some c =
    let a = c.args in
    let p = a.past.now in
    λ k e.
    let r = refused_is p.log.now a.node.0 p.within c.requires.0 e k.1.refused c.refused_by-refused.ensures.1 in
    let reaches = c.is_reached.ensures k r in
    first_early p.log.now a.top a.node.0 (decode a.rec.now) c.parent_of-parent.ensures c.b-index.ensures
    (elim c.if-is_reached.branch [
      | then-is_reached w ↦ search (rules, tests)
      | else-is_reached w ↦
          let o = w.latest_asked in
          let traces = w.is_some.ensures ∙ traced_found p a.top a.node.0 r c.parent_of-parent.result c.b-index.result o.result o.ensures.found
          (o.ensures.latest k) in
          search (rules, tests)
    ]) c.if-is_some.true

pub returns-else-is_some : goal.returns-else-is_some
returns-else-is_some c =
    let a = c.args in
    let p = a.past.now in
    let m = c.restatement_by in
    λ k e.
    let r = refused_is p.log.now a.node.0 p.within c.requires.0 e k.1.refused c.refused_by-refused.ensures.1 in
    let reaches = c.is_reached.ensures k r in
    first_itself p.log.now a.top a.node.0 (decode a.rec.now) c.parent_of-parent.ensures c.b-index.ensures
    (elim c.if-is_reached.branch [
      | then-is_reached w ↦ search (rules, tests)
      | else-is_reached w ↦
          let o = w.latest_asked in
          let traces = w.is_some.ensures ∙ traced_found p a.top a.node.0 r c.parent_of-parent.result c.b-index.result o.result o.ensures.found
          (o.ensures.latest k) in
          search (rules, tests)
    ]) c.if-is_some.false
    (c.is_some-else-is_some.ensures ∙ some_number p m.result m.ensures.found
    ∙ mark_is p.log.now a.node.0 p.within c.requires.0 e k.1.restated m.ensures.is)
    c.is_reaching.ensures
