-- Empty; above the greatest last; or what the walk found.
use Rattle.std.proofs.Common.{rules}
use Rattle.std.specs.Prelude.{Some}
use mathlib.Core.Path.{refl, ap}
use native.Mathlib.Omega.{arith}
use Rattle.record.specs.Records.{decode}
use Rattle.rules.specs.IdsUnique.{grant_by}
use Rattle.ids_unique.proofs.Sharing.{shared_none, shared_some}
use Rattle.ids_unique.proofs.Cases.{empty_case, apart_case, walk_case}
use Rattle.ids_unique.proofs.check.first_case.Goals as goal

pub returns-then-last-first : goal.returns-then-last-first
returns-then-last-first c =
    λ k. empty_case (grant_by (decode c.args.rec.now)) _ c.d-first.ensures
    c.e-last.ensures
    c.if-last-first.true
    c.b.ensures
    (ap Some c.new.ensures)

pub returns-then-greatest_last-first : goal.returns-then-greatest_last-first
returns-then-greatest_last-first c =
    let a = c.args in
    λ k. apart_case (grant_by (decode a.rec.now)) _ c.d-first.ensures c.e-last.ensures c.if-last-first.false
    (c.greatest_last.ensures a.past.now.log.now a.past.now.count (omega arith) (omega arith) k)
    c.if-greatest_last-first.true

pub returns-then-found : goal.returns-then-found
returns-then-found c =
    let a = c.args in
    λ k. walk_case (grant_by (decode a.rec.now)) _ c.d-first.ensures c.e-last.ensures c.if-last-first.false
    (shared_some _ _ _ (c.shared_with-found.ensures k) c.if-found.true)
    (search rules)

pub returns : goal.returns
returns c =
    let a = c.args in
    λ k. walk_case (grant_by (decode a.rec.now)) _ c.d-first.ensures c.e-last.ensures c.if-last-first.false
    (shared_none _ _ _ (c.shared_with-found.ensures k) c.if-found.false)
    refl
