-- The kind, and then whether a record was found.
use Rattle.ids_unique.proofs.Notes.{first_not, first_found}
use Rattle.ids_unique.proofs.note.is_first.Goals as goal

pub returns-then-kind-eq11-clause-first : goal.returns-then-kind-eq11-clause-first
returns-then-kind-eq11-clause-first c =
    λ k. first_found _ c.args.past.now c.grant_at.result c.grant_at.ensures.found (c.grant_at.ensures.first k) c.b.ensures c.kind.ensures c.if-kind-eq11.true
    c.is_none.ensures

pub returns-else-kind-eq11-clause-first : goal.returns-else-kind-eq11-clause-first
returns-else-kind-eq11-clause-first c = λ k. first_not _ _ c.kind.ensures c.if-kind-eq11.false
