-- By the kind.
use mathlib.Core.Path.{sym, ◌∙◌}
use borrow.Author.Tests.{eq-eqb, ne_eqb}
use Rattle.splits.proofs.split.parent_of.Goals as goal

pub returns-then-kind-eq1 : goal.returns-then-kind-eq1
returns-then-kind-eq1 c = c.c.ensures ∙ rw (eq-eqb _ 1 (sym c.kind.ensures ∙ c.if-kind-eq1.true))

pub returns : goal.returns
returns c = c.a.ensures ∙ rw (ne_eqb _ 1 (λ z. c.if-kind-eq1.false (c.kind.ensures ∙ z)))
