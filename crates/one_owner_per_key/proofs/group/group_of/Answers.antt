-- The length first, then the tenant in the first eight bytes, then the group in the next.
use borrow.Author.Tests.{tests}
use Rattle.std.proofs.Common.{rules}
use Rattle.rules.proofs.Groups.{group_short}
use Rattle.one_owner_per_key.proofs.Spans.{group_is}
use Rattle.one_owner_per_key.proofs.group.group_of.Goals as goal

pub returns-then-start-lt16 : goal.returns-then-start-lt16
returns-then-start-lt16 c = rw (← c.key-start.ensures) (group_short c.args.tenant _ c.if-start-lt16.true)

pub returns : goal.returns
returns c =
    rw (← c.key-start.ensures)
    (group_is c.args.tenant c.key-start.result.now c.big64.result c.then.result c.if-start-lt16.false c.big64.ensures (λ b g. search (rules, tests))
    c.then.ensures.variant
    c.then.ensures.some)
