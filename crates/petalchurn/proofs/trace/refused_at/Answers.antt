-- `refused_at`: 0 or the number.
use mathlib.Core.Path.{sym, ap}
use mathlib.Core.Bool.{Bool, cond}
use borrow.Author.Tests.{ne_eqb}
use Rattle.decision.proofs.Decisions.{refuses}
use Rattle.petalchurn.proofs.trace.refused_at.Goals as goal

pub returns-in-Err : goal.returns-in-Err
returns-in-Err c = rw c.in-Err.is (sym (ap (λ (b : Bool). cond b 0 c.args.at) (ne_eqb _ 0 (refuses c.in-Err.field-0))))
