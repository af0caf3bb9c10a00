-- `step`: the check is asked, and what it answers is entered.
use mathlib.Core.Path.{refl}
use borrow.Author.Rules.{rules}
use Rattle.intake.proofs.step.step.Goals as goal

pub returns-then-passes : goal.returns-then-passes
returns-then-passes g c = record {
  left = λ e. search rules;
  kept = λ e. search rules;
  asked = λ e f. (c.check.result, (c.args.past, c.args.rec, refl, refl, c.check.ensures), c.enter.ensures);
}
