-- `answer_of`: kept, or cleared.
use Rattle.petalchurn.proofs.AnswerLaws.{answer_kept, answer_cleared}
use Rattle.petalchurn.proofs.answer.answer_of.Goals as goal

pub returns-then-refusal-eq0 : goal.returns-then-refusal-eq0
returns-then-refusal-eq0 c = answer_kept _ c.args.value c.if-refusal-eq0.true

pub returns-else-refusal-eq0 : goal.returns-else-refusal-eq0
returns-else-refusal-eq0 c = answer_cleared _ c.args.value c.if-refusal-eq0.false
