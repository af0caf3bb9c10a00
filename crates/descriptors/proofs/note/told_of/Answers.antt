-- A record that neither puts nor states.
use mathlib.Core.Path.{sym, ap, ◌∙◌}
use Rattle.record.specs.Records.{decode}
use Rattle.history.specs.Pasts.{taken}
use Rattle.descriptors.specs.Answers.{role_is}
use Rattle.descriptors.proofs.Noting.{told_neither}
use Rattle.descriptors.proofs.note.told_of.Goals as goal

pub returns-in-Neither : goal.returns-in-Neither
returns-in-Neither c = λ k. told_neither (decode c.args.rec.now) (taken c.args.past.now) (sym (c.role_of.ensures k) ∙ ap role_is c.in-Neither.is)
