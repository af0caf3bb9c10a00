-- The bucket of its range, given where the kind and the restated mark say so.
use mathlib.Core.Path.{◌∙◌}
use Rattle.std.proofs.Common.{rules}
use Rattle.std.proofs.lemmas.Option.{IfSome_then}
use Rattle.splits.proofs.Noting.{none_found, gives_when}
use Rattle.splits.proofs.note.recording_with.Goals as goal

pub returns-clause-is : goal.returns-clause-is
returns-clause-is c =
    let o = c.restatement_by in
    gives_when _ _ c.then.result
    (c.then.ensures.variant ∙ rw (c.kind.ensures, none_found c.args.past.now o.result o.ensures.found c.is_none.ensures, o.ensures.is))
    (IfSome_then c.then.result c.then.ensures.some (λ k g. search rules))
