-- The bucket of what was mixed: each step is the one that the definition has.
use Rattle.history.specs.Buckets.{bucket}
use mathlib.Core.Path.{ap, ◌∙◌}
use Rattle.history.proofs.bucket.bucket_by.Goals as goal

pub returns : goal.returns
returns c = (c.bucket_of.ensures.0 ∙ ap (bucket _) c.mixed.ensures.0, c.bucket_of.ensures.1)
