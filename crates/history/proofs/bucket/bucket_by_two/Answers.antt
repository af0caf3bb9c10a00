-- The bucket of what was mixed: each step is the one that the definition has.
use Rattle.history.specs.Buckets.{bucket, mix_after}
use mathlib.Core.Path.{ap, ◌∙◌}
use Rattle.history.proofs.bucket.bucket_by_two.Goals as goal

pub returns : goal.returns
returns c = (c.bucket_of.ensures.0 ∙ ap (bucket _) (c.mixed_after.ensures.0 ∙ ap (λ m. mix_after m c.args.b) c.mixed.ensures.0), c.bucket_of.ensures.1)
