-- A mixed number is below 2^32, so its product with C fits, and its share of C is below C.
use mathlib.Core.Path.{refl}
use native.Mathlib.Omega.{arith}
use native.Mathlib.Nat.{mul-le-mul_left}
use Rattle.history.specs.Buckets.{bucket}
use Rattle.history.proofs.Mixing.{bucket_below}
use Rattle.history.proofs.bucket.bucket_of.Goals as goal

pub overflow_mul-result : goal.overflow_mul-result
overflow_mul-result c = let l = mul-le-mul_left c.args.m c.requires.1.0 in omega (arith, l)

pub returns : goal.returns
unfolding bucket
returns c = (refl, bucket_below _ _ c.requires.0 c.requires.1.1)
