-- Laws of the buckets: a mixed number is below 2^32, and its share of C is below C.
use mathlib.Core.Path.{◌≡◌, ◌∙◌}
use Prim.Native.Nat.{ℕ, ◌+◌, ◌*◌, ◌%◌, ◌<◌}
use native.Mathlib.Omega.{arith}
use native.Mathlib.Nat.{mul_comm, mod-lt, mul-lt-mul_of_pos_left, div-lt_iff_lt-mul}
use Rattle.history.specs.Buckets.{fold, mix, mix_after, bucket, bucket_by, bucket_by_two}

pub share : (cap m : ℕ) → 0 < cap → m < 4294967296 → m * cap < cap * 4294967296
share cap m h l = rw (mul_comm m cap) (mul-lt-mul_of_pos_left l h)

pub mixed_is : (a : ℕ) (f : ℕ) → f ≡ fold a → (f * 2654435769 % 4294967296 ≡ mix a) × (f * 2654435769 % 4294967296 < 4294967296)
mixed_is a f e = (rw e, mod-lt (f * 2654435769) (omega arith))

pub mixed_after_is : (a m : ℕ) {f r : ℕ} → f ≡ fold a → (r ≡ mix (m + f)) × (r < 4294967296) → (r ≡ mix_after m a) × (r < 4294967296)
mixed_after_is a m e g = (g.0 ∙ rw e, g.1)

-- so a bucket is below C
pub bucket_below : (cap m : ℕ) → 0 < cap → m < 4294967296 → bucket cap m < cap
unfolding bucket
bucket_below cap m h l = (div-lt_iff_lt-mul {k = 4294967296} (omega arith)).1 (share cap m h l)

pub one_below : {cap : ℕ} (a : ℕ) → 0 < cap → bucket_by cap a < cap
one_below {cap} a h = bucket_below cap (mix a) h (mod-lt (fold a * 2654435769) (omega arith))

pub two_below : {cap : ℕ} (a b : ℕ) → 0 < cap → bucket_by_two cap a b < cap
two_below {cap} a b h = bucket_below cap (mix_after (mix a) b) h (mod-lt (fold (mix a + fold b) * 2654435769) (omega arith))
