-- Which of C buckets numbers belong to. Any function below C would do; this one spreads numbers that follow each other.
use Rattle.std.specs.Prelude.{ℕ, ◌+◌, ◌*◌, ◌/◌, ◌%◌}

-- the two halves of a 64-bit number, added
abbrev pub fold : ℕ → ℕ
fold a = (a % 4294967296 + a / 4294967296) % 4294967296

-- a 32-bit number, mixed
abbrev pub mix : ℕ → ℕ
mix a = fold a * 2654435769 % 4294967296

-- a number mixed with what was mixed before
abbrev pub mix_after : ℕ → ℕ → ℕ
mix_after m a = mix (m + fold a)

-- the bucket of a mixed number: its share of C
unfoldable pub bucket : ℕ → ℕ → ℕ
bucket cap m = m * cap / 4294967296

-- the bucket of one number, and of two
abbrev pub bucket_by : ℕ → ℕ → ℕ
bucket_by cap a = bucket cap (mix a)

abbrev pub bucket_by_two : ℕ → ℕ → ℕ → ℕ
bucket_by_two cap a b = bucket cap (mix_after (mix a) b)
