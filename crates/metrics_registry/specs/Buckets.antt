-- A bucket as the program has it.
use Rattle.std.specs.Prelude.{ℕ, ◌+◌, ℤ, int_le, if◌then◌else◌}
use Rattle.metrics_core.specs.Numbers.{in_64_bits}
use Rattle.metrics_core.specs.declared.numbers.Fixed.{Fixed}

-- the bound of a bucket and its count
abbrev pub bucket_of : Fixed × ℕ → ℤ × ℕ
bucket_of bucket = (bucket.0.0, bucket.1)

-- the bucket after a value was observed so many times
abbrev pub raised_bucket : ℤ → ℕ → Fixed × ℕ → Fixed × ℕ
raised_bucket value count bucket =
    (bucket.0, if int_le value bucket.0.0 then in_64_bits (bucket.1 + count) else bucket.1)
