-- Settings of a native histogram (this project's rule): the factors are 2, 4, 16, 256 and 65536.
use Rattle.std.specs.Prelude.{◌≡◌, ℕ, ◌^◌, ◌≤◌, ◌<◌, ◌≤ℤ◌, ◌==◌, List, [], ◌∷◌, codes, ℤ, pos, int_le, int_lt, Option, Some, None, is_none, find, if◌then◌else◌}
use Rattle.std.specs.Ordering.{int_eq}
use Rattle.metrics_core.specs.Numbers.{one, whole}
use Rattle.native_histograms.specs.Native.{NativeText}

-- the factor between neighbouring bounds at the schema minus `depth`: 2 ^ (2 ^ depth)
abbrev pub factor_of : ℕ → ℤ
factor_of depth = whole (2 ^ (2 ^ depth))

-- the depth that a factor starts at, if it is one of the list
abbrev pub depth_of : ℤ → Option ℕ
depth_of factor = find (λ depth. int_eq (factor_of depth) factor) (0 ∷ 1 ∷ 2 ∷ 3 ∷ 4 ∷ [])

-- why settings are refused: the first that holds
abbrev pub refusal : ℤ → ℕ → ℤ → Option (List ℕ)
refusal factor max_buckets threshold =
    if int_le factor (pos one) then Some (codes "bucket_factor must be greater than 1.0")
    else if is_none (depth_of factor) then Some (codes "bucket_factor must be 2, 4, 16, 256 or 65536")
    else if max_buckets == 0 then Some (codes "max_buckets must be greater than 0")
    else if int_lt threshold (pos 0) then Some (codes "zero_threshold must be non-negative")
    else None

-- settings that aren't refused, and what they keep
pub record Accepts (factor : ℤ) (greatest : ℕ) (zero : ℤ) (config : NativeText) : Type 0 where
  pub no_refusal : refusal factor greatest zero ≡ None
  pub depth : depth_of factor ≡ Some config.depth
  pub max_buckets : config.max_buckets ≡ greatest
  pub threshold : config.threshold ≡ zero

-- what all settings keep to
pub record IsInRange (config : NativeText) : Type 0 where
  pub depth : config.depth ≤ 4
  pub max_buckets : 0 < config.max_buckets
  pub threshold : pos 0 ≤ℤ config.threshold
