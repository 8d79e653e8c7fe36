-- Native histograms from scratch (Prometheus native histograms, standard exponential schemas 0 down to -4): the histogram
-- of a list of values. A value is a whole number of billionths.
use Rattle.std.specs.Prelude.{◌≡◌, ℕ, ◌+◌, ◌*◌, ◌^◌, ◌==◌, Bool, ◌&&◌, ◌||◌, not, nat_lt, nat_le, List, [], ◌∷◌, ◌++◌, map, length, replicate, flat_map, ℤ, pos, negsuc, ◌-ℤ◌, neg_ℤ, unsigned_abs, int_lt, FitsSigned, Option, Some, None, is_none, find, filter, filter_map, count_by, unwrap_or, if◌then◌else◌}
use Rattle.std.specs.Int.{w64}
use Rattle.std.specs.List.{range_with_len, FoldsTo, AllByRecursion}
use Rattle.std.specs.Map.{lookup}
use Rattle.std.specs.Ordering.{int_eq}
use Rattle.metrics_core.specs.Numbers.{one, in_64_bits}
use Rattle.metrics_registry.specs.Cumulative.{sample_sum, sample_count}

-- the schema at the start is minus `depth`; the greatest number of buckets; the threshold of zeros
pub record NativeText : Type 0 where
  pub depth : ℕ
  pub max_buckets : ℕ
  pub threshold : ℤ

-- whether a magnitude is at most 2 ^ (j * 2 ^ depth)
abbrev pub is_within : ℕ → ℕ → ℤ → Bool
is_within depth magnitude (pos j) = nat_le magnitude (one * 2 ^ (j * 2 ^ depth))
is_within depth magnitude (negsuc j) = nat_le (magnitude * 2 ^ ((j + 1) * 2 ^ depth)) one

-- the indices that a magnitude of one billionth to 2 ^ 63 billionths can have: -29 to 34
unfoldable pub indices : List ℤ
indices = map (λ k. pos k -ℤ pos 29) (range_with_len 0 64)

-- the least such index
unfoldable pub index_of : ℕ → ℕ → ℤ
index_of depth magnitude = unwrap_or (find (is_within depth magnitude) indices) (pos 0)

-- values over the threshold have positive buckets, those under minus the threshold negative ones, the others are zeros
abbrev pub is_positive : NativeText → ℤ → Bool
is_positive config v = int_lt config.threshold v

abbrev pub is_negative : NativeText → ℤ → Bool
is_negative config v = int_lt v (neg_ℤ config.threshold)

-- the indices of those values that pass a test
abbrev pub indices_where : (ℤ → Bool) → ℕ → List ℤ → List ℤ
indices_where test depth values = map (λ v. index_of depth (unsigned_abs v)) (filter test values)

-- the bucket of an index: how often it is there, modulo 2 ^ 64; none where it isn't there
abbrev pub bucket_at : List ℤ → ℤ → Option (ℤ × ℕ)
bucket_at found i = if count_by (int_eq i) found == 0 then None else Some (i, in_64_bits (count_by (int_eq i) found))

-- the buckets in ascending order
unfoldable pub buckets_of : List ℤ → List (ℤ × ℕ)
buckets_of found = filter_map (bucket_at found) indices

abbrev pub positive_buckets : NativeText → ℕ → List ℤ → List (ℤ × ℕ)
positive_buckets config depth values = buckets_of (indices_where (is_positive config) depth values)

abbrev pub negative_buckets : NativeText → ℕ → List ℤ → List (ℤ × ℕ)
negative_buckets config depth values = buckets_of (indices_where (is_negative config) depth values)

abbrev pub zero_count : NativeText → List ℤ → ℕ
zero_count config values = in_64_bits (count_by (λ v. not (is_positive config v || is_negative config v)) values)

-- how many buckets there are
abbrev pub bucket_total : NativeText → ℕ → List ℤ → ℕ
bucket_total config depth values = length (positive_buckets config depth values) + length (negative_buckets config depth values)

-- whether a value opens one bucket too many behind these values
abbrev pub opens_too_many : NativeText → ℕ → List ℤ → ℤ → Bool
opens_too_many config depth values v =
    nat_lt (bucket_total config depth values) (bucket_total config depth (values ++ v ∷ []))
    && nat_lt config.max_buckets (bucket_total config depth (values ++ v ∷ []))

-- a value that does lowers the schema by one, down to -4
abbrev pub depth_behind : NativeText → ℕ → List ℤ → ℤ → ℕ
depth_behind config depth values v = if nat_lt depth 4 && opens_too_many config depth values v then depth + 1 else depth

abbrev pub depth_after : NativeText → ℕ → List ℤ → List ℤ → ℕ
depth_after config depth before [] = depth
depth_after config depth before (v ∷ values) =
    depth_after config (depth_behind config depth before v) (before ++ v ∷ []) values

-- the schema after the values is minus this
abbrev pub native_depth : NativeText → List ℤ → ℕ
native_depth config values = depth_after config config.depth [] values

-- a histogram: its settings; the schema is minus the depth; the buckets, from index to count in ascending order; the counts
-- of zeros and of all values, modulo 2 ^ 64; the sum, wrapped in 128 bits
pub record NativeHistogramText : Type 0 where
  pub config : NativeText
  pub depth : ℕ
  pub positive : List (ℤ × ℕ)
  pub negative : List (ℤ × ℕ)
  pub zeros : ℕ
  pub sum : ℤ
  pub count : ℕ

-- the histogram of the values
abbrev pub native_of : NativeText → List ℤ → NativeHistogramText
native_of config values = record {
  config = config;
  depth = native_depth config values;
  positive = positive_buckets config (native_depth config values) values;
  negative = negative_buckets config (native_depth config values) values;
  zeros = zero_count config values;
  sum = sample_sum values;
  count = sample_count values;
}

-- whether a value opens a bucket: it is no zero, and its bucket isn't there
abbrev pub opens_beside : NativeText → ℕ → List (ℤ × ℕ) → List (ℤ × ℕ) → ℤ → Bool
opens_beside config depth positive negative v =
    if is_positive config v then is_none (lookup (int_eq (index_of depth (unsigned_abs v))) positive)
    else is_negative config v && is_none (lookup (int_eq (index_of depth (unsigned_abs v))) negative)

abbrev pub opens_bucket : NativeHistogramText → ℤ → Bool
opens_bucket histogram v = opens_beside histogram.config histogram.depth histogram.positive histogram.negative v

-- a histogram stands for the values, of 64 bits each, that were observed under its settings
abbrev pub StandsFor : NativeText → List ℤ → NativeHistogramText → Type 0
StandsFor config values histogram = AllByRecursion (FitsSigned w64) values × (histogram ≡ native_of config values)

-- a value observed so many times: whatever the histogram stood for, it then stands for that with these values behind it
abbrev pub Observes : NativeHistogramText → ℤ × ℕ → NativeHistogramText → Type 0
Observes old observed new =
    (config : NativeText) (values : List ℤ) → StandsFor config values old → StandsFor config (values ++ replicate observed.1 observed.0) new

-- the values of observations in turn
abbrev pub observed_values : List (ℤ × ℕ) → List ℤ
observed_values observations = flat_map (λ observed. replicate observed.1 observed.0) observations

-- the same values observed in any cuts give the same histogram
abbrev pub SameInAnyCuts : Type 0
SameInAnyCuts =
    (config : NativeText) (xs ys : List (ℤ × ℕ)) (a b : NativeHistogramText) → observed_values xs ≡ observed_values ys
    → FoldsTo Observes (native_of config []) xs a → FoldsTo Observes (native_of config []) ys b → a ≡ b
