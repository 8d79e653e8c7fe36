-- Cumulative buckets, sums and counts of a list of samples (Prometheus text exposition format, "Histograms and summaries").
use Rattle.std.specs.Prelude.{◌≡◌, ℕ, List, [], ◌++◌, map, flat_map, length, replicate, ℤ, pos, int_le, fold, count_by}
use Rattle.std.specs.List.{FoldsTo}
use Rattle.metrics_core.specs.Numbers.{in_64_bits, add_128}

abbrev pub count_at_most : ℤ → List ℤ → ℕ
count_at_most bound samples = count_by (λ v. int_le v bound) samples

-- how many samples are at most a bound, and how many there are; counts are kept modulo 2 ^ 64
abbrev pub bucket_count : ℤ → List ℤ → ℕ
bucket_count bound samples = in_64_bits (count_at_most bound samples)

abbrev pub sample_count : List ℤ → ℕ
sample_count samples = in_64_bits (length samples)

-- sums wrap in 128 bits
abbrev pub sample_sum : List ℤ → ℤ
sample_sum samples = fold add_128 (pos 0) samples

-- a histogram: each bound with its count, in the order of the bounds; the sum, and the count of all samples
pub record HistogramText : Type 0 where
  pub buckets : List (ℤ × ℕ)
  pub sum : ℤ
  pub count : ℕ

-- the histogram of the samples
abbrev pub histogram_of : List ℤ → List ℤ → HistogramText
histogram_of bounds samples = record {
  buckets = map (λ bound. (bound, bucket_count bound samples)) bounds;
  sum = sample_sum samples;
  count = sample_count samples;
}

-- a histogram stands for the samples that were observed under its bounds
abbrev pub StandsFor : List ℤ → List ℤ → HistogramText → Type 0
StandsFor bounds samples histogram = histogram ≡ histogram_of bounds samples

-- a value observed so many times: whatever the histogram stood for, it then stands for that with these samples behind it
abbrev pub Observes : HistogramText → ℤ × ℕ → HistogramText → Type 0
Observes old observed new =
    (bounds samples : List ℤ) → StandsFor bounds samples old → StandsFor bounds (samples ++ replicate observed.1 observed.0) new

-- the samples of observations in turn
abbrev pub observed_samples : List (ℤ × ℕ) → List ℤ
observed_samples observations = flat_map (λ observed. replicate observed.1 observed.0) observations

-- the same samples observed in any cuts give the same buckets, sum and count
abbrev pub SameInAnyCuts : Type 0
SameInAnyCuts =
    (bounds : List ℤ) (xs ys : List (ℤ × ℕ)) (a b : HistogramText) → observed_samples xs ≡ observed_samples ys
    → FoldsTo Observes (histogram_of bounds []) xs a → FoldsTo Observes (histogram_of bounds []) ys b → a ≡ b
