-- The rows of a histogram series on a page (Prometheus text exposition format, "Histograms and summaries").
use Rattle.std.specs.Prelude.{◌≡◌, ℕ, ◌*◌, List, [], ◌∷◌, ◌++◌, map, ℤ, pos, Option, Some, None, unwrap_or, codes}
use Rattle.std.specs.Arc.{arc_value}
use Rattle.metrics_core.specs.Numbers.{page_number, whole}
use Rattle.metrics_core.specs.Keys.{LabelText}
use Rattle.metrics_registry.specs.Quantiles.{nearest_rank}
use Rattle.metrics_registry.specs.Cumulative.{bucket_count, sample_count, sample_sum}
use Rattle.rolling_summaries.specs.Window.{Sample, window}
use Rattle.rolling_summaries.specs.Summaries.{empty_summary, snapshot_at}
use Rattle.rolling_summaries.specs.Standing.{NoneAfter, added_all}
use Rattle.prom_format.specs.Pages.{Row}
use Rattle.distributions.specs.declared.distribution.Distribution.{Distribution}
use Rattle.distributions.specs.declared.distribution.Distribution.TheVariants as variants
use Rattle.distributions.specs.Kinds.{DistributionKind, NativeHistogram, Histogram, Summary, SummaryText}
use Rattle.distributions.specs.Recording.{StandsFor, values_of}
use Rattle.histogram_series.specs.Entries.{TimedEntry, addition_of, samples_of_entries}
use Rattle.histogram_series.specs.Series.{HasRecorded}

-- a row of a series, from its suffix, the labels behind those of the series, and its value
abbrev pub RowMaker : Type 0
RowMaker = Option (List ℕ) → List LabelText → ℤ → Row

-- the values that a rolling summary has in its window at a moment after these entries were added in turn, whatever their moments
abbrev pub kept_values : ℕ → SummaryText → List TimedEntry → List ℤ
kept_values t built es = snapshot_at t (added_all (empty_summary built.bucket_count built.bucket_duration) (map addition_of es))

module _ (row : RowMaker) where
  -- the number of samples at most a bound; the number of all samples; their sum; the value at a quantile
  abbrev pub bucket_row : ℤ → ℕ → Row
  bucket_row bound count = row (Some (codes "bucket")) (record { key = codes "le"; value = page_number bound } ∷ []) (whole count)

  abbrev pub last_bucket_row : ℕ → Row
  last_bucket_row count = row (Some (codes "bucket")) (record { key = codes "le"; value = codes "+Inf" } ∷ []) (whole count)

  abbrev pub sum_and_count_rows : ℤ → ℕ → List Row
  sum_and_count_rows sum count = row (Some (codes "sum")) [] sum ∷ row (Some (codes "count")) [] (whole count) ∷ []

  abbrev pub quantile_row : ℕ → ℤ → Row
  quantile_row q value = row None (record { key = codes "quantile"; value = page_number (pos q) } ∷ []) value

  -- the value at a quantile of these values, 0 where there is none
  abbrev pub value_row : List ℤ → ℕ → Row
  value_row values q = quantile_row q (unwrap_or (nearest_rank q values) (pos 0))

  -- the rows that a distribution shows at a moment; a native histogram has none
  abbrev pub shown_rows : ℕ → Distribution → List Row
  shown_rows t (variants.Histogram histogram) =
      map (λ bucket. bucket_row bucket.0 bucket.1) histogram.buckets
      ++ last_bucket_row histogram.count
      ∷ sum_and_count_rows histogram.sum histogram.count
  shown_rows t (variants.Summary window quantiles sum) =
      map (value_row (snapshot_at t window)) (arc_value quantiles).items
      ++ sum_and_count_rows sum window.count
  shown_rows t (variants.NativeHistogram histogram) = []

  -- the rows of samples by their kind of distribution, where this is answered of the window of a summary that was built so
  abbrev pub rows_by : (SummaryText → List ℤ) → DistributionKind → List Sample → List Row
  rows_by windows (Histogram bounds) samples =
      map (λ bound. bucket_row bound (bucket_count bound (values_of samples))) bounds
      ++ last_bucket_row (sample_count (values_of samples))
      ∷ sum_and_count_rows (sample_sum (values_of samples)) (sample_count (values_of samples))
  rows_by windows (Summary built) samples =
      map (value_row (windows built)) built.quantiles
      ++ sum_and_count_rows (sample_sum (values_of samples)) (sample_count (values_of samples))
  rows_by windows (NativeHistogram config) samples = []

  -- the rows of samples, where the window has those that are in it by their moments
  abbrev pub sample_rows : ℕ → DistributionKind → List Sample → List Row
  sample_rows t kind samples =
      rows_by (λ built. window built.bucket_duration (built.bucket_count * built.bucket_duration) t samples) kind samples

  -- the rows of entries that were recorded in turn, whatever their moments
  abbrev pub recorded_rows : ℕ → DistributionKind → List TimedEntry → List Row
  recorded_rows t kind es = rows_by (λ built. kept_values t built es) kind (samples_of_entries es)

-- a distribution that stands for samples, none of them after a moment, shows their rows at that moment
abbrev pub ShowsSamples : Type 0
ShowsSamples =
    (row : RowMaker) (t : ℕ) (kind : DistributionKind) (samples : List Sample) (distribution : Distribution)
    → StandsFor kind samples distribution → NoneAfter t samples → shown_rows row t distribution ≡ sample_rows row t kind samples

-- a distribution that has entries recorded shows their rows at any moment
abbrev pub ShowsRecorded : Type 0
ShowsRecorded =
    (row : RowMaker) (t : ℕ) (kind : DistributionKind) (es : List TimedEntry) (distribution : Distribution)
    → HasRecorded kind es distribution → shown_rows row t distribution ≡ recorded_rows row t kind es
