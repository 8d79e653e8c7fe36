-- The lines of a series' rows, made of its metric name and of its label set as it is printed (Prometheus text exposition format, "Line format").
use Rattle.std.specs.Prelude.{ℕ, List, [], ◌++◌, flat_map, ℤ, pos, Some, None, unwrap_or, codes}
use Rattle.std.specs.Arc.{arc_value}
use Rattle.metrics_core.specs.Numbers.{page_number, whole}
use Rattle.metrics_registry.specs.Quantiles.{nearest_rank}
use Rattle.metrics_registry.specs.Cumulative.{HistogramText}
use Rattle.rolling_summaries.specs.Summaries.{Summary, snapshot_at}
use Rattle.prom_format.specs.PrintedRows.{row_line}
use Rattle.distributions.specs.declared.distribution.Distribution.{Distribution}
use Rattle.distributions.specs.declared.distribution.Distribution.TheVariants as variants

module _ (name labels : List ℕ) where
  -- a bound with the number of samples at most the bound; the number of all samples
  abbrev pub bucket_line : ℤ × ℕ → List ℕ
  bucket_line bucket = row_line name None (Some (codes "bucket")) labels (Some (codes "le", page_number bucket.0)) (whole bucket.1)

  abbrev pub last_bucket_line : ℕ → List ℕ
  last_bucket_line count = row_line name None (Some (codes "bucket")) labels (Some (codes "le", codes "+Inf")) (whole count)

  abbrev pub sum_and_count_lines : ℤ → ℕ → List ℕ
  sum_and_count_lines sum count =
      row_line name None (Some (codes "sum")) labels None sum
      ++ row_line name None (Some (codes "count")) labels None (whole count)

  -- a quantile with its value; the same among values, 0 where there is none
  abbrev pub quantile_line : ℕ → ℤ → List ℕ
  quantile_line q value = row_line name None None labels (Some (codes "quantile", page_number (pos q))) value

  abbrev pub value_line : List ℤ → ℕ → List ℕ
  value_line values q = quantile_line q (unwrap_or (nearest_rank q values) (pos 0))

  abbrev pub histogram_lines : HistogramText → List ℕ
  histogram_lines histogram =
      flat_map bucket_line histogram.buckets ++ last_bucket_line histogram.count ++ sum_and_count_lines histogram.sum histogram.count

  abbrev pub summary_lines : ℕ → Summary → List ℕ → ℤ → List ℕ
  summary_lines t window quantiles sum =
      flat_map (value_line (snapshot_at t window)) quantiles ++ sum_and_count_lines sum window.count

  -- what a distribution shows at a moment; a native histogram nothing
  abbrev pub shown_lines : ℕ → Distribution → List ℕ
  shown_lines t (variants.Histogram histogram) = histogram_lines histogram
  shown_lines t (variants.Summary window quantiles sum) = summary_lines t window (arc_value quantiles).items sum
  shown_lines t (variants.NativeHistogram histogram) = []
