-- The rows that a distribution shows of the samples that it stands for.
use Rattle.std.proofs.Common.{◌≡◌, ℕ, ◌*◌, List, [], ◌∷◌, ◌++◌, map, ℤ, pos, refl, sym, ap, ◌∙◌}
use Rattle.std.specs.Prelude.{unwrap_or}
use Rattle.std.specs.declared.vec.Vec.{Vec}
use Rattle.std.specs.declared.alloc.Global.{Global}
use Rattle.std.specs.declared.sync.Arc.{Arc}
use Rattle.metrics_core.specs.Numbers.{in_64_bits}
use Rattle.metrics_registry.specs.Cumulative.{HistogramText, histogram_of, bucket_count, sample_count, sample_sum}
use Rattle.metrics_registry.specs.QuantileLaws.{nearest_rank-ascending}
use Rattle.rolling_summaries.specs.Window.{Sample, window}
use Rattle.rolling_summaries.specs.Summaries.{snapshot_at}
use Rattle.rolling_summaries.specs.Summaries as windows
use Rattle.rolling_summaries.specs.Standing.{NoneAfter}
use Rattle.rolling_summaries.proofs.Held.{snapshot-window}
use Rattle.distributions.specs.declared.distribution.Distribution.TheVariants as variants
use Rattle.distributions.specs.Kinds.{NativeHistogram, Histogram, Summary, SummaryText}
use Rattle.distributions.specs.Recording.{StandsFor, values_of}
use Rattle.histogram_series.specs.Entries.{TimedEntry, samples_of_entries}
use Rattle.histogram_series.specs.Series.{HasRecorded}
use Rattle.histogram_series.specs.Rows.{RowMaker, bucket_row, value_row, quantile_row, last_bucket_row, sum_and_count_rows, shown_rows, sample_rows, recorded_rows, ShowsSamples, ShowsRecorded}
use Rattle.histogram_series.proofs.Kept.{values-length, recorded-stands, recorded-count}
use Rattle.histogram_series.proofs.Windows.{summary-recorded}

module _ (row : RowMaker) (t : ℕ) where
  bucket_rows : (values bounds : List ℤ) → map (λ (bucket : ℤ × ℕ). bucket_row row bucket.0 bucket.1) (map (λ bound. (bound, bucket_count bound values)) bounds) ≡ map (λ bound. bucket_row row bound (bucket_count bound values)) bounds
  bucket_rows values [] = refl
  bucket_rows values (b ∷ bounds) = ap (λ rows. bucket_row row b (bucket_count b values) ∷ rows) (bucket_rows values bounds)

  value_rows : (shown values : List ℤ) → ((q : ℕ) → value_row row shown q ≡ value_row row values q) → (qs : List ℕ) → map (value_row row shown) qs ≡ map (value_row row values) qs
  value_rows shown values same [] = refl
  value_rows shown values same (q ∷ qs) = λ i. same q i ∷ value_rows shown values same qs i

  histogram_shows : (bounds : List ℤ) (samples : List Sample) (h : HistogramText) → h ≡ histogram_of bounds (values_of samples)
      → shown_rows row t (variants.Histogram h) ≡ sample_rows row t (Histogram bounds) samples
  histogram_shows bounds samples h is =
      ap (λ (g : HistogramText). shown_rows row t (variants.Histogram g)) is
      ∙ ap (λ rows. rows ++ last_bucket_row row (sample_count (values_of samples)) ∷ sum_and_count_rows row (sample_sum (values_of samples)) (sample_count (values_of samples)))
      (bucket_rows (values_of samples) bounds)

  summary_shows : (summary : SummaryText) (samples : List Sample) (w : windows.Summary) (quantiles : Arc (Vec ℕ Global) Global) (sum : ℤ) → StandsFor (Summary summary) samples (variants.Summary w quantiles sum) → NoneAfter t samples
      → shown_rows row t (variants.Summary w quantiles sum) ≡ sample_rows row t (Summary summary) samples
  summary_shows summary samples w quantiles sum stands before =
      let built : List ℤ = window summary.bucket_duration (summary.bucket_count * summary.bucket_duration) t samples in
      let inside : window w.width (w.limit * w.width) t samples ≡ built = λ i. window (stands.1 i) (stands.0 i * stands.1 i) t samples in
      let ranked : (q : ℕ) → value_row row (snapshot_at t w) q ≡ value_row row built q =
      λ q.
      ap (λ values. value_row row values q) (snapshot-window w t samples stands.2 before)
      ∙ ap (λ value. quantile_row row q (unwrap_or value (pos 0))) (nearest_rank-ascending q (window w.width (w.limit * w.width) t samples))
      ∙ ap (λ values. value_row row values q) inside in
      let count : w.count ≡ sample_count (values_of samples) = stands.2.count ∙ ap in_64_bits (sym (values-length samples)) in
      (λ i. map (value_row row (snapshot_at t w)) (stands.3 i) ++ sum_and_count_rows row (stands.4 i) (count i))
      ∙ ap (λ rows. rows ++ sum_and_count_rows row (sample_sum (values_of samples)) (sample_count (values_of samples))) (value_rows (snapshot_at t w) built ranked summary.quantiles)

pub shows : ShowsSamples
shows row t (Histogram bounds) samples (variants.Histogram h) stands before = histogram_shows row t bounds samples h stands
shows row t (Summary summary) samples (variants.Summary w quantiles sum) stands before = summary_shows row t summary samples w quantiles sum stands before
shows row t (NativeHistogram config) samples (variants.NativeHistogram h) stands before = refl
shows row t (Histogram bounds) samples (variants.Summary a b c) stands before = absurd stands
shows row t (Histogram bounds) samples (variants.NativeHistogram a) stands before = absurd stands
shows row t (Summary summary) samples (variants.Histogram a) stands before = absurd stands
shows row t (Summary summary) samples (variants.NativeHistogram a) stands before = absurd stands
shows row t (NativeHistogram config) samples (variants.Histogram a) stands before = absurd stands
shows row t (NativeHistogram config) samples (variants.Summary a b c) stands before = absurd stands

module _ (row : RowMaker) (t : ℕ) where
  summary_recorded : (built : SummaryText) (es : List TimedEntry) (w : windows.Summary) (quantiles : Arc (Vec ℕ Global) Global) (sum : ℤ) → HasRecorded (Summary built) es (variants.Summary w quantiles sum)
      → shown_rows row t (variants.Summary w quantiles sum) ≡ recorded_rows row t (Summary built) es
  summary_recorded built es w quantiles sum has =
      let kept = summary-recorded built es (variants.Summary w quantiles sum) has in
      let samples = samples_of_entries es in
      let count : w.count ≡ sample_count (values_of samples) = recorded-count has ∙ ap in_64_bits (sym (values-length samples)) in
      λ i. map (value_row row (snapshot_at t (kept.0 i))) (kept.1 i) ++ sum_and_count_rows row (kept.2 i) (count i)

pub shows_recorded : ShowsRecorded
shows_recorded row t (Histogram bounds) es (variants.Histogram h) has = histogram_shows row t bounds (samples_of_entries es) h (recorded-stands has tt)
shows_recorded row t (Summary built) es (variants.Summary w quantiles sum) has = summary_recorded row t built es w quantiles sum has
shows_recorded row t (NativeHistogram config) es (variants.NativeHistogram h) has = refl
shows_recorded row t (Histogram bounds) es (variants.Summary a b c) has = absurd (recorded-stands has tt)
shows_recorded row t (Histogram bounds) es (variants.NativeHistogram a) has = absurd (recorded-stands has tt)
shows_recorded row t (Summary built) es (variants.Histogram a) has = absurd (summary-recorded built es (variants.Histogram a) has)
shows_recorded row t (Summary built) es (variants.NativeHistogram a) has = absurd (summary-recorded built es (variants.NativeHistogram a) has)
shows_recorded row t (NativeHistogram config) es (variants.Histogram a) has = absurd (recorded-stands has tt)
shows_recorded row t (NativeHistogram config) es (variants.Summary a b c) has = absurd (recorded-stands has tt)
