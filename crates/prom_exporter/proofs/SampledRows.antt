-- The rows of a histogram's recorded entries are those of its calls, by the kind that follows from its name.
use Rattle.std.proofs.Common.{◌≡◌, ℕ, zero, suc, List, [], ◌∷◌, ◌++◌, map, ℤ, refl, sym, ap, ◌∙◌, None, Some}
use Rattle.std.specs.Prelude.{replicate, Option}
use Rattle.std.proofs.lemmas.List.{map-append}
use Rattle.metrics_core.specs.Calls.{samples}
use Rattle.metrics_core.specs.Keys.{LabelText}
use Rattle.metrics_registry.specs.Quantiles.{clamped}
use Rattle.metrics_registry.specs.Live.{LiveSeries}
use Rattle.metrics_registry.specs.Cumulative.{bucket_count, sample_count, sample_sum}
use Rattle.rolling_summaries.specs.Window.{Sample, timed_samples}
use Rattle.rolling_summaries.specs.Summaries.{empty_summary, snapshot_at}
use Rattle.rolling_summaries.specs.Standing.{Addition, added_all}
use Rattle.distributions.specs.Kinds.{DistributionKind, Histogram, Summary, SummaryText, DistributionRules, kind_for, native_kind, bucket_kind, general_kind}
use Rattle.distributions.specs.Recording.{values_of, sample_of}
use Rattle.histogram_series.specs.Entries.{TimedEntry, records_of, samples_of_entries, samples_of_entry, addition_of}
use Rattle.histogram_series.specs.Series.{recorded}
use Rattle.histogram_series.specs.Rows.{RowMaker, bucket_row, last_bucket_row, sum_and_count_rows, value_row, recorded_rows}
use Rattle.prom_format.specs.Matchers.{MatcherText, rule_for}
use Rattle.prom_format.specs.Names.{sanitized_metric_name, full_name}
use Rattle.prom_format.specs.Lines.{shown_label_set}
use Rattle.native_histograms.specs.Native.{NativeText}
use Rattle.prom_format.specs.Pages.{Row}
use Rattle.distribution_rows.specs.Series.{series_row}
use Rattle.prom_exporter.specs.State.{Series, PrometheusState}
use Rattle.prom_exporter.specs.Families.{ExporterSettings, rules_of_settings, shown_unit, histogram_rows, summary_rows, additions_of, kept_window}
use Rattle.prom_exporter.specs.Sampled.{Sampled, calls_recorded}
use Rattle.prom_exporter.specs.SampledRows.{sampled_rows}
use Rattle.prom_exporter.specs.Values.{series_of, sampled_series}

-- ---- the samples of calls

values-replicate : (n : ℕ) (sample : Sample) → map (λ (s : Sample). s.value) (replicate n sample) ≡ replicate n sample.value
values-replicate zero sample = refl
values-replicate (suc n) sample = ap (λ l. sample.value ∷ l) (values-replicate n sample)

pub values-recorded : (es : List TimedEntry) → samples (records_of es) ≡ values_of (samples_of_entries es)
values-recorded [] = refl
values-recorded (e ∷ es) =
    (λ j. sym (values-replicate e.count (sample_of e.item)) j ++ values-recorded es j)
    ∙ sym (map-append (λ (s : Sample). s.value) (samples_of_entry e) (samples_of_entries es))

pub timed-recorded : (es : List TimedEntry) → timed_samples (records_of es) ≡ samples_of_entries es
timed-recorded [] = refl
timed-recorded (e ∷ es) = ap (λ l. samples_of_entry e ++ l) (timed-recorded es)

-- what entries add to a rolling summary is what the calls that they come from add
additions-recorded : (es : List TimedEntry) → additions_of (records_of es) ≡ map addition_of es
additions-recorded [] = refl
additions-recorded (e ∷ es) = ap (λ l. addition_of e ∷ l) (additions-recorded es)

-- ---- kinds

-- what a summary is built with is that of the rules
general-summary : (summary : SummaryText) (buckets : Option (List ℤ)) (built : SummaryText) → general_kind summary buckets ≡ Summary built → built ≡ summary
general-summary summary (Some bounds) built e = cc
general-summary summary None built e = cc

bucket-summary : (rule : Option (MatcherText × List ℤ)) (other : DistributionKind) (built : SummaryText) → bucket_kind rule other ≡ Summary built → other ≡ Summary built
bucket-summary (Some rule) other built e = cc
bucket-summary None other built e = e

native-summary : (rule : Option (MatcherText × NativeText)) (other : DistributionKind) (built : SummaryText) → native_kind rule other ≡ Summary built → other ≡ Summary built
native-summary (Some rule) other built e = cc
native-summary None other built e = e

pub summary-built : (rules : DistributionRules) (name : List ℕ) (built : SummaryText) → kind_for rules name ≡ Summary built → built ≡ rules.summary
summary-built rules name built e =
    general-summary rules.summary rules.buckets built
    (bucket-summary (rule_for rules.buckets_for name) (general_kind rules.summary rules.buckets) built
    (native-summary (rule_for rules.native_for name) (bucket_kind (rule_for rules.buckets_for name) (general_kind rules.summary rules.buckets)) built e))

-- ---- rows

abbrev pub seen : LiveSeries Sampled → Series
seen e = series_of (sampled_series calls_recorded e)

clamped_rows : (row : ℕ → Row) (qs : List ℤ) → map (λ q. row (clamped q)) qs ≡ map row (map clamped qs)
clamped_rows row [] = refl
clamped_rows row (q ∷ qs) = ap (λ l. row (clamped q) ∷ l) (clamped_rows row qs)

module _ (settings : ExporterSettings) (s : PrometheusState) (t : ℕ) (e : LiveSeries Sampled) where
  abbrev pub labels : List LabelText
  labels = shown_label_set settings.globals e.key.labels

  -- the full name of its family
  abbrev pub full_name_of : List ℕ
  full_name_of = full_name (sanitized_metric_name e.key.name) (shown_unit settings s (sanitized_metric_name e.key.name)) None

  abbrev row : RowMaker
  row = series_row full_name_of labels

  abbrev entries_here : List TimedEntry
  entries_here = recorded e.cell.series

  abbrev ends : List ℤ → List Row
  ends values = sum_and_count_rows row (sample_sum values) (sample_count values)

  pub histogram_rows-are : (bounds : List ℤ) → e.cell.series.kind ≡ Histogram bounds
      → histogram_rows settings s bounds (seen e) ≡ sampled_rows t full_name_of labels e.cell
  histogram_rows-are bounds kind =
      ap (λ values. map (λ bound. bucket_row row bound (bucket_count bound values)) bounds ++ last_bucket_row row (sample_count values) ∷ ends values) (values-recorded entries_here)
      ∙ sym (ap (λ (k : DistributionKind). recorded_rows row t k entries_here) kind)

  pub summary_rows-are : (built : SummaryText) → built ≡ (rules_of_settings settings).summary → e.cell.series.kind ≡ Summary built
      → summary_rows settings s (kept_window settings t) (seen e) ≡ sampled_rows t full_name_of labels e.cell
  summary_rows-are built is kind =
      let kept : List Addition → List ℤ = λ added. snapshot_at t (added_all (empty_summary settings.bucket_count settings.bucket_duration) added) in
      ap (λ rows. rows ++ ends (samples (records_of entries_here))) (clamped_rows (value_row row (kept (additions_of (records_of entries_here)))) settings.quantiles)
      ∙ (λ j. map (value_row row (kept (additions-recorded entries_here j))) (map clamped settings.quantiles) ++ ends (values-recorded entries_here j))
      ∙ sym (ap (λ (k : DistributionKind). recorded_rows row t k entries_here) (kind ∙ ap Summary is))
