-- The families that a state shows at a moment (Prometheus text exposition format: counters, gauges, histograms, summaries).
use Rattle.std.specs.Prelude.{◌≡◌, ℕ, Bool, not, List, [], ◌∷◌, ◌++◌, map, ℤ, pos, Option, Some, None, filter, filter_map, flat_map, option_map, option_and_then, bytes_eq, codes, if◌then◌else◌, ◌*◌}
use Rattle.metrics_core.specs.declared.kinds.MetricKind.{MetricKind}
use Rattle.metrics_core.specs.declared.kinds.MetricKind.TheVariants as kinds
use Rattle.metrics_core.specs.declared.units.Unit.{Unit as UnitOf}
use Rattle.metrics_core.specs.Kinds.{kind_text}
use Rattle.metrics_core.specs.Numbers.{page_number, whole}
use Rattle.metrics_core.specs.Keys.{LabelText}
use Rattle.metrics_core.specs.Calls.{Call, Record, counter_value, gauge_value, samples}
use Rattle.prom_format.specs.Names.{sanitized_metric_name, full_name}
use Rattle.prom_format.specs.Printed.{canonical_description, canonical_label_value}
use Rattle.prom_format.specs.Lines.{shown_label_set}
use Rattle.prom_format.specs.Pages.{Row, Family}
use Rattle.prom_format.specs.Matchers.{MatcherText}
use Rattle.prom_format.specs.declared.families.FamilyType.{FamilyType}
use Rattle.prom_format.specs.declared.families.FamilyType.TheVariants as types
use Rattle.metric_descriptions.specs.Descriptions.{description_of}
use Rattle.prom_exporter.specs.State.{Series, PrometheusState, live}
use Rattle.metrics_registry.specs.Recency.{Idle}
use Rattle.metrics_registry.specs.Quantiles.{clamped, quantile_of}
use Rattle.metrics_registry.specs.Cumulative.{bucket_count, sample_count, sample_sum}
use Rattle.rolling_summaries.specs.Window.{timed_samples, window}
use Rattle.rolling_summaries.specs.Summaries.{empty_summary, snapshot_at}
use Rattle.rolling_summaries.specs.Standing.{Addition, added_all, NeverFall, NoneAfter}
use Rattle.native_histograms.specs.Native.{NativeText}
use Rattle.name_counts.specs.Counts.{NameCount}
use Rattle.distributions.specs.Kinds.{DistributionKind, NativeHistogram, Histogram, Summary, DistributionRules, kind_for}

-- what the exporter was built with
pub record ExporterSettings : Type 0 where
  pub quantiles : List ℤ
  pub buckets : Option (List ℤ)
  pub buckets_for : List (MatcherText × List ℤ)
  pub native_for : List (MatcherText × NativeText)
  pub bucket_count : ℕ
  pub bucket_duration : ℕ
  pub idle : Option Idle
  pub series_limit : Option ℕ
  pub units : Bool
  pub total_suffix : Bool
  pub globals : List LabelText

-- ---- the parts of a row

-- the unit that stands in names: that of the published description, where units are on
abbrev pub shown_unit : ExporterSettings → PrometheusState → List ℕ → Option UnitOf
shown_unit settings s name = if settings.units then option_and_then (λ d. d.unit) (description_of s.published name) else None

abbrev pub shown_help : PrometheusState → List ℕ → Option (List ℕ)
shown_help s name = option_map (λ d. canonical_description d.text) (description_of s.published name)

-- a row of a series: its full name with a suffix, its labels and one more, and a value
abbrev pub row_of : ExporterSettings → PrometheusState → Series → Option (List ℕ) → List LabelText → ℤ → Row
row_of settings s series suffix more value = record {
  name = full_name (sanitized_metric_name series.key.name) (shown_unit settings s (sanitized_metric_name series.key.name)) suffix;
  labels = shown_label_set settings.globals series.key.labels ++ more;
  value = value;
}

abbrev pub one_label : List ℕ → List ℕ → List LabelText
one_label key value = record { key = key; value = value } ∷ []

-- ---- the rows of a series

-- the suffix of counters
abbrev pub counter_suffix : ExporterSettings → Option (List ℕ)
counter_suffix settings = if settings.total_suffix then Some (codes "total") else None

abbrev pub counter_rows : ExporterSettings → PrometheusState → Series → List Row
counter_rows settings s series =
    row_of settings s series (counter_suffix settings) [] (whole (counter_value series.calls)) ∷ []

abbrev pub gauge_rows : ExporterSettings → PrometheusState → Series → List Row
gauge_rows settings s series = row_of settings s series None [] (gauge_value series.calls) ∷ []

-- the sum and the count of all samples
abbrev pub sum_and_count_rows : ExporterSettings → PrometheusState → Series → List ℤ → List Row
sum_and_count_rows settings s series values =
    row_of settings s series (Some (codes "sum")) [] (sample_sum values)
    ∷ row_of settings s series (Some (codes "count")) [] (whole (sample_count values))
    ∷ []

-- histogram: a row for each bound, one for all samples, sum and count
abbrev pub histogram_rows : ExporterSettings → PrometheusState → List ℤ → Series → List Row
histogram_rows settings s bounds series =
    map (λ bound. row_of settings s series (Some (codes "bucket")) (one_label (codes "le") (page_number bound)) (whole (bucket_count bound (samples series.calls)))) bounds
    ++ row_of settings s series (Some (codes "bucket")) (one_label (codes "le") (codes "+Inf")) (whole (sample_count (samples series.calls)))
    ∷ sum_and_count_rows settings s series (samples series.calls)

-- what is answered of the window of a series: the values in it
abbrev pub Windows : Type 0
Windows = Series → List ℤ

-- the values of a series' window at a moment
abbrev pub window_of : ExporterSettings → ℕ → Windows
window_of settings t series =
    window settings.bucket_duration (settings.bucket_count * settings.bucket_duration) t (timed_samples series.calls)

-- what a call on a histogram adds to a rolling summary, and what calls add in turn
abbrev pub additions_of_call : Call → List Addition
additions_of_call (Record v moment n) = record { value = v; moment = moment; samples = n } ∷ []
additions_of_call _ = []

abbrev pub additions_of : List Call → List Addition
additions_of calls = flat_map additions_of_call calls

-- The values that a rolling summary has in its window at a moment after the calls on a series were added in turn, whatever their
-- moments. Where these never fall and none is after that moment, they are the values of the window.
abbrev pub kept_window : ExporterSettings → ℕ → Windows
kept_window settings t series =
    snapshot_at t (added_all (empty_summary settings.bucket_count settings.bucket_duration) (additions_of series.calls))

-- the moments of the samples of a series never fall, and none is after this moment
abbrev pub IsInTime : ℕ → Series → Type 0
IsInTime t series = NeverFall (timed_samples series.calls) × NoneAfter t (timed_samples series.calls)

-- values with the same quantiles
abbrev pub HaveSameQuantiles : List ℤ → List ℤ → Type 0
HaveSameQuantiles one other = (q : ℤ) → quantile_of q one ≡ quantile_of q other

-- summary: a row for each quantile of the window, sum and count
abbrev pub summary_rows : ExporterSettings → PrometheusState → Windows → Series → List Row
summary_rows settings s windows series =
    map (λ q. row_of settings s series None (one_label (codes "quantile") (page_number (pos (clamped q)))) (quantile_of q (windows series))) settings.quantiles
    ++ sum_and_count_rows settings s series (samples series.calls)

-- ---- what kind of distribution a name has

-- what the kinds of distributions follow from
abbrev pub rules_of_settings : ExporterSettings → DistributionRules
rules_of_settings settings = record {
  native_for = settings.native_for;
  buckets_for = settings.buckets_for;
  buckets = settings.buckets;
  summary = record { quantiles = map clamped settings.quantiles; bucket_count = settings.bucket_count; bucket_duration = settings.bucket_duration };
}

-- the kind of a metric name
abbrev pub distribution_of : ExporterSettings → List ℕ → DistributionKind
distribution_of settings name = kind_for (rules_of_settings settings) name

-- ---- families

-- a list without repetitions, each element in its first place
abbrev pub distinct : List (List ℕ) → List (List ℕ)
distinct [] = []
distinct (x ∷ xs) = x ∷ filter (λ y. not (bytes_eq x y)) (distinct xs)

-- the metric names of a kind, in the order of their first live series
abbrev pub names_of_kind : MetricKind → PrometheusState → List (List ℕ)
names_of_kind kind s = distinct (map (λ series. sanitized_metric_name series.key.name) (live kind s))

-- the live series of a kind under a metric name, in order
abbrev pub series_named : MetricKind → PrometheusState → List ℕ → List Series
series_named kind s name = filter (λ series. bytes_eq (sanitized_metric_name series.key.name) name) (live kind s)

-- the family of a kind under a metric name, where each series has these rows
abbrev pub family_of : ExporterSettings → PrometheusState → MetricKind → List ℕ → Option (List ℕ) → FamilyType → (Series → List Row) → Family
family_of settings s kind name suffix type rows = record {
  help = shown_help s name;
  name = full_name name (shown_unit settings s name) suffix;
  type = type;
  rows = flat_map rows (series_named kind s name);
}

-- a distribution's family; a native histogram has none
abbrev pub distribution_family : ExporterSettings → PrometheusState → Windows → List ℕ → DistributionKind → Option Family
distribution_family settings s windows name (NativeHistogram config) = None
distribution_family settings s windows name (Histogram bounds) =
    Some (family_of settings s kinds.Histogram name None types.Histogram (histogram_rows settings s bounds))
distribution_family settings s windows name (Summary summary) =
    Some (family_of settings s kinds.Histogram name None types.Summary (summary_rows settings s windows))

-- how often registrations were redirected: a row for each kind and metric name, which is shown as label values are, without global labels
abbrev pub overflow_name : List ℕ
overflow_name = codes "series_overflow"

abbrev pub overflow_row : NameCount → Row
overflow_row redirected = record {
  name = overflow_name;
  labels = record { key = codes "metric"; value = canonical_label_value redirected.name } ∷ record { key = codes "kind"; value = kind_text redirected.kind } ∷ [];
  value = whole redirected.count;
}

-- the family of these rows, where there are any
abbrev pub overflow_families : List NameCount → List Family
overflow_families [] = []
overflow_families (first ∷ others) = record { help = None; name = overflow_name; type = types.Counter; rows = map overflow_row (first ∷ others) } ∷ []

-- counters, then gauges, then distributions, each by metric name, where this is answered of windows, and what was redirected
abbrev pub families_by : ExporterSettings → Windows → PrometheusState → List Family
families_by settings windows s =
    map (λ name. family_of settings s kinds.Counter name (counter_suffix settings) types.Counter (counter_rows settings s)) (names_of_kind kinds.Counter s)
    ++ map (λ name. family_of settings s kinds.Gauge name None types.Gauge (gauge_rows settings s)) (names_of_kind kinds.Gauge s)
    ++ filter_map (λ name. distribution_family settings s windows name (distribution_of settings name)) (names_of_kind kinds.Histogram s)
    ++ overflow_families s.redirected

-- the families at a moment
abbrev pub families_at : ExporterSettings → ℕ → PrometheusState → List Family
families_at settings t s = families_by settings (window_of settings t) s

-- the families as they are written at a moment: the same, where quantiles are those of what rolling summaries keep
abbrev pub families_written : ExporterSettings → ℕ → PrometheusState → List Family
families_written settings t s = families_by settings (kept_window settings t) s
