-- The values of the families that a state shows have 128 bits, where those of its calls have 64.
use Rattle.std.proofs.Common.{◌≡◌, ℕ, ◌*◌, ◌<◌, ◌^◌, map, List, [], ◌∷◌, length, arith, sym, subst, Option, Some, None}
use Rattle.std.specs.Prelude.{ℤ, pos, FitsSigned, All, IfSome, filter_map, flat_map, bytes_eq}
use Rattle.std.specs.Int.{w128}
use Rattle.std.specs.List.{AllByRecursion, cons_option}
use Rattle.std.proofs.lemmas.List.Elements.{All-from_recursion, recursion_from_All}
use Rattle.metrics_core.specs.Calls.{samples}
use Rattle.metrics_core.specs.declared.kinds.MetricKind.{MetricKind}
use Rattle.metrics_core.specs.declared.kinds.MetricKind.TheVariants as kinds
use Rattle.metrics_registry.specs.Cumulative.{bucket_count, count_at_most, sample_count}
use Rattle.distributions.specs.Kinds.{DistributionKind, NativeHistogram, Histogram, Summary}
use Rattle.prom_format.specs.Names.{sanitized_metric_name}
use Rattle.prom_format.specs.Pages.{Row, Family, IsPage, page_text, HasValuesInRange, AreInRange}
use Rattle.prom_format.proofs.PagesReadOnce.{page_told}
use Rattle.prom_format.specs.declared.families.FamilyType.{FamilyType}
use Rattle.prom_format.specs.declared.families.FamilyType.TheVariants as types
use Rattle.name_counts.specs.Counts.{NameCount}
use Rattle.prom_exporter.specs.State.{Series, PrometheusState, live}
use Rattle.prom_exporter.specs.Families.{ExporterSettings, Windows, window_of, kept_window, additions_of, counter_suffix, counter_rows, gauge_rows, histogram_rows, summary_rows, sum_and_count_rows, family_of, distribution_family, distribution_of, names_of_kind, series_named, overflow_row, overflow_families, families_by, families_at, families_written}
use Rattle.prom_exporter.specs.Ranges.{HasFixedValue, HaveFixedCalls, IsFixed}
use Rattle.prom_exporter.proofs.KeptBuckets.{all-filter}
use Rattle.prom_exporter.proofs.KeptWindows.{added-samples}
use Rattle.prom_exporter.proofs.Printable.{page_reads}
use Rattle.prom_exporter.proofs.Ranges.{Fits, HasFitting, wider, zero_fits, whole_fits, in_64-small, sum_fits, counter_fits, gauge_fits, quantile_fits, timed_fit, plain_fit, window_fits, kept_fits, all-append, all-map}

abbrev RowFits : Row → Type 0
RowFits row = FitsSigned w128 row.value

abbrev CallsFit : Series → Type 0
CallsFit series = AllByRecursion HasFixedValue series.calls

all-every : {A : Type 0} (P : A → Type 0) → ((x : A) → P x) → (xs : List A) → AllByRecursion P xs
all-every P every [] = tt
all-every P every (x ∷ xs) = (every x, all-every P every xs)

flat_fit : (P : Series → Type 0) (rows : Series → List Row) → ((x : Series) → P x → AllByRecursion RowFits (rows x)) → (xs : List Series) → AllByRecursion P xs → AllByRecursion RowFits (flat_map rows xs)
flat_fit P rows one [] all = tt
flat_fit P rows one (x ∷ xs) all = all-append RowFits (rows x) (flat_map rows xs) (one x all.0) (flat_fit P rows one xs all.1)

some_fit : (f : List ℕ → Option Family) → ((n : List ℕ) → IfSome (f n) HasValuesInRange) → (ns : List (List ℕ)) → AllByRecursion HasValuesInRange (filter_map f ns)
some_fit f one [] = tt
some_fit f one (n ∷ ns) = by (f n) (one n) (some_fit f one ns)
  where
    by : (o : Option Family) → IfSome o HasValuesInRange → AllByRecursion HasValuesInRange (filter_map f ns) → AllByRecursion HasValuesInRange (cons_option o (filter_map f ns))
    by None fits rest = rest
    by (Some family) fits rest = (fits, rest)

abbrev CountFits : NameCount → Type 0
CountFits redirected = redirected.count < 2 ^ 64

overflow_rows_fit : (all : List NameCount) → AllByRecursion CountFits all → AllByRecursion RowFits (map overflow_row all)
overflow_rows_fit [] fits = tt
overflow_rows_fit (c ∷ cs) fits = (whole_fits c.count fits.0, overflow_rows_fit cs fits.1)

overflow_fits : (all : List NameCount) → AllByRecursion CountFits all → AllByRecursion HasValuesInRange (overflow_families all)
overflow_fits [] fits = tt
overflow_fits (first ∷ others) fits = (All-from_recursion RowFits (map overflow_row (first ∷ others)) (overflow_rows_fit (first ∷ others) fits), tt)

module _ (settings : ExporterSettings) (windows : Windows) (s : PrometheusState) where
  sum_and_count_fit : (series : Series) (values : List ℤ) → AllByRecursion Fits values → AllByRecursion RowFits (sum_and_count_rows settings s series values)
  sum_and_count_fit series values all = (sum_fits values (pos 0) (wider (pos 0) zero_fits) all, (whole_fits (sample_count values) (in_64-small (length values)), tt))

  counter_fit : (series : Series) → CallsFit series → AllByRecursion RowFits (counter_rows settings s series)
  counter_fit series all = (whole_fits _ (counter_fits series.calls 0 (omega arith) all), tt)

  gauge_fit : (series : Series) → CallsFit series → AllByRecursion RowFits (gauge_rows settings s series)
  gauge_fit series all = (wider _ (gauge_fits series.calls (pos 0) zero_fits all), tt)

  histogram_fit : (bounds : List ℤ) (series : Series) → CallsFit series → AllByRecursion RowFits (histogram_rows settings s bounds series)
  histogram_fit bounds series all =
      all-append RowFits _ _
      (all-map RowFits _ bounds (all-every _ (λ bound. whole_fits (bucket_count bound (samples series.calls)) (in_64-small (count_at_most bound (samples series.calls)))) bounds))
      (whole_fits (sample_count (samples series.calls)) (in_64-small (length (samples series.calls))), sum_and_count_fit series (samples series.calls) (plain_fit series.calls all))

  abbrev SummaryFits : Series → Type 0
  SummaryFits series = CallsFit series × AllByRecursion Fits (windows series)

  summary_fit : (series : Series) → SummaryFits series → AllByRecursion RowFits (summary_rows settings s windows series)
  summary_fit series all =
      all-append RowFits _ _
      (all-map RowFits _ settings.quantiles (all-every _ (λ q. wider _ (quantile_fits q (windows series) all.1)) settings.quantiles))
      (sum_and_count_fit series (samples series.calls) (plain_fit series.calls all.0))

  family_fits : (kind : MetricKind) (name : List ℕ) (suffix : Option (List ℕ)) (type : FamilyType) (P : Series → Type 0) (rows : Series → List Row) → ((x : Series) → P x → AllByRecursion RowFits (rows x))
      → AllByRecursion P (live kind s) → HasValuesInRange (family_of settings s kind name suffix type rows)
  family_fits kind name suffix type P rows one all =
      All-from_recursion RowFits _ (flat_fit P rows one (series_named kind s name) (all-filter P (λ series. bytes_eq (sanitized_metric_name series.key.name) name) (live kind s) all))

  module _ (counters : AllByRecursion CallsFit s.counters) (gauges : AllByRecursion CallsFit s.gauges) (sampled : AllByRecursion SummaryFits s.histograms) (redirected : AllByRecursion CountFits s.redirected) where
    histograms : (all : List Series) → AllByRecursion SummaryFits all → AllByRecursion CallsFit all
    histograms [] fits = tt
    histograms (x ∷ xs) fits = (fits.0.0, histograms xs fits.1)

    distribution_fits : (name : List ℕ) (kind : DistributionKind) → IfSome (distribution_family settings s windows name kind) HasValuesInRange
    distribution_fits name (NativeHistogram config) = tt
    distribution_fits name (Histogram bounds) = family_fits kinds.Histogram name None types.Histogram CallsFit (histogram_rows settings s bounds) (histogram_fit bounds) (histograms s.histograms sampled)
    distribution_fits name (Summary built) = family_fits kinds.Histogram name None types.Summary SummaryFits (summary_rows settings s windows) summary_fit sampled

    families_fit : AreInRange (families_by settings windows s)
    families_fit =
        All-from_recursion HasValuesInRange _
        (all-append HasValuesInRange _ _
        (all-append HasValuesInRange _ _
        (all-append HasValuesInRange _ _
        (all-map HasValuesInRange _ (names_of_kind kinds.Counter s) (all-every _ (λ name. family_fits kinds.Counter name (counter_suffix settings) types.Counter CallsFit (counter_rows settings s) counter_fit counters) (names_of_kind kinds.Counter s)))
        (all-map HasValuesInRange _ (names_of_kind kinds.Gauge s) (all-every _ (λ name. family_fits kinds.Gauge name None types.Gauge CallsFit (gauge_rows settings s) gauge_fit gauges) (names_of_kind kinds.Gauge s))))
        (some_fit _ (λ name. distribution_fits name (distribution_of settings name)) (names_of_kind kinds.Histogram s)))
        (overflow_fits s.redirected redirected))

-- ---- of a state whose calls have such values

calls_fit : (all : List Series) → HaveFixedCalls all → AllByRecursion CallsFit all
calls_fit all fixed = each all (recursion_from_All (λ (series : Series). All HasFixedValue series.calls) all fixed)
  where
    each : (xs : List Series) → AllByRecursion (λ (series : Series). All HasFixedValue series.calls) xs → AllByRecursion CallsFit xs
    each [] fixed = tt
    each (x ∷ xs) fixed = (recursion_from_All HasFixedValue x.calls fixed.0, each xs fixed.1)

module _ (settings : ExporterSettings) (s : PrometheusState) (fixed : IsFixed s) where
  fit_by : (windows : Windows) → ((series : Series) → CallsFit series → AllByRecursion Fits (windows series)) → AreInRange (families_by settings windows s)
  fit_by windows inside = families_fit settings windows s (calls_fit s.counters fixed.0) (calls_fit s.gauges fixed.1) (both s.histograms (calls_fit s.histograms fixed.2)) (recursion_from_All CountFits s.redirected fixed.3)
    where
      both : (all : List Series) → AllByRecursion CallsFit all → AllByRecursion (SummaryFits settings windows s) all
      both [] fits = tt
      both (x ∷ xs) fits = ((fits.0, inside x fits.0), both xs fits.1)

  module _ (t : ℕ) where
    shown_fit : AreInRange (families_at settings t s)
    shown_fit = fit_by (window_of settings t) (λ series fits. window_fits settings.bucket_duration (settings.bucket_count * settings.bucket_duration) t _ (timed_fit series.calls fits))

    written_fit : AreInRange (families_written settings t s)
    written_fit =
        fit_by (kept_window settings t) (λ series fits.
        kept_fits settings.bucket_count settings.bucket_duration t (additions_of series.calls) (subst (AllByRecursion HasFitting) (sym (added-samples series.calls)) (timed_fit series.calls fits)))

pub shown_in_range : (settings : ExporterSettings) (t : ℕ) (s : PrometheusState) → IsFixed s → AreInRange (families_at settings t s)
shown_in_range settings t s fixed = shown_fit settings s fixed t

pub written_in_range : (settings : ExporterSettings) (t : ℕ) (s : PrometheusState) → IsFixed s → AreInRange (families_written settings t s)
written_in_range settings t s fixed = written_fit settings s fixed t

pub reads_once : (settings : ExporterSettings) (t : ℕ) (s : PrometheusState) (families : List Family) → IsFixed s → AreInRange families → IsPage (page_text (families_at settings t s)) families → families ≡ families_at settings t s
reads_once settings t s families fixed fit is = page_told (page_text (families_at settings t s)) families (families_at settings t s) fit (shown_in_range settings t s fixed) is (page_reads settings (window_of settings t) s)
