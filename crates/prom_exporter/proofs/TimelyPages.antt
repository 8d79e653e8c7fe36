-- Where moments never fall, what is written are the families of the samples.
use Rattle.std.proofs.Common.{◌≡◌, ℕ, Bool, true, false, cond, List, [], ◌∷◌, ◌++◌, map, drop, length, ◌-◌, ◌≤◌, refl, sym, ap, subst, ◌∙◌, append_assoc, append-nil, None, Some}
use Rattle.std.specs.Prelude.{Option, option_map, All, ℤ, pos, bytes_eq, codes, filter, flat_map, filter_map}
use Rattle.std.specs.List.{AllByRecursion, cons_option}
use Rattle.std.proofs.lemmas.Grind.{flat_map-append}
use Rattle.std.proofs.lemmas.List.{take-append-drop}
use Rattle.std.proofs.lemmas.List.Elements.{All-from_recursion, All-weaker, recursion_from_All}
use Rattle.std.proofs.lemmas.Slice.Eq.{bytes_eq-Decides}
use Rattle.metrics_core.specs.Numbers.{page_number}
use Rattle.metrics_core.specs.Calls.{Call, samples}
use Rattle.metrics_core.specs.declared.kinds.MetricKind.TheVariants as kinds
use Rattle.metrics_registry.specs.Live.{LiveSeries}
use Rattle.metrics_registry.specs.Quantiles.{clamped, quantile_of}
use Rattle.rolling_summaries.specs.Window.{Sample, timed_samples}
use Rattle.rolling_summaries.specs.Standing.{NeverFall, NoneAfter}
use Rattle.rolling_summaries.specs.StandingLaws.{NeverFall-prefix}
use Rattle.distributions.specs.Kinds.{DistributionKind, NativeHistogram, Histogram, Summary, SummaryText}
use Rattle.prom_format.specs.Names.{sanitized_metric_name}
use Rattle.prom_format.specs.Pages.{body_text}
use Rattle.sample_queue.specs.Queues.{popped}
use Rattle.histogram_series.specs.Entries.{TimedEntry, records_of, samples_of_entries, samples_of_entry, queued}
use Rattle.histogram_series.specs.Series.{recorded, recorded_samples, all_samples, entries, but_waiting}
use Rattle.metrics_registry.specs.Recency.{Idle, note_left}
use Rattle.prom_exporter.specs.State.{Series, PrometheusState, count_of_updates, kept_at, page_step}
use Rattle.prom_exporter.specs.Families.{ExporterSettings, Windows, window_of, kept_window, IsInTime, HaveSameQuantiles, row_of, one_label, summary_rows, sum_and_count_rows, distribution_family, distribution_of, family_of, names_of_kind, families_by, families_at, families_written, counter_suffix, counter_rows, gauge_rows, overflow_families}
use Rattle.prom_format.specs.declared.families.FamilyType.TheVariants as types
use Rattle.prom_exporter.specs.Sampled.{Sampled, IsTimely, calls_known, calls_recorded}
use Rattle.prom_exporter.specs.Values.{series_of, sampled_series}
use Rattle.prom_exporter.specs.Summaries.{IsNamedSummary, IsSummary, AreSummariesTimely}
use Rattle.prom_exporter.specs.Exporter.{Exporter, AreTimely, state_of, state_shown, written_body, shown_body, written_page, page_body}
use Rattle.prom_exporter.proofs.SampledRows.{timed-recorded}
use Rattle.prom_exporter.proofs.KeptWindows.{in_time-kept}

-- ---- families hang on windows by the quantiles of summaries

module _ (settings : ExporterSettings) (one other : Windows) (s : PrometheusState) where
  quantile_rows-same : (series : Series) → HaveSameQuantiles (one series) (other series) → (qs : List ℤ)
      → map (λ q. row_of settings s series None (one_label (codes "quantile") (page_number (pos (clamped q)))) (quantile_of q (one series))) qs
      ≡ map (λ q. row_of settings s series None (one_label (codes "quantile") (page_number (pos (clamped q)))) (quantile_of q (other series))) qs
  quantile_rows-same series agree [] = refl
  quantile_rows-same series agree (q ∷ qs) =
      λ i. row_of settings s series None (one_label (codes "quantile") (page_number (pos (clamped q)))) (agree q i) ∷ quantile_rows-same series agree qs i

  summary_rows-same : (series : Series) → HaveSameQuantiles (one series) (other series) → summary_rows settings s one series ≡ summary_rows settings s other series
  summary_rows-same series agree = ap (λ rows. rows ++ sum_and_count_rows settings s series (samples series.calls)) (quantile_rows-same series agree settings.quantiles)

  abbrev Agree : Series → Type 0
  Agree series = IsSummary settings series → HaveSameQuantiles (one series) (other series)

  rows-same : (name : List ℕ) (built : SummaryText) → distribution_of settings name ≡ Summary built → (all : List Series) → AllByRecursion Agree all
      → flat_map (summary_rows settings s one) (filter (λ series. bytes_eq (sanitized_metric_name series.key.name) name) all)
      ≡ flat_map (summary_rows settings s other) (filter (λ series. bytes_eq (sanitized_metric_name series.key.name) name) all)
  rows-same name built kind [] agree = refl
  rows-same name built kind (x ∷ xs) agree = by (bytes_eq (sanitized_metric_name x.key.name) name) refl (rows-same name built kind xs agree.1)
    where
      named : List Series
      named = filter (λ series. bytes_eq (sanitized_metric_name series.key.name) name) xs

      by : (b : Bool) → bytes_eq (sanitized_metric_name x.key.name) name ≡ b → flat_map (summary_rows settings s one) named ≡ flat_map (summary_rows settings s other) named
          → flat_map (summary_rows settings s one) (cond b (x ∷ named) named) ≡ flat_map (summary_rows settings s other) (cond b (x ∷ named) named)
      by true is rest =
          let same : sanitized_metric_name x.key.name ≡ name = (bytes_eq-Decides (sanitized_metric_name x.key.name) name).0 is in
          λ i. summary_rows-same x (agree.0 (built, ap (distribution_of settings) same ∙ kind)) i ++ rest i
      by false is rest = rest

  module _ (agree : AllByRecursion Agree s.histograms) where
    family-same : (name : List ℕ) (kind : DistributionKind) → distribution_of settings name ≡ kind → distribution_family settings s one name kind ≡ distribution_family settings s other name kind
    family-same name (NativeHistogram config) is = refl
    family-same name (Histogram bounds) is = refl
    family-same name (Summary built) is =
        ap (λ rows. Some (record (family_of settings s kinds.Histogram name None types.Summary (summary_rows settings s one)) { rows = rows })) (rows-same name built is s.histograms agree)

    distributions-same : (names : List (List ℕ))
        → filter_map (λ name. distribution_family settings s one name (distribution_of settings name)) names ≡ filter_map (λ name. distribution_family settings s other name (distribution_of settings name)) names
    distributions-same [] = refl
    distributions-same (name ∷ names) = λ i. cons_option (family-same name (distribution_of settings name) refl i) (distributions-same names i)

    families-same : families_by settings one s ≡ families_by settings other s
    families-same =
        ap (λ families.
        map (λ name. family_of settings s kinds.Counter name (counter_suffix settings) types.Counter (counter_rows settings s)) (names_of_kind kinds.Counter s)
        ++ map (λ name. family_of settings s kinds.Gauge name None types.Gauge (gauge_rows settings s)) (names_of_kind kinds.Gauge s)
        ++ families
        ++ overflow_families s.redirected) (distributions-same (names_of_kind kinds.Histogram s))

pub same_quantiles : (settings : ExporterSettings) (one other : Windows) (s : PrometheusState) → All (λ series. IsSummary settings series → HaveSameQuantiles (one series) (other series)) s.histograms
    → families_by settings one s ≡ families_by settings other s
same_quantiles settings one other s agree = families-same settings one other s (recursion_from_All (Agree settings one other s) s.histograms agree)

-- a state whose summaries are all in time
abbrev SummaryInTime : ExporterSettings → ℕ → Series → Type 0
SummaryInTime settings t series = IsSummary settings series → IsInTime t series

in_time-written : (settings : ExporterSettings) (t : ℕ) (s : PrometheusState) → AllByRecursion (SummaryInTime settings t) s.histograms → families_written settings t s ≡ families_at settings t s
in_time-written settings t s timely = families-same settings (kept_window settings t) (window_of settings t) s (agree s.histograms timely)
  where
    agree : (all : List Series) → AllByRecursion (SummaryInTime settings t) all → AllByRecursion (Agree settings (kept_window settings t) (window_of settings t) s) all
    agree [] timely = tt
    agree (x ∷ xs) timely = ((λ summary. in_time-kept settings t x (timely.0 summary)), agree xs timely.1)

-- ---- the recorded samples come first of all

waiting-rest : (stray : Option TimedEntry) (es : List TimedEntry) → (rest : List TimedEntry) × (es ≡ but_waiting stray es ++ rest)
waiting-rest None es = ([], sym (append-nil es))
waiting-rest (Some e) es = (drop (length es - 1) es, sym (take-append-drop (length es - 1) es))

recorded-first : (s : Sampled) → (more : List Sample) × (all_samples s.series ≡ recorded_samples s.series ++ more)
recorded-first s =
    let es = popped s.series.root.mine in
    let behind = waiting-rest s.series.stray es in (
      samples_of_entries (behind.0 ++ queued s.series.root),
      ap (λ l. samples_of_entries (l ++ queued s.series.root)) behind.1
          ∙ ap samples_of_entries (append_assoc (but_waiting s.series.stray es) behind.0 (queued s.series.root))
          ∙ flat_map-append samples_of_entry (but_waiting s.series.stray es) (behind.0 ++ queued s.series.root),
    )

all-first : {A : Type 0} (P : A → Type 0) (xs ys : List A) → AllByRecursion P (xs ++ ys) → AllByRecursion P xs
all-first P [] ys h = tt
all-first P (x ∷ xs) ys h = (h.0, all-first P xs ys h.1)

recorded-never_fall : (t : ℕ) (s : Sampled) → IsTimely t s → NeverFall (recorded_samples s.series)
recorded-never_fall t s timely =
    let parts = recorded-first s in NeverFall-prefix (recorded_samples s.series) parts.0 (subst NeverFall parts.1 timely.0)

recorded-none_after : (t : ℕ) (s : Sampled) → IsTimely t s → NoneAfter t (recorded_samples s.series)
recorded-none_after t s timely =
    let parts = recorded-first s in
    let P : Sample → Type 0 = λ sample. sample.moment ≤ t in
    All-from_recursion P (recorded_samples s.series) (all-first P (recorded_samples s.series) parts.0 (recursion_from_All P _ (subst (NoneAfter t) parts.1 timely.1)))

-- ---- an exporter that is timely

module _ (t : ℕ) where
  in_time-entries : (es : List TimedEntry) → NeverFall (samples_of_entries es) → NoneAfter t (samples_of_entries es) → NeverFall (timed_samples (records_of es)) × NoneAfter t (timed_samples (records_of es))
  in_time-entries es rising before = let same = sym (timed-recorded es) in (subst NeverFall same rising, subst (NoneAfter t) same before)

  module _ (settings : ExporterSettings) where
    all-in_time : (calls : Sampled → List Call) → ((cell : Sampled) → IsTimely t cell → NeverFall (timed_samples (calls cell)) × NoneAfter t (timed_samples (calls cell)))
        → (live : List (LiveSeries Sampled)) → AllByRecursion (λ (e : LiveSeries Sampled). IsNamedSummary settings e.key → IsTimely t e.cell) live
        → AllByRecursion (SummaryInTime settings t) (map series_of (map (sampled_series calls) live))
    all-in_time calls one [] timely = tt
    all-in_time calls one (e ∷ live) timely = ((λ summary. one e.cell (timely.0 summary)), all-in_time calls one live timely.1)

    -- a page step takes series out, and leaves the calls of the others
    stepped-in_time : (idle : Option Idle) (all : List Series) → AllByRecursion (SummaryInTime settings t) all → AllByRecursion (SummaryInTime settings t) (filter_map (kept_at idle t kinds.Histogram) all)
    stepped-in_time idle [] timely = tt
    stepped-in_time idle (x ∷ xs) timely = by (note_left idle kinds.Histogram x.note (count_of_updates kinds.Histogram x) t) (stepped-in_time idle xs timely.1)
      where
        by : (left : Option (Option (ℕ × ℕ))) → AllByRecursion (SummaryInTime settings t) (filter_map (kept_at idle t kinds.Histogram) xs)
            → AllByRecursion (SummaryInTime settings t) (cons_option (option_map (λ note. record x { note = note }) left) (filter_map (kept_at idle t kinds.Histogram) xs))
        by None rest = rest
        by (Some some) rest = (timely.0, rest)

module _ (moment : ℕ) (exporter : Exporter) (timely : AreSummariesTimely moment exporter) where
  abbrev each : AllByRecursion (λ (e : LiveSeries Sampled). IsNamedSummary exporter.settings e.key → IsTimely moment e.cell) exporter.series.histograms
  each = recursion_from_All (λ (e : LiveSeries Sampled). IsNamedSummary exporter.settings e.key → IsTimely moment e.cell) exporter.series.histograms timely

  pub summaries_body : written_body moment exporter ≡ shown_body moment exporter
  summaries_body =
      ap body_text (in_time-written exporter.settings moment (state_shown exporter)
      (all-in_time moment exporter.settings calls_recorded (λ cell timely. in_time-entries moment (recorded cell.series) (recorded-never_fall moment cell timely) (recorded-none_after moment cell timely)) exporter.series.histograms each))

  pub summaries_page : written_page moment exporter ≡ page_body moment exporter
  summaries_page =
      ap body_text (in_time-written exporter.settings moment (page_step exporter.settings.idle moment (state_of exporter))
      (stepped-in_time moment exporter.settings exporter.settings.idle (state_of exporter).histograms
      (all-in_time moment exporter.settings calls_known (λ cell timely. in_time-entries moment (entries cell.series) timely.0 timely.1) exporter.series.histograms each)))

-- an exporter whose histograms are all timely
pub timely_page : (moment : ℕ) (exporter : Exporter) → AreTimely moment exporter → written_page moment exporter ≡ page_body moment exporter
timely_page moment exporter timely =
    summaries_page moment exporter (All-weaker (λ (e : LiveSeries Sampled). IsTimely moment e.cell) (λ (e : LiveSeries Sampled). IsNamedSummary exporter.settings e.key → IsTimely moment e.cell) (λ e is summary. is) exporter.series.histograms timely)
