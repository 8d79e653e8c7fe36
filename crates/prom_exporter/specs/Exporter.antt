-- An exporter as its contracts see it: what it was built with, its live series with their cells, and what is said of metrics.
use Rattle.std.specs.Prelude.{◌≡◌, ℕ, ◌+◌, List, [], ◌∷◌, ◌++◌, map, pos, Option, None, false, Some, All}
use Rattle.metrics_core.specs.Keys.{LabelText, KeyText}
use Rattle.metrics_core.specs.declared.kinds.MetricKind.{MetricKind}
use Rattle.metrics_core.specs.declared.kinds.MetricKind.TheVariants as kinds
use Rattle.metrics_core.specs.declared.kinds.SeriesId.{SeriesId}
use Rattle.metrics_registry.specs.Live.{RegistryText, cell_of, with_cell}
use Rattle.series_cells.specs.declared.counter.PromCounter.{PromCounter}
use Rattle.series_cells.specs.declared.gauge.PromGauge.{PromGauge}
use Rattle.histogram_series.specs.Entries.{TimedQueue}
use Rattle.prom_format.specs.Names.{sanitized_metric_name}
use Rattle.prom_format.specs.Pages.{Family, body_text}
use Rattle.metric_descriptions.specs.Descriptions.{DescribedText}
use Rattle.name_counts.specs.Counts.{NameCount}
use Rattle.prom_exporter.specs.State.{PrometheusState, page_step}
use Rattle.prom_exporter.specs.Families.{ExporterSettings, families_at, families_written, distribution_of}
use Rattle.prom_exporter.specs.Shared.{Shared, IsHome, unused}
use Rattle.prom_exporter.specs.Sampled.{Sampled, IsAtRest, IsTimely, unsampled}
use Rattle.prom_exporter.specs.Values.{state_seen, state_recorded}

-- a counter and a gauge: its cell, once it was lent, with what the exporter knows of it
abbrev pub SharedCounter : Type 0
SharedCounter = Shared (Option PromCounter)

abbrev pub SharedGauge : Type 0
SharedGauge = Shared (Option PromGauge)

-- the live series
abbrev pub Cells : Type 0
Cells = RegistryText SharedCounter SharedGauge Sampled

pub record Exporter : Type 0 where
  pub settings : ExporterSettings
  pub series : Cells
  pub said : DescribedText
  pub redirected : List NameCount  -- how often registrations were, by kind and metric name

-- no series
abbrev pub no_cells : Cells
no_cells = record { counters = []; gauges = []; histograms = []; made = 0 }

-- the state of an exporter whose series are these
abbrev pub with_rest : Exporter → PrometheusState → PrometheusState
with_rest exporter s = record s {
  published = exporter.said.published;
  pending = exporter.said.pending;
  limit = exporter.settings.series_limit;
  redirected = exporter.redirected;
}

-- the sequential state that the exporter has seen
abbrev pub state_of : Exporter → PrometheusState
state_of exporter = with_rest exporter (state_seen exporter.series)

-- the same as far as a page shows it, which has the samples that are recorded
abbrev pub state_shown : Exporter → PrometheusState
state_shown exporter = with_rest exporter (state_recorded exporter.series)

-- the settings of a new builder: quantiles 0, 0.5, 0.9, 0.95, 0.99, 0.999 and 1, three buckets of 20 seconds
abbrev pub default_settings : ExporterSettings
default_settings = record {
  quantiles = map pos (0 ∷ 500000000 ∷ 900000000 ∷ 950000000 ∷ 990000000 ∷ 999000000 ∷ 1000000000 ∷ []);
  buckets = None;
  buckets_for = [];
  native_for = [];
  bucket_count = 3;
  bucket_duration = 20000000000;
  idle = None;
  series_limit = None;
  units = false;
  total_suffix = false;
  globals = [];
}

-- the settings with these global labels, and otherwise those of a new builder
abbrev pub settings_with : List LabelText → ExporterSettings
settings_with globals = record default_settings { globals = globals }

-- ---- cells

-- no pass of any cell is out
abbrev pub AllHome : Exporter → Type 0
AllHome exporter =
    All (λ series. IsHome series.cell) exporter.series.counters
    × All (λ series. IsHome series.cell) exporter.series.gauges
    × All (λ series. IsAtRest series.cell) exporter.series.histograms

-- of each histogram the moments of the samples never fall, and none is after this moment
abbrev pub AreTimely : ℕ → Exporter → Type 0
AreTimely moment exporter = All (λ series. IsTimely moment series.cell) exporter.series.histograms

-- a new counter with this key goes last among the series, a new gauge, and a new histogram, whose kind follows from its name: its cell is one that nobody has called
abbrev pub AddsCounter : KeyText → Exporter → Exporter → Type 0
AddsCounter key old new = (cell : Option PromCounter) × (new.series ≡ record old.series {
  counters = old.series.counters ++ record { id = record { kind = kinds.Counter; number = old.series.made }; key = key; cell = unused cell } ∷ [];
  made = old.series.made + 1;
})

abbrev pub AddsGauge : KeyText → Exporter → Exporter → Type 0
AddsGauge key old new = (cell : Option PromGauge) × (new.series ≡ record old.series {
  gauges = old.series.gauges ++ record { id = record { kind = kinds.Gauge; number = old.series.made }; key = key; cell = unused cell } ∷ [];
  made = old.series.made + 1;
})

abbrev pub AddsHistogram : KeyText → Exporter → Exporter → Type 0
AddsHistogram key old new = (queue : TimedQueue) × (new.series ≡ record old.series {
  histograms =
      old.series.histograms
      ++ record { id = record { kind = kinds.Histogram; number = old.series.made }; key = key; cell = unsampled (distribution_of old.settings (sanitized_metric_name key.name)) queue } ∷ [];
  made = old.series.made + 1;
})

-- the same of a series of a kind
abbrev pub AddsSeries : MetricKind → KeyText → Exporter → Exporter → Type 0
AddsSeries kinds.Counter = AddsCounter
AddsSeries kinds.Gauge = AddsGauge
AddsSeries kinds.Histogram = AddsHistogram

-- the counter with the id is live and changes so, a gauge, and a histogram; nothing else does
abbrev pub ChangesCounter : SeriesId → (SharedCounter → SharedCounter → Type 0) → Exporter → Exporter → Type 0
ChangesCounter id changes old new =
    (s t : SharedCounter) × (cell_of id old.series.counters ≡ Some s) × changes s t
    × (new ≡ record old { series = record old.series { counters = with_cell id old.series.counters t } })

abbrev pub ChangesGauge : SeriesId → (SharedGauge → SharedGauge → Type 0) → Exporter → Exporter → Type 0
ChangesGauge id changes old new =
    (s t : SharedGauge) × (cell_of id old.series.gauges ≡ Some s) × changes s t
    × (new ≡ record old { series = record old.series { gauges = with_cell id old.series.gauges t } })

abbrev pub ChangesHistogram : SeriesId → (Sampled → Sampled → Type 0) → Exporter → Exporter → Type 0
ChangesHistogram id changes old new =
    (s t : Sampled) × (cell_of id old.series.histograms ≡ Some s) × changes s t
    × (new ≡ record old { series = record old.series { histograms = with_cell id old.series.histograms t } })

-- ---- pages

-- the families that a state shows at a moment, after its page step, and the body of its page
abbrev pub families_shown : ExporterSettings → ℕ → PrometheusState → List Family
families_shown settings moment s = families_at settings moment (page_step settings.idle moment s)

abbrev pub body_shown : ExporterSettings → ℕ → PrometheusState → List ℕ
body_shown settings moment s = body_text (families_shown settings moment s)

-- those of an exporter, as far as it has seen
abbrev pub page_families : ℕ → Exporter → List Family
page_families moment exporter = families_shown exporter.settings moment (state_of exporter)

abbrev pub page_body : ℕ → Exporter → List ℕ
page_body moment exporter = body_shown exporter.settings moment (state_of exporter)

-- the body of the families that an exporter shows at a moment, as it is
abbrev pub shown_body : ℕ → Exporter → List ℕ
shown_body moment exporter = body_text (families_at exporter.settings moment (state_shown exporter))

-- The same two bodies as they are written, whatever the moments of samples: the values of quantiles are those of what rolling summaries keep. Where
-- the exporter is timely they are the two.
abbrev pub written_page : ℕ → Exporter → List ℕ
written_page moment exporter = body_text (families_written exporter.settings moment (page_step exporter.settings.idle moment (state_of exporter)))

abbrev pub written_body : ℕ → Exporter → List ℕ
written_body moment exporter = body_text (families_written exporter.settings moment (state_shown exporter))
