-- The exporter between rounds.
use Rattle.std.specs.Prelude.{◌≡◌, ℕ, List}
use mathlib.Core.Option.{some}
use lib.ListN.{get_elem?}
use Rattle.legal_history.specs.declared.history.View.{View}
use Rattle.legal_history.specs.History.{Settled}
use Rattle.metrics_core.specs.declared.calls.SeriesCall.{SeriesCall}
use Rattle.metrics_core.specs.declared.kinds.MetricKind.{MetricKind}
use Rattle.metrics_core.specs.declared.kinds.MetricKind.TheVariants as kinds
use Rattle.metrics_registry.specs.Live.{LiveSeries}
use Rattle.histogram_series.specs.Entries.{TimedCall}
use Rattle.prom_exporter.specs.Shared.{Shared}
use Rattle.prom_exporter.specs.Sampled.{Sampled}
use Rattle.prom_exporter.specs.Exporter.{Exporter}

-- what the exporter's own pass knows of the cell of a counter or a gauge, and of the queue of a histogram
abbrev pub value_root : {F : Type 0} → Shared F → View SeriesCall
value_root cell = cell.root

abbrev pub sample_root : Sampled → View TimedCall
sample_root cell = cell.series.root

module _ {X M : Type 0} (root : X → View M) (kind : MetricKind) where
  -- the series has an id of its kind, no pass of it is out, and the exporter knows whose each call on it is
  pub record IsResting (series : LiveSeries X) : Type 0 where
    pub kind_is : series.id.kind ≡ kind
    pub home : ((root series.cell).number ≡ 0) × ((root series.cell).out ≡ 0)
    pub settled : Settled (root series.cell)

  abbrev pub EachRests : List (LiveSeries X) → Type 0
  EachRests es = (i : ℕ) (s : LiveSeries X) → get_elem? es i ≡ some s → IsResting s

pub record AllRest (exporter : Exporter) : Type 0 where
  pub counters : EachRests value_root kinds.Counter exporter.series.counters
  pub gauges : EachRests value_root kinds.Gauge exporter.series.gauges
  pub histograms : EachRests sample_root kinds.Histogram exporter.series.histograms
