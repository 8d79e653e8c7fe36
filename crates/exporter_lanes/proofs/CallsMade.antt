-- A call that was made on a thing of one exporter was made on it as one of both.
use Rattle.std.proofs.Common.{map, ap}
use Rattle.legal_history.specs.declared.history.View.{View}
use Rattle.legal_history.specs.Mapped.{mapped_view}
use Rattle.cell_lanes.specs.Calls.{Made}
use Rattle.cell_lanes.proofs.Mapped.{made-mapped}
use Rattle.metrics_core.specs.declared.calls.SeriesCall.{SeriesCall}
use Rattle.prom_exporter.specs.declared.lanes.SeriesEntry.{SeriesEntry as PrometheusEntry}
use Rattle.prom_exporter.specs.LanePasses as P
use Rattle.dsd_exporter.specs.declared.lanes.SeriesEntry.{SeriesEntry as DogStatsDEntry}
use Rattle.dsd_exporter.specs.LanePasses as D
use Rattle.exporter_lanes.specs.declared.exporters.ExporterCall.TheVariants as calls
use Rattle.exporter_lanes.specs.declared.exporters.ExporterEntry.TheVariants as entries
use Rattle.exporter_lanes.specs.ExporterLanes.{StandsAsEntries}

pub prometheus_made : (call : SeriesCall) (v w : View PrometheusEntry) → Made (P.StandsAsEntries call) v w → Made (StandsAsEntries (calls.Prometheus call)) (mapped_view entries.Prometheus v) (mapped_view entries.Prometheus w)
prometheus_made call v w made = made-mapped entries.Prometheus (P.StandsAsEntries call) (StandsAsEntries (calls.Prometheus call)) (λ cs are. ap (map entries.Prometheus) are) v w made

pub dogstatsd_made : (call : SeriesCall) (v w : View DogStatsDEntry) → Made (D.StandsAsEntries call) v w → Made (StandsAsEntries (calls.DogStatsD call)) (mapped_view entries.DogStatsD v) (mapped_view entries.DogStatsD w)
dogstatsd_made call v w made = made-mapped entries.DogStatsD (D.StandsAsEntries call) (StandsAsEntries (calls.DogStatsD call)) (λ cs are. ap (map entries.DogStatsD) are) v w made
