-- What a pass did between two moments, and what an exporter knows of series of which nothing is lent out.
use Rattle.std.specs.Prelude.{◌≡◌, ◌++◌, List, map, Option, Some}
use Rattle.legal_history.specs.History.{Settled}
use Rattle.metrics_core.specs.declared.calls.SeriesCall.{SeriesCall}
use Rattle.metrics_core.specs.declared.kinds.SeriesId.{SeriesId}
use Rattle.metrics_core.specs.Calls.{Call}
use Rattle.metrics_registry.specs.Live.{cell_of}
use Rattle.series_cells.specs.declared.counter.PromCounter.{PromCounter}
use Rattle.series_cells.specs.declared.gauge.PromGauge.{PromGauge}
use Rattle.series_cells.specs.declared.pass.CellPass.{CellPass}
use Rattle.series_cells.specs.Pass.{IsCounterPass, IsGaugePass, view_of}
use Rattle.series_cells.specs.Values.{calls_of}
use Rattle.sample_queue.specs.Passes as samples
use Rattle.sample_queue.specs.declared.calls.QueueCall.TheVariants.{Push}
use Rattle.histogram_series.specs.Entries.{TimedEntry, TimedQueue, records_of}
use Rattle.prom_exporter.specs.Exporter.{Exporter, SharedCounter, SharedGauge}
use Rattle.prom_exporter.specs.Lending.{TimedPass}
use Rattle.prom_exporter.specs.Sampled.{Sampled}

-- the pass of a counter or of a gauge made these calls
abbrev pub MakesCalls : CellPass → List Call → CellPass → Type 0
MakesCalls before calls after = (made : List SeriesCall) × (calls_of made ≡ calls) × ((view_of after).mine ≡ (view_of before).mine ++ made)

-- the pass of a histogram's queue made these, each one push
abbrev pub MakesRecords : TimedPass → List Call → TimedPass → Type 0
MakesRecords before calls after =
    (entries : List TimedEntry) × (records_of entries ≡ calls)
    × ((samples.view_of after).mine ≡ (samples.view_of before).mine ++ map Push entries)

-- the handle is that of a cell, and the pass is one of it
abbrev pub IsCounterHeld : Option PromCounter → CellPass → Type 0
IsCounterHeld handle pass = (cell : PromCounter) × (handle ≡ Some cell) × IsCounterPass cell pass

abbrev pub IsGaugeHeld : Option PromGauge → CellPass → Type 0
IsGaugeHeld handle pass = (cell : PromGauge) × (handle ≡ Some cell) × IsGaugePass cell pass

abbrev pub IsHistogramHeld : Option TimedQueue → TimedPass → Type 0
IsHistogramHeld handle pass = (queue : TimedQueue) × (handle ≡ Some queue) × samples.IsSamplePass queue pass

-- of a series with this id, of any kind, the exporter knows whose each call is
pub record IsSettled (id : SeriesId) (exporter : Exporter) : Type 0 where
  pub counter : (s : SharedCounter) → cell_of id exporter.series.counters ≡ Some s → Settled s.root
  pub gauge : (s : SharedGauge) → cell_of id exporter.series.gauges ≡ Some s → Settled s.root
  pub histogram : (s : Sampled) → cell_of id exporter.series.histograms ≡ Some s → Settled s.series.root
