-- A call of the kind of the cell that it is on stands in the history as its entries.
use Rattle.std.proofs.Common.{◌≡◌, ℕ, map, Option, refl, ap, ◌∙◌}
use Rattle.legal_history.specs.declared.history.View.{View}
use Rattle.legal_history.specs.Mapped.{mapped_view}
use Rattle.cell_lanes.specs.Calls.{Made}
use Rattle.cell_lanes.specs.Things.{Lease}
use Rattle.cell_lanes.proofs.Mapped.{made-mapped}
use Rattle.metrics_core.specs.declared.calls.SeriesCall.{SeriesCall}
use Rattle.metrics_core.specs.declared.calls.SeriesCall.TheVariants as calls
use Rattle.series_cells.specs.declared.counter.PromCounter.{PromCounter}
use Rattle.series_cells.specs.declared.gauge.PromGauge.{PromGauge}
use Rattle.series_cells.specs.Series.{as_counter, as_gauge, StandsAsCounter, StandsAsGauge}
use Rattle.sample_queue.specs.Series.{StandsAsPushes, pushes, sample_of_call}
use Rattle.sample_queue.specs.declared.series.Sample.{Sample}
use Rattle.metrics_core.specs.declared.numbers.Fixed.{Fixed}
use Rattle.histogram_series.specs.Entries.{TimedCall, TimedQueue}
use Rattle.prom_exporter.specs.declared.lanes.LanePass.TheVariants as passes
use Rattle.prom_exporter.specs.declared.lanes.SeriesCell.{SeriesCell}
use Rattle.prom_exporter.specs.declared.lanes.SeriesCell.TheVariants as cells
use Rattle.prom_exporter.specs.declared.lanes.SeriesEntry.TheVariants as entry
use Rattle.prom_exporter.specs.LanePasses.{IsPassOf, TakesCall, StandsAsEntries, entries_made, pushes_asked}

pub counter_entries : (cell : Option PromCounter) (call : SeriesCall) → TakesCall (cells.Counter cell) call → map entry.Value (as_counter call) ≡ entries_made call
counter_entries cell (calls.Increment n) takes = refl
counter_entries cell (calls.Absolute n) takes = refl
counter_entries cell (calls.Add v) takes = absurd takes
counter_entries cell (calls.Subtract v) takes = absurd takes
counter_entries cell (calls.Set v) takes = absurd takes
counter_entries cell (calls.Record v moment count) takes = absurd takes

pub gauge_entries : (cell : Option PromGauge) (call : SeriesCall) → TakesCall (cells.Gauge cell) call → map entry.Value (as_gauge call) ≡ entries_made call
gauge_entries cell (calls.Increment n) takes = absurd takes
gauge_entries cell (calls.Absolute n) takes = absurd takes
gauge_entries cell (calls.Add v) takes = refl
gauge_entries cell (calls.Subtract v) takes = refl
gauge_entries cell (calls.Set v) takes = refl
gauge_entries cell (calls.Record v moment count) takes = absurd takes

pub histogram_entries : (cell : TimedQueue) (call : SeriesCall) → TakesCall (cells.Histogram cell) call → map entry.Queue (pushes_asked call) ≡ entries_made call
histogram_entries cell (calls.Increment n) takes = absurd takes
histogram_entries cell (calls.Absolute n) takes = absurd takes
histogram_entries cell (calls.Add v) takes = absurd takes
histogram_entries cell (calls.Subtract v) takes = absurd takes
histogram_entries cell (calls.Set v) takes = absurd takes
histogram_entries cell (calls.Record v moment count) takes = refl

-- what a counter makes of a call that a cell takes of which it is a pass, a gauge, and a histogram
pub counter_makes : (cell : SeriesCell) (lent : Lease SeriesCall PromCounter) (call : SeriesCall) (w : View SeriesCall) → IsPassOf cell (passes.Counter lent) → TakesCall cell call → Made (StandsAsCounter call) lent.knows w
    → Made (StandsAsEntries call) (mapped_view entry.Value lent.knows) (mapped_view entry.Value w)
counter_makes (cells.Counter cell) lent call w is takes made =
    made-mapped entry.Value (StandsAsCounter call) (StandsAsEntries call) (λ cs are. ap (map entry.Value) are ∙ counter_entries cell call takes) lent.knows w made
counter_makes (cells.Gauge cell) lent call w is takes made = absurd is
counter_makes (cells.Histogram cell) lent call w is takes made = absurd is

pub gauge_makes : (cell : SeriesCell) (lent : Lease SeriesCall PromGauge) (call : SeriesCall) (w : View SeriesCall) → IsPassOf cell (passes.Gauge lent) → TakesCall cell call → Made (StandsAsGauge call) lent.knows w
    → Made (StandsAsEntries call) (mapped_view entry.Value lent.knows) (mapped_view entry.Value w)
gauge_makes (cells.Gauge cell) lent call w is takes made =
    made-mapped entry.Value (StandsAsGauge call) (StandsAsEntries call) (λ cs are. ap (map entry.Value) are ∙ gauge_entries cell call takes) lent.knows w made
gauge_makes (cells.Counter cell) lent call w is takes made = absurd is
gauge_makes (cells.Histogram cell) lent call w is takes made = absurd is

pub histogram_makes : (cell : SeriesCell) (lent : Lease TimedCall TimedQueue) (call : SeriesCall) (sample : Sample (Fixed × ℕ)) (w : View TimedCall) → IsPassOf cell (passes.Histogram lent) → TakesCall cell call
    → sample ≡ sample_of_call call → Made (StandsAsPushes sample) lent.knows w → Made (StandsAsEntries call) (mapped_view entry.Queue lent.knows) (mapped_view entry.Queue w)
histogram_makes (cells.Histogram cell) lent call sample w is takes told made =
    made-mapped entry.Queue (StandsAsPushes sample) (StandsAsEntries call) (λ cs are. ap (map entry.Queue) (are ∙ ap pushes told) ∙ histogram_entries cell call takes) lent.knows w made
histogram_makes (cells.Counter cell) lent call sample w is takes told made = absurd is
histogram_makes (cells.Gauge cell) lent call sample w is takes told made = absurd is
