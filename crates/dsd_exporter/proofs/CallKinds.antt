-- A call of the kind of the cell that it is on stands in the history as its entries.
use Rattle.std.proofs.Common.{◌≡◌, [], ◌∷◌, map, refl, ap, ◌∙◌}
use Rattle.legal_history.specs.declared.history.View.{View}
use Rattle.legal_history.specs.Mapped.{mapped_view}
use Rattle.cell_lanes.specs.Calls.{Made}
use Rattle.cell_lanes.specs.Things.{Lease}
use Rattle.cell_lanes.proofs.Mapped.{made-mapped}
use Rattle.metrics_core.specs.declared.calls.SeriesCall.{SeriesCall}
use Rattle.metrics_core.specs.declared.calls.SeriesCall.TheVariants as calls
use Rattle.metrics_core.specs.declared.numbers.Fixed.{Fixed as FixedOf}
use Rattle.flushed_cells.specs.declared.counter.DsdCounter.{DsdCounter}
use Rattle.flushed_cells.specs.declared.counter_calls.CounterCall.{CounterCall}
use Rattle.flushed_cells.specs.declared.counter_calls.CounterChange.{CounterChange}
use Rattle.flushed_cells.specs.declared.counter_state.CounterState.{CounterState}
use Rattle.flushed_cells.specs.declared.gauge.DsdGauge.{DsdGauge}
use Rattle.flushed_cells.specs.declared.gauge_calls.GaugeCall.{GaugeCall}
use Rattle.flushed_cells.specs.declared.gauge_calls.GaugeChange.{GaugeChange}
use Rattle.flushed_cells.specs.declared.gauge_state.GaugeState.{GaugeState}
use Rattle.flushed_cells.specs.Counters as counters
use Rattle.flushed_cells.specs.Gauges as gauges
use Rattle.flushed_cells.specs.Series.{StandsAs}
use Rattle.sample_queue.specs.declared.calls.QueueCall.{QueueCall}
use Rattle.sample_queue.specs.declared.queue.SampleQueue.{SampleQueue}
use Rattle.sample_queue.specs.declared.series.Sample.{Sample}
use Rattle.sample_queue.specs.Series.{StandsAsPushes, pushes}
use Rattle.dsd_exporter.specs.declared.lanes.LanePass.TheVariants as passes
use Rattle.dsd_exporter.specs.declared.lanes.SeriesCell.{SeriesCell}
use Rattle.dsd_exporter.specs.declared.lanes.SeriesCell.TheVariants as cells
use Rattle.dsd_exporter.specs.declared.lanes.SeriesEntry.TheVariants as entry
use Rattle.dsd_exporter.specs.CallSteps.{IsCounterCall, IsGaugeCall, IsRecord}
use Rattle.dsd_exporter.specs.LanePasses.{IsPassOf, TakesCall, StandsAsEntries, counter_calls, gauge_calls, queue_calls, entries_made}

pub counter_entries : (call : SeriesCall) → IsCounterCall call → map entry.Counter (counter_calls call) ≡ entries_made call
counter_entries (calls.Increment n) takes = refl
counter_entries (calls.Absolute n) takes = refl
counter_entries (calls.Add v) takes = absurd takes
counter_entries (calls.Subtract v) takes = absurd takes
counter_entries (calls.Set v) takes = absurd takes
counter_entries (calls.Record v moment count) takes = absurd takes

pub gauge_entries : (call : SeriesCall) → IsGaugeCall call → map entry.Gauge (gauge_calls call) ≡ entries_made call
gauge_entries (calls.Increment n) takes = absurd takes
gauge_entries (calls.Absolute n) takes = absurd takes
gauge_entries (calls.Add v) takes = refl
gauge_entries (calls.Subtract v) takes = refl
gauge_entries (calls.Set v) takes = refl
gauge_entries (calls.Record v moment count) takes = absurd takes

pub histogram_entries : (call : SeriesCall) → IsRecord call → map entry.Histogram (queue_calls call) ≡ entries_made call
histogram_entries (calls.Increment n) takes = absurd takes
histogram_entries (calls.Absolute n) takes = absurd takes
histogram_entries (calls.Add v) takes = absurd takes
histogram_entries (calls.Subtract v) takes = absurd takes
histogram_entries (calls.Set v) takes = absurd takes
histogram_entries (calls.Record v moment count) takes = refl

-- a call that a cell takes of which it is a pass is one of the pass's kind
pub counter_takes : (cell : SeriesCell) (lent : Lease CounterCall DsdCounter) (call : SeriesCall) → IsPassOf cell (passes.Counter lent) → TakesCall cell call → IsCounterCall call
counter_takes (cells.Counter cell) lent call is takes = takes
counter_takes (cells.Gauge cell) lent call is takes = absurd is
counter_takes (cells.Histogram cell) lent call is takes = absurd is

pub gauge_takes : (cell : SeriesCell) (lent : Lease GaugeCall DsdGauge) (call : SeriesCall) → IsPassOf cell (passes.Gauge lent) → TakesCall cell call → IsGaugeCall call
gauge_takes (cells.Counter cell) lent call is takes = absurd is
gauge_takes (cells.Gauge cell) lent call is takes = takes
gauge_takes (cells.Histogram cell) lent call is takes = absurd is

pub histogram_takes : (cell : SeriesCell) (lent : Lease (QueueCall FixedOf) (SampleQueue FixedOf)) (call : SeriesCall) → IsPassOf cell (passes.Histogram lent) → TakesCall cell call → IsRecord call
histogram_takes (cells.Counter cell) lent call is takes = absurd is
histogram_takes (cells.Gauge cell) lent call is takes = absurd is
histogram_takes (cells.Histogram cell) lent call is takes = takes

-- what a counter makes of a call that it takes, a gauge, and a histogram
pub counter_makes : (call : SeriesCall) (change : CounterChange) (v w : View CounterCall) → IsCounterCall call → ((state : CounterState) → counters.answered change state ∷ [] ≡ counter_calls call)
    → Made (StandsAs counters.answered change) v w → Made (StandsAsEntries call) (mapped_view entry.Counter v) (mapped_view entry.Counter w)
counter_makes call change v w takes asks made =
    made-mapped entry.Counter (StandsAs counters.answered change) (StandsAsEntries call) (λ cs are. ap (map entry.Counter) (are.1 ∙ asks are.0) ∙ counter_entries call takes) v w made

pub gauge_makes : (call : SeriesCall) (change : GaugeChange) (v w : View GaugeCall) → IsGaugeCall call → ((state : GaugeState) → gauges.answered change state ∷ [] ≡ gauge_calls call)
    → Made (StandsAs gauges.answered change) v w → Made (StandsAsEntries call) (mapped_view entry.Gauge v) (mapped_view entry.Gauge w)
gauge_makes call change v w takes asks made =
    made-mapped entry.Gauge (StandsAs gauges.answered change) (StandsAsEntries call) (λ cs are. ap (map entry.Gauge) (are.1 ∙ asks are.0) ∙ gauge_entries call takes) v w made

pub histogram_makes : (call : SeriesCall) (sample : Sample FixedOf) (v w : View (QueueCall FixedOf)) → IsRecord call → pushes sample ≡ queue_calls call
    → Made (StandsAsPushes sample) v w → Made (StandsAsEntries call) (mapped_view entry.Histogram v) (mapped_view entry.Histogram w)
histogram_makes call sample v w takes asks made =
    made-mapped entry.Histogram (StandsAsPushes sample) (StandsAsEntries call) (λ cs are. ap (map entry.Histogram) (are ∙ asks) ∙ histogram_entries call takes) v w made
