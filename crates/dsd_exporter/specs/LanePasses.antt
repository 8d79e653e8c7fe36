-- The series of a state as lanes see them: counters, then gauges, then histograms, each in order of registration.
use Rattle.std.specs.Prelude.{◌≡◌, ℕ, ◌+◌, ◌<◌, List, [], ◌∷◌, ◌++◌, map, length, Option, Some, None}
use mathlib.Core.Option.{some}
use lib.ListN.{get_elem?}
use Rattle.legal_history.specs.declared.history.View.{View}
use Rattle.legal_history.specs.Mapped.{mapped_view}
use Rattle.cell_lanes.specs.Things.{Thing}
use Rattle.metrics_core.specs.declared.calls.SeriesCall.{SeriesCall}
use Rattle.metrics_core.specs.declared.calls.SeriesCall.TheVariants as calls
use Rattle.metrics_core.specs.declared.gauge_values.GaugeValue.TheVariants as update
use Rattle.metrics_core.specs.declared.kinds.SeriesId.{SeriesId}
use Rattle.metrics_core.specs.declared.numbers.Fixed.{Fixed as FixedOf}
use Rattle.metrics_registry.specs.Live.{LiveSeries}
use Rattle.flushed_cells.specs.declared.counter_calls.CounterCall.{CounterCall}
use Rattle.flushed_cells.specs.declared.counter_calls.CounterCall.TheVariants as counter
use Rattle.flushed_cells.specs.declared.gauge_calls.GaugeCall.{GaugeCall}
use Rattle.flushed_cells.specs.declared.gauge_calls.GaugeCall.TheVariants as gauge
use Rattle.sample_queue.specs.declared.calls.QueueCall.{QueueCall}
use Rattle.sample_queue.specs.Series.{pushes_of}
use Rattle.dsd_exporter.specs.declared.indices.Place.{Place}
use Rattle.dsd_exporter.specs.declared.indices.Place.TheVariants as places
use Rattle.dsd_exporter.specs.declared.lanes.LanePass.{LanePass}
use Rattle.dsd_exporter.specs.declared.lanes.LanePass.TheVariants as passes
use Rattle.dsd_exporter.specs.declared.lanes.SeriesCell.{SeriesCell}
use Rattle.dsd_exporter.specs.declared.lanes.SeriesCell.TheVariants as cells
use Rattle.dsd_exporter.specs.declared.lanes.SeriesEntry.{SeriesEntry}
use Rattle.dsd_exporter.specs.declared.lanes.SeriesEntry.TheVariants as entry
use Rattle.dsd_exporter.specs.CallSteps.{IsCounterCall, IsGaugeCall, IsRecord}
use Rattle.dsd_exporter.specs.Exporter.{Exporter, CounterThing, GaugeThing, Queued, unmade, empty_queue}

-- a counter, a gauge and a histogram as a thing: what the exporter's own pass knows, with each call as one of any kind, and the cell
abbrev pub of_counter : CounterThing → Thing SeriesEntry SeriesCell
of_counter s = record { root = mapped_view entry.Counter s.root; fixed = cells.Counter s.fixed }

abbrev pub of_gauge : GaugeThing → Thing SeriesEntry SeriesCell
of_gauge s = record { root = mapped_view entry.Gauge s.root; fixed = cells.Gauge s.fixed }

abbrev pub of_histogram : Queued → Thing SeriesEntry SeriesCell
of_histogram s = record { root = mapped_view entry.Histogram s.root; fixed = cells.Histogram s.cell }

abbrev pub counter_thing : LiveSeries CounterThing → Thing SeriesEntry SeriesCell
counter_thing series = of_counter series.cell

abbrev pub gauge_thing : LiveSeries GaugeThing → Thing SeriesEntry SeriesCell
gauge_thing series = of_gauge series.cell

abbrev pub histogram_thing : LiveSeries Queued → Thing SeriesEntry SeriesCell
histogram_thing series = of_histogram series.cell

abbrev pub things_of : Exporter → List (Thing SeriesEntry SeriesCell)
things_of exporter = map counter_thing exporter.series.counters ++ (map gauge_thing exporter.series.gauges ++ map histogram_thing exporter.series.histograms)

-- what a pass knows
abbrev pub pass_known : LanePass → View SeriesEntry
pass_known (passes.Counter lent) = mapped_view entry.Counter lent.knows
pass_known (passes.Gauge lent) = mapped_view entry.Gauge lent.knows
pass_known (passes.Histogram lent) = mapped_view entry.Histogram lent.knows

-- the pass is one of this cell
abbrev pub IsPassOf : SeriesCell → LanePass → Type 0
IsPassOf (cells.Counter cell) (passes.Counter lent) = cell ≡ Some lent.cell
IsPassOf (cells.Gauge cell) (passes.Gauge lent) = cell ≡ Some lent.cell
IsPassOf (cells.Histogram cell) (passes.Histogram lent) = lent.cell ≡ cell
IsPassOf (cells.Counter _) (passes.Gauge _) = ⊥
IsPassOf (cells.Counter _) (passes.Histogram _) = ⊥
IsPassOf (cells.Gauge _) (passes.Counter _) = ⊥
IsPassOf (cells.Gauge _) (passes.Histogram _) = ⊥
IsPassOf (cells.Histogram _) (passes.Counter _) = ⊥
IsPassOf (cells.Histogram _) (passes.Gauge _) = ⊥

-- the call is one on a cell of this kind
abbrev pub TakesCall : SeriesCell → SeriesCall → Type 0
TakesCall (cells.Counter _) call = IsCounterCall call
TakesCall (cells.Gauge _) call = IsGaugeCall call
TakesCall (cells.Histogram _) call = IsRecord call

-- what was a pass of a cell stays one, and what it took it takes: the cell stays, or one that there wasn't was made
abbrev pub Lasts : SeriesCell → SeriesCell → Type 0
Lasts f g = ((lent : LanePass) → IsPassOf f lent → IsPassOf g lent) × ((call : SeriesCall) → TakesCall f call → TakesCall g call)

pub lasts_on : (f : SeriesCell) → Lasts f f
lasts_on f = (λ lent is. is, λ call takes. takes)

pub lasts_then : (f g h : SeriesCell) → Lasts f g → Lasts g h → Lasts f h
lasts_then f g h first more = (λ lent is. more.0 lent (first.0 lent is), λ call takes. more.1 call (first.1 call takes))

pub owns_on : (f g : SeriesCell) (lent : LanePass) → Lasts f g → IsPassOf f lent → IsPassOf g lent
owns_on f g lent lasts is = lasts.0 lent is

pub takes_on : (f g : SeriesCell) (call : SeriesCall) → Lasts f g → TakesCall f call → TakesCall g call
takes_on f g call lasts takes = lasts.1 call takes

-- what stands in the history of a counter for a call, in that of a gauge, and in that of a queue, where a record of no sample is none
abbrev pub counter_calls : SeriesCall → List CounterCall
counter_calls (calls.Increment n) = counter.Increment n ∷ []
counter_calls (calls.Absolute n) = counter.Absolute n ∷ []
counter_calls (calls.Add _) = []
counter_calls (calls.Subtract _) = []
counter_calls (calls.Set _) = []
counter_calls (calls.Record _ _ _) = []

abbrev pub gauge_calls : SeriesCall → List GaugeCall
gauge_calls (calls.Increment _) = []
gauge_calls (calls.Absolute _) = []
gauge_calls (calls.Add value) = gauge.Update (update.Increment value) ∷ []
gauge_calls (calls.Subtract value) = gauge.Update (update.Decrement value) ∷ []
gauge_calls (calls.Set value) = gauge.Update (update.Absolute value) ∷ []
gauge_calls (calls.Record _ _ _) = []

abbrev pub queue_calls : SeriesCall → List (QueueCall FixedOf)
queue_calls (calls.Increment _) = []
queue_calls (calls.Absolute _) = []
queue_calls (calls.Add _) = []
queue_calls (calls.Subtract _) = []
queue_calls (calls.Set _) = []
queue_calls (calls.Record value moment count) = pushes_of value count

-- a call of any kind is one on series of one kind
abbrev pub entries_made : SeriesCall → List SeriesEntry
entries_made call = map entry.Counter (counter_calls call) ++ (map entry.Gauge (gauge_calls call) ++ map entry.Histogram (queue_calls call))

abbrev pub StandsAsEntries : SeriesCall → List SeriesEntry → Type 0
StandsAsEntries call made = made ≡ entries_made call

-- ---- what lanes leave as it is

-- a series, but for its cell and what the exporter knows of it
abbrev pub unseen : {M F : Type 0} → LiveSeries (Thing M (Option F)) → LiveSeries (Thing M (Option F))
unseen series = record series { cell = unmade }

-- a histogram, but for that: what was taken out of its queue stays
abbrev pub unheard : Queued → Queued
unheard s = record (empty_queue s.cell) { taken = s.taken }

abbrev pub unheard_series : LiveSeries Queued → LiveSeries Queued
unheard_series series = record series { cell = unheard series.cell }

-- the exporter, but for that
abbrev pub frame_of : Exporter → Exporter
frame_of exporter = record exporter {
  series = record exporter.series {
    counters = map unseen exporter.series.counters;
    gauges = map unseen exporter.series.gauges;
    histograms = map unheard_series exporter.series.histograms;
  };
}

-- ---- indices

-- the ids of the series in the order of their indices
abbrev pub ids_of : Exporter → List SeriesId
ids_of exporter = map (λ series. series.id) exporter.series.counters ++ (map (λ series. series.id) exporter.series.gauges ++ map (λ series. series.id) exporter.series.histograms)

-- the series with the id has this index, or none has the id
abbrev pub IsIndex : SeriesId → Exporter → Option ℕ → Type 0
IsIndex id exporter (Some index) = get_elem? (ids_of exporter) index ≡ some id
IsIndex id exporter None = (index : ℕ) → get_elem? (ids_of exporter) index ≡ some id → ⊥

-- the index is that of this place, if it is one at all
abbrev pub StandsAt : ℕ → Exporter → Place → Type 0
StandsAt index exporter (places.Counter place) = (index ≡ place) × (place < length exporter.series.counters)
StandsAt index exporter (places.Gauge place) = (index ≡ length exporter.series.counters + place) × (place < length exporter.series.gauges)
StandsAt index exporter (places.Histogram place) = index ≡ length exporter.series.counters + (length exporter.series.gauges + place)
