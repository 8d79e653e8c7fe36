-- The exporter's series as lanes see them: counters, then gauges, then histograms, each in order of registration.
use Rattle.std.specs.Prelude.{◌≡◌, ℕ, ◌+◌, ◌<◌, List, [], ◌∷◌, ◌++◌, map, length, Option, Some, None, ⊤}
use mathlib.Core.Option.{some}
use lib.ListN.{get_elem?}
use Rattle.legal_history.specs.declared.history.View.{View}
use Rattle.legal_history.specs.History.{first}
use Rattle.legal_history.specs.Mapped.{mapped_view}
use Rattle.cell_lanes.specs.Things.{Thing}
use Rattle.metrics_core.specs.declared.calls.SeriesCall.{SeriesCall}
use Rattle.metrics_core.specs.declared.calls.SeriesCall.TheVariants as calls
use Rattle.metrics_core.specs.declared.kinds.SeriesId.{SeriesId}
use Rattle.metrics_registry.specs.Live.{LiveSeries}
use Rattle.sample_queue.specs.Series.{pushes, sample_of_call}
use Rattle.histogram_series.specs.Entries.{TimedCall}
use Rattle.prom_exporter.specs.declared.indices.Place.{Place}
use Rattle.prom_exporter.specs.declared.indices.Place.TheVariants as places
use Rattle.prom_exporter.specs.declared.lanes.LanePass.{LanePass}
use Rattle.prom_exporter.specs.declared.lanes.LanePass.TheVariants as passes
use Rattle.prom_exporter.specs.declared.lanes.SeriesCell.{SeriesCell}
use Rattle.prom_exporter.specs.declared.lanes.SeriesCell.TheVariants as cells
use Rattle.prom_exporter.specs.declared.lanes.SeriesEntry.{SeriesEntry}
use Rattle.prom_exporter.specs.declared.lanes.SeriesEntry.TheVariants as entry
use Rattle.prom_exporter.specs.Shared.{Shared, unmade}
use Rattle.prom_exporter.specs.Sampled.{Sampled}
use Rattle.prom_exporter.specs.Exporter.{Exporter, SharedCounter, SharedGauge}

-- a counter, a gauge and a histogram as a thing: what the exporter's own pass knows, with each call as one of any kind, and the cell where it is made
abbrev pub of_counter : SharedCounter → Thing SeriesEntry SeriesCell
of_counter s = record { root = mapped_view entry.Value s.root; fixed = cells.Counter s.cell }

abbrev pub of_gauge : SharedGauge → Thing SeriesEntry SeriesCell
of_gauge s = record { root = mapped_view entry.Value s.root; fixed = cells.Gauge s.cell }

abbrev pub of_histogram : Sampled → Thing SeriesEntry SeriesCell
of_histogram s = record { root = mapped_view entry.Queue s.series.root; fixed = cells.Histogram s.series.cell }

abbrev pub counter_thing : LiveSeries SharedCounter → Thing SeriesEntry SeriesCell
counter_thing series = of_counter series.cell

abbrev pub gauge_thing : LiveSeries SharedGauge → Thing SeriesEntry SeriesCell
gauge_thing series = of_gauge series.cell

abbrev pub histogram_thing : LiveSeries Sampled → Thing SeriesEntry SeriesCell
histogram_thing series = of_histogram series.cell

abbrev pub things_of : Exporter → List (Thing SeriesEntry SeriesCell)
things_of exporter = map counter_thing exporter.series.counters ++ (map gauge_thing exporter.series.gauges ++ map histogram_thing exporter.series.histograms)

-- what a pass knows
abbrev pub pass_known : LanePass → View SeriesEntry
pass_known (passes.Counter lent) = mapped_view entry.Value lent.knows
pass_known (passes.Gauge lent) = mapped_view entry.Value lent.knows
pass_known (passes.Histogram lent) = mapped_view entry.Queue lent.knows

-- the pass is one of this cell
abbrev pub IsPassOf : SeriesCell → LanePass → Type 0
IsPassOf (cells.Counter cell) (passes.Counter lent) = cell ≡ Some lent.cell
IsPassOf (cells.Gauge cell) (passes.Gauge lent) = cell ≡ Some lent.cell
IsPassOf (cells.Histogram cell) (passes.Histogram lent) = lent.cell ≡ cell
IsPassOf (cells.Counter _) (passes.Gauge _) = ⊥
IsPassOf (cells.Counter _) (passes.Histogram _) = ⊥
IsPassOf (cells.Gauge _) (passes.Counter _) = ⊥
IsPassOf (cells.Gauge _) (passes.Histogram _) = ⊥
IsPassOf (cells.Histogram _) (passes.Counter _) = ⊥
IsPassOf (cells.Histogram _) (passes.Gauge _) = ⊥

-- the call is one on a counter, on a gauge, and on a histogram
abbrev pub IsCounterCall : SeriesCall → Type 0
IsCounterCall (calls.Increment _) = ⊤
IsCounterCall (calls.Absolute _) = ⊤
IsCounterCall (calls.Add _) = ⊥
IsCounterCall (calls.Subtract _) = ⊥
IsCounterCall (calls.Set _) = ⊥
IsCounterCall (calls.Record _ _ _) = ⊥

abbrev pub IsGaugeCall : SeriesCall → Type 0
IsGaugeCall (calls.Increment _) = ⊥
IsGaugeCall (calls.Absolute _) = ⊥
IsGaugeCall (calls.Add _) = ⊤
IsGaugeCall (calls.Subtract _) = ⊤
IsGaugeCall (calls.Set _) = ⊤
IsGaugeCall (calls.Record _ _ _) = ⊥

abbrev pub IsRecord : SeriesCall → Type 0
IsRecord (calls.Increment _) = ⊥
IsRecord (calls.Absolute _) = ⊥
IsRecord (calls.Add _) = ⊥
IsRecord (calls.Subtract _) = ⊥
IsRecord (calls.Set _) = ⊥
IsRecord (calls.Record _ _ _) = ⊤

-- the call is one on a cell of this kind
abbrev pub TakesCall : SeriesCell → SeriesCall → Type 0
TakesCall (cells.Counter _) call = IsCounterCall call
TakesCall (cells.Gauge _) call = IsGaugeCall call
TakesCall (cells.Histogram _) call = IsRecord call

-- what was a pass of a cell stays one, and what it took it takes: the cell stays, or one that there wasn't was made
abbrev pub Lasts : SeriesCell → SeriesCell → Type 0
Lasts f g = ((lent : LanePass) → IsPassOf f lent → IsPassOf g lent) × ((call : SeriesCall) → TakesCall f call → TakesCall g call)

pub lasts_on : (f : SeriesCell) → Lasts f f
lasts_on f = (λ lent is. is, λ call takes. takes)

pub lasts_then : (f g h : SeriesCell) → Lasts f g → Lasts g h → Lasts f h
lasts_then f g h first more = (λ lent is. more.0 lent (first.0 lent is), λ call takes. more.1 call (first.1 call takes))

pub owns_on : (f g : SeriesCell) (lent : LanePass) → Lasts f g → IsPassOf f lent → IsPassOf g lent
owns_on f g lent lasts is = lasts.0 lent is

pub takes_on : (f g : SeriesCell) (call : SeriesCall) → Lasts f g → TakesCall f call → TakesCall g call
takes_on f g call lasts takes = lasts.1 call takes

-- the calls that a record makes on the queue of a histogram: one push, and none where it records no sample
abbrev pub pushes_asked : SeriesCall → List TimedCall
pushes_asked call = pushes (sample_of_call call)

-- what stands in the history for a call: on a value the call itself, and for a record its push
abbrev pub entries_made : SeriesCall → List SeriesEntry
entries_made (calls.Increment n) = entry.Value (calls.Increment n) ∷ []
entries_made (calls.Absolute n) = entry.Value (calls.Absolute n) ∷ []
entries_made (calls.Add v) = entry.Value (calls.Add v) ∷ []
entries_made (calls.Subtract v) = entry.Value (calls.Subtract v) ∷ []
entries_made (calls.Set v) = entry.Value (calls.Set v) ∷ []
entries_made (calls.Record value moment count) = map entry.Queue (pushes_asked (calls.Record value moment count))

abbrev pub StandsAsEntries : SeriesCall → List SeriesEntry → Type 0
StandsAsEntries call made = made ≡ entries_made call

-- ---- what lanes leave as it is

-- a series, but for its cell and what the exporter knows of it
abbrev pub unseen : {F : Type 0} → LiveSeries (Shared (Option F)) → LiveSeries (Shared (Option F))
unseen series = record series { cell = record unmade { note = series.cell.note } }

-- a histogram, but for what others do with its queue: the calls that the exporter made itself stay
abbrev pub unheard : Sampled → Sampled
unheard s = record s { series = record s.series { root = record first { mine = s.series.root.mine } } }

abbrev pub unheard_series : LiveSeries Sampled → LiveSeries Sampled
unheard_series series = record series { cell = unheard series.cell }

-- the exporter, but for that
abbrev pub frame_of : Exporter → Exporter
frame_of exporter = record exporter {
  series = record exporter.series {
    counters = map unseen exporter.series.counters;
    gauges = map unseen exporter.series.gauges;
    histograms = map unheard_series exporter.series.histograms;
  };
}

-- ---- indices

-- the ids of the series in the order of their indices
abbrev pub ids_of : Exporter → List SeriesId
ids_of exporter = map (λ series. series.id) exporter.series.counters ++ (map (λ series. series.id) exporter.series.gauges ++ map (λ series. series.id) exporter.series.histograms)

-- the series with the id has this index, or none has the id
abbrev pub IsIndex : SeriesId → Exporter → Option ℕ → Type 0
IsIndex id exporter (Some index) = get_elem? (ids_of exporter) index ≡ some id
IsIndex id exporter None = (index : ℕ) → get_elem? (ids_of exporter) index ≡ some id → ⊥

-- the index is that of this place, if it is one at all
abbrev pub StandsAt : ℕ → Exporter → Place → Type 0
StandsAt index exporter (places.Counter place) = (index ≡ place) × (place < length exporter.series.counters)
StandsAt index exporter (places.Gauge place) = (index ≡ length exporter.series.counters + place) × (place < length exporter.series.gauges)
StandsAt index exporter (places.Histogram place) = index ≡ length exporter.series.counters + (length exporter.series.gauges + place)
