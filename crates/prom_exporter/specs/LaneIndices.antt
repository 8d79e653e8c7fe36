-- The exporter's series under the indices by which lanes find them.
use Rattle.std.specs.Prelude.{◌≡◌, ◌⊎◌, ℕ, ◌+◌, length}
use mathlib.Core.Option.{some}
use lib.ListN.{get_elem?}
use Rattle.cell_lanes.specs.Things.{Thing}
use Rattle.metrics_core.specs.declared.kinds.SeriesId.{SeriesId}
use Rattle.metrics_registry.specs.Live.{LiveSeries}
use Rattle.prom_exporter.specs.declared.lanes.SeriesCell.{SeriesCell}
use Rattle.prom_exporter.specs.declared.lanes.SeriesEntry.{SeriesEntry}
use Rattle.prom_exporter.specs.Sampled.{Sampled}
use Rattle.prom_exporter.specs.Exporter.{Exporter, SharedCounter, SharedGauge}
use Rattle.prom_exporter.specs.LanePasses.{counter_thing, gauge_thing, histogram_thing, things_of, ids_of}

-- the indices of a gauge and of a histogram, by their places among those of their kind; that of a counter is its place
abbrev pub gauge_index : Exporter → ℕ → ℕ
gauge_index exporter place = length exporter.series.counters + place

abbrev pub histogram_index : Exporter → ℕ → ℕ
histogram_index exporter place = length exporter.series.counters + (length exporter.series.gauges + place)

-- a thing has this index, and its id has it
abbrev pub HasIndex : Exporter → ℕ → Thing SeriesEntry SeriesCell → SeriesId → Type 0
HasIndex exporter index thing id = (get_elem? (things_of exporter) index ≡ some thing) × (get_elem? (ids_of exporter) index ≡ some id)

-- each series has the index of its place, and there are as many ids as things
pub record HaveIndices (exporter : Exporter) : Type 0 where
  pub counters : (place : ℕ) (s : LiveSeries SharedCounter) → get_elem? exporter.series.counters place ≡ some s → HasIndex exporter place (counter_thing s) s.id
  pub gauges : (place : ℕ) (s : LiveSeries SharedGauge) → get_elem? exporter.series.gauges place ≡ some s → HasIndex exporter (gauge_index exporter place) (gauge_thing s) s.id
  pub histograms : (place : ℕ) (s : LiveSeries Sampled) → get_elem? exporter.series.histograms place ≡ some s → HasIndex exporter (histogram_index exporter place) (histogram_thing s) s.id
  pub as_many : length (ids_of exporter) ≡ length (things_of exporter)

-- what has an index is a counter, a gauge or a histogram, at the place of the index
abbrev pub CounterHas : Exporter → ℕ → Thing SeriesEntry SeriesCell → Type 0
CounterHas exporter index thing = (s : LiveSeries SharedCounter) × (get_elem? exporter.series.counters index ≡ some s) × (counter_thing s ≡ thing)

abbrev pub GaugeHas : Exporter → ℕ → Thing SeriesEntry SeriesCell → Type 0
GaugeHas exporter index thing = (place : ℕ) × (index ≡ gauge_index exporter place) × ((s : LiveSeries SharedGauge) × (get_elem? exporter.series.gauges place ≡ some s) × (gauge_thing s ≡ thing))

abbrev pub HistogramHas : Exporter → ℕ → Thing SeriesEntry SeriesCell → Type 0
HistogramHas exporter index thing = (place : ℕ) × (index ≡ histogram_index exporter place) × ((s : LiveSeries Sampled) × (get_elem? exporter.series.histograms place ≡ some s) × (histogram_thing s ≡ thing))

abbrev pub IsOfOneKind : Exporter → Type 0
IsOfOneKind exporter = (index : ℕ) (thing : Thing SeriesEntry SeriesCell) → get_elem? (things_of exporter) index ≡ some thing → CounterHas exporter index thing ⊎ (GaugeHas exporter index thing ⊎ HistogramHas exporter index thing)

-- no id has two indices
abbrev pub HaveOneIndex : Exporter → Type 0
HaveOneIndex exporter = (i j : ℕ) (id : SeriesId) → get_elem? (ids_of exporter) i ≡ some id → get_elem? (ids_of exporter) j ≡ some id → i ≡ j
