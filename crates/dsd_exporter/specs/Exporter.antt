-- An exporter as its contracts see it: what it was built with, and its series with their cells.
use Rattle.std.specs.Prelude.{◌≡◌, ℕ, codes, Bool, true, false, List, [], ◌++◌, map, Option, Some, None, All, option_map, string_bytes, if◌then◌else◌}
use Rattle.legal_history.specs.declared.history.View.{View}
use Rattle.legal_history.specs.History.{calls, first}
use Rattle.cell_lanes.specs.Things.{Thing}
use Rattle.metrics_core.specs.declared.numbers.Fixed.{Fixed as FixedOf}
use Rattle.metrics_core.specs.Keys.{KeyText}
use Rattle.metrics_registry.specs.Live.{LiveSeries, RegistryText, with_counter, with_gauge, with_histogram}
use Rattle.flushed_cells.specs.declared.counter.DsdCounter.{DsdCounter}
use Rattle.flushed_cells.specs.declared.counter_calls.CounterCall.{CounterCall}
use Rattle.flushed_cells.specs.declared.counter_state.CounterState.{CounterState}
use Rattle.flushed_cells.specs.declared.gauge.DsdGauge.{DsdGauge}
use Rattle.flushed_cells.specs.declared.gauge_calls.GaugeCall.{GaugeCall}
use Rattle.flushed_cells.specs.declared.gauge_state.GaugeState.{GaugeState}
use Rattle.sample_queue.specs.declared.calls.SampleEntry.{SampleEntry}
use Rattle.sample_queue.specs.declared.calls.QueueCall.{QueueCall}
use Rattle.sample_queue.specs.declared.queue.SampleQueue.{SampleQueue}
use Rattle.dsd_exporter.specs.declared.configuration.AggregationMode.{AggregationMode}
use Rattle.dsd_exporter.specs.declared.configuration.AggregationMode.TheVariants.{Conservative, Aggressive}
use Rattle.dsd_exporter.specs.declared.configuration.StateConfiguration.{StateConfiguration}
use Rattle.dsd_exporter.specs.Samples.{counter_after, gauge_after, waiting_after, samples_in}
use Rattle.dsd_exporter.specs.State.{DogStatsDSettings, SeriesStates, DogStatsDState, with_cell_of}

-- what a configuration says
abbrev pub is_aggressive : AggregationMode → Bool
is_aggressive Conservative = false
is_aggressive Aggressive = true

abbrev pub mode_text : AggregationMode → List ℕ
mode_text Conservative = codes "conservative"
mode_text Aggressive = codes "aggressive"

abbrev pub settings_of : StateConfiguration → DogStatsDSettings
settings_of c = record {
  aggressive = is_aggressive c.agg_mode;
  telemetry = c.telemetry;
  distributions = c.histograms_as_distributions;
  name_prefix = option_map string_bytes c.global_prefix;
  reservoir_size = if c.histogram_sampling then Some c.histogram_reservoir_size else None;
}

-- a counter or a gauge: its cell, once it was lent, and what the exporter's own pass of it knows
abbrev pub CounterThing : Type 0
CounterThing = Thing CounterCall (Option DsdCounter)

abbrev pub GaugeThing : Type 0
GaugeThing = Thing GaugeCall (Option DsdGauge)

-- a histogram: its queue, what the exporter's own pass of it knows, and the entries that were taken out of it and not sent yet
pub record Queued : Type 0 where
  pub cell : SampleQueue FixedOf
  pub root : View (QueueCall FixedOf)
  pub taken : List (SampleEntry FixedOf)

-- the series, each with its cell
abbrev pub Cells : Type 0
Cells = RegistryText CounterThing GaugeThing Queued

pub record Exporter : Type 0 where
  pub settings : DogStatsDSettings
  pub series : Cells

abbrev pub no_cells : Cells
no_cells = record { counters = []; gauges = []; histograms = []; made = 0 }

-- a cell that nobody has called, with no pass out
abbrev pub unused : {M F : Type 0} → F → Thing M F
unused cell = record { root = first; fixed = cell }

-- one whose cell isn't made yet
abbrev pub unmade : {M F : Type 0} → Thing M (Option F)
unmade = unused None

-- a cell that may not be made yet, as one that is or one that isn't
abbrev pub kept_thing : {M F : Type 0} → Option (Thing M F) → Thing M (Option F)
kept_thing None = unmade
kept_thing (Some owned) = record { root = owned.root; fixed = Some owned.fixed }

abbrev pub empty_queue : SampleQueue FixedOf → Queued
empty_queue cell = record { cell = cell; root = first; taken = [] }

-- the keys of series
abbrev pub keys_of : {X : Type 0} → List (LiveSeries X) → List KeyText
keys_of live = map (λ series. series.key) live

-- ---- the sequential state

-- what the exporter has seen of a cell
abbrev pub counter_seen : CounterThing → CounterState
counter_seen c = counter_after (calls c.root.seen)

abbrev pub gauge_seen : GaugeThing → GaugeState
gauge_seen g = gauge_after (calls g.root.seen)

-- of a histogram the samples that were taken out and not sent, and behind them those in the queue
abbrev pub samples_seen : Queued → List FixedOf
samples_seen h = samples_in (h.taken ++ waiting_after (calls h.root.seen))

-- the series with something else in place of their cells
abbrev pub registry_as : {C G H A B D : Type 0} → (C → A) → (G → B) → (H → D) → RegistryText C G H → RegistryText A B D
registry_as counter gauge histogram s = record {
  counters = map (with_cell_of counter) s.counters;
  gauges = map (with_cell_of gauge) s.gauges;
  histograms = map (with_cell_of histogram) s.histograms;
  made = s.made;
}

abbrev pub series_seen : Cells → SeriesStates
series_seen cells = registry_as counter_seen gauge_seen samples_seen cells

-- the sequential state that the exporter has seen, where these counters are marked as idle
abbrev pub state_seen : List Bool → Exporter → DogStatsDState
state_seen idle exporter = record { series = series_seen exporter.series; idle = idle }

-- ---- passes

-- no pass of the cell is out
abbrev pub IsHome : {M : Type 0} → View M → Type 0
IsHome v = (v.number ≡ 0) × (v.out ≡ 0)

-- no pass of any cell is out
pub record AllHome (exporter : Exporter) : Type 0 where
  pub counters : All (λ series. IsHome series.cell.root) exporter.series.counters
  pub gauges : All (λ series. IsHome series.cell.root) exporter.series.gauges
  pub histograms : All (λ series. IsHome series.cell.root) exporter.series.histograms

-- ---- new series

-- a new series goes last: its cell is one that nobody has called
abbrev pub AddsCounter : KeyText → Exporter → Exporter → Type 0
AddsCounter key old new = (cell : Option DsdCounter) × (new ≡ record old { series = with_counter old.series key (unused cell) })

abbrev pub AddsGauge : KeyText → Exporter → Exporter → Type 0
AddsGauge key old new = (cell : Option DsdGauge) × (new ≡ record old { series = with_gauge old.series key (unused cell) })

abbrev pub AddsHistogram : KeyText → Exporter → Exporter → Type 0
AddsHistogram key old new = (cell : SampleQueue FixedOf) × (new ≡ record old { series = with_histogram old.series key (empty_queue cell) })
