-- The state of the DogStatsD exporter, and the steps of registering, calling and flushing (this project's rules).
use Rattle.std.specs.Prelude.{ℕ, zero, suc, ◌+◌, ◌-◌, ◌/◌, ◌^◌, Bool, false, ◌&&◌, ◌==◌, List, [], ◌∷◌, ◌++◌, map, length, drop, Option, Some, None, is_some, option_map, unwrap_or, flat_map, codes, decimal, if◌then◌else◌}
use Rattle.std.specs.Prelude.{nat_eq}
use Rattle.std.specs.List.{starts_with}
use Rattle.metrics_core.specs.declared.kinds.MetricKind.{MetricKind}
use Rattle.metrics_core.specs.declared.kinds.MetricKind.TheVariants as kinds
use Rattle.metrics_core.specs.declared.numbers.Fixed.{Fixed as FixedOf}
use Rattle.metrics_core.specs.Numbers.{one, dogstatsd_number}
use Rattle.metrics_core.specs.Keys.{KeyText, LabelText}
use Rattle.metrics_registry.specs.Live.{LiveSeries, RegistryText, id_of_key, with_counter, with_gauge, with_histogram}
use Rattle.metrics_registry.specs.Reservoirs.{reservoir, draws, sample_rate}
use Rattle.flushed_cells.specs.declared.counter_state.CounterState.{CounterState}
use Rattle.flushed_cells.specs.declared.gauge_state.GaugeState.{GaugeState}
use Rattle.flushed_cells.specs.Counters as counters
use Rattle.flushed_cells.specs.Gauges as gauges
use Rattle.dsd_writer.specs.Lines.{ItemText, lines_of, left_out_values, spelled_values}
use Rattle.dsd_writer.specs.Writers.{item_of, timed, sampled}

-- the series of each kind, in order of registration, none of which is ever removed; a histogram holds the samples since the last flush
abbrev pub SeriesStates : Type 0
SeriesStates = RegistryText CounterState GaugeState (List FixedOf)

-- the series, and of each counter whether it is idle (of those behind the list's end, none is)
pub record DogStatsDState : Type 0 where
  pub series : SeriesStates
  pub idle : List Bool

abbrev pub no_series_states : SeriesStates
no_series_states = record { counters = []; gauges = []; histograms = []; made = 0 }

-- ---- registering

-- the number that no series ever has
abbrev pub no_series : ℕ
no_series = 2 ^ 64 - 1

-- the number of the series of the kind with an equal key
abbrev pub number_found : {C G H : Type 0} → MetricKind → KeyText → RegistryText C G H → Option ℕ
number_found kinds.Counter key s = option_map (λ id. id.number) (id_of_key key s.counters)
number_found kinds.Gauge key s = option_map (λ id. id.number) (id_of_key key s.gauges)
number_found kinds.Histogram key s = option_map (λ id. id.number) (id_of_key key s.histograms)

-- the number that a registration gives: that of the series that is there, or else of the next one to be made
abbrev pub number_given : {C G H : Type 0} → MetricKind → KeyText → RegistryText C G H → ℕ
number_given kind key s = unwrap_or (number_found kind key s) s.made

-- the series with a new one of the kind, which goes last
abbrev pub with_new : MetricKind → KeyText → SeriesStates → SeriesStates
with_new kinds.Counter key s = with_counter s key counters.counter_start
with_new kinds.Gauge key s = with_gauge s key gauges.gauge_start
with_new kinds.Histogram key s = with_histogram s key []

-- registering changes nothing where the kind has an equal key, or no number is left; otherwise a new series goes last
abbrev pub register : MetricKind → KeyText → SeriesStates → SeriesStates
register kind key s =
    if is_some (number_found kind key s) then s
    else if s.made == no_series then s
    else with_new kind key s

-- ---- flushing

-- whether counters and gauges carry the moment, what stands before names, whether the values of histograms are sent as distributions, and where they are sampled how many are kept
pub record DogStatsDSettings : Type 0 where
  pub aggressive : Bool
  pub telemetry : Bool
  pub distributions : Bool
  pub name_prefix : Option (List ℕ)
  pub reservoir_size : Option ℕ

-- the names of the exporter's own counters begin so, and take no prefix
abbrev pub own_prefix : List ℕ
own_prefix = codes "datadog.dogstatsd.client"

abbrev pub prefix_before : Option (List ℕ) → List ℕ → Option (List ℕ)
prefix_before None name = None
prefix_before (Some prefix) name = if starts_with nat_eq name own_prefix then None else Some prefix

-- what a flush sends of one series: what its lines say beside their values, the values, and how many updates they tell of
pub record FlushItem : Type 0 where
  pub kind : MetricKind
  pub item : ItemText
  pub values : List (List ℕ)
  pub updates : ℕ

-- whether a counter is idle
abbrev pub idle_at : List Bool → ℕ → Bool
idle_at [] n = false
idle_at (mark ∷ marks) zero = mark
idle_at (mark ∷ marks) (suc n) = idle_at marks n

-- a counter without updates
abbrev pub is_quiet : CounterState → Bool
is_quiet s = s.updates == 0

-- the marks after the counters of the list were found so
abbrev pub marks_after : List CounterState → List Bool → List Bool
marks_after [] marks = marks
marks_after (s ∷ found) [] = is_quiet s ∷ marks_after found []
marks_after (s ∷ found) (mark ∷ marks) = is_quiet s ∷ marks_after found marks

abbrev pub line_letter : Bool → List ℕ
line_letter distributions = if distributions then codes "d" else codes "h"

-- with these settings and tags of every line, at a moment in nanoseconds
module _ (settings : DogStatsDSettings) (tags : List LabelText) (moment : ℕ) where
  -- counters and gauges carry the moment in whole seconds in aggressive mode
  abbrev pub timestamp : Option ℕ
  timestamp = if settings.aggressive then Some (moment / one) else None

  abbrev pub item_for : List ℕ → KeyText → ItemText
  item_for type key = item_of type (prefix_before settings.name_prefix key.name) key tags

  -- a counter is sent, but for one without updates that is idle
  abbrev pub counter_item : KeyText → CounterState → FlushItem
  counter_item key s = record { kind = kinds.Counter; item = timed timestamp (item_for (codes "c") key); values = decimal s.delta ∷ []; updates = s.updates }

  abbrev pub counter_items : Bool → KeyText → CounterState → List FlushItem
  counter_items idle key s = if is_quiet s && idle then [] else counter_item key s ∷ []

  abbrev pub items_of_counters : List Bool → List (LiveSeries CounterState) → List FlushItem
  items_of_counters marks [] = []
  items_of_counters [] (series ∷ live) = counter_items false series.key series.cell ++ items_of_counters [] live
  items_of_counters (mark ∷ marks) (series ∷ live) = counter_items mark series.key series.cell ++ items_of_counters marks live

  -- each gauge is sent
  abbrev pub gauge_item : KeyText → GaugeState → FlushItem
  gauge_item key s = record { kind = kinds.Gauge; item = timed timestamp (item_for (codes "g") key); values = dogstatsd_number s.value.0 ∷ []; updates = s.updates }

  abbrev pub items_of_gauges : List (LiveSeries GaugeState) → List FlushItem
  items_of_gauges live = map (λ series. gauge_item series.key series.cell) live

  -- each histogram with samples is sent: all of them, or those that a reservoir keeps, with its rate; words are drawn for it in turn
  abbrev pub histogram_item : KeyText → List ℕ → List FixedOf → FlushItem
  histogram_item key words samples =
      elim settings.reservoir_size [
        | None ↦ record { kind = kinds.Histogram; item = item_for (line_letter settings.distributions) key; values = spelled_values samples; updates = length samples }
        | Some size ↦ record {
          kind = kinds.Histogram;
          item = sampled (Some (sample_rate size (length samples))) (item_for (line_letter settings.distributions) key);
          values = spelled_values (reservoir size words samples);
          updates = length samples;
        }
      ]

  abbrev pub words_for : List FixedOf → ℕ
  words_for samples = elim settings.reservoir_size [ None ↦ 0 | Some size ↦ draws size samples ]

  abbrev pub histogram_items : KeyText → List ℕ → List FixedOf → List FlushItem
  histogram_items key words [] = []
  histogram_items key words (sample ∷ samples) = histogram_item key words (sample ∷ samples) ∷ []

  abbrev pub items_of_histograms : List ℕ → List (LiveSeries (List FixedOf)) → List FlushItem
  items_of_histograms words [] = []
  items_of_histograms words (series ∷ live) =
      histogram_items series.key words series.cell ++ items_of_histograms (drop (words_for series.cell) words) live

  -- what a flush sends: counters, then gauges, then histograms, each in order of registration
  abbrev pub flush_items : List ℕ → DogStatsDState → List FlushItem
  flush_items words s =
      items_of_counters s.idle s.series.counters ++ items_of_gauges s.series.gauges ++ items_of_histograms words s.series.histograms

-- a flush leaves no updates, deltas and samples; a counter without updates is idle after it, and one with updates isn't
abbrev pub with_cell_of : {X Y : Type 0} → (X → Y) → LiveSeries X → LiveSeries Y
with_cell_of f series = record { id = series.id; key = series.key; cell = f series.cell }

abbrev pub flush_step : DogStatsDState → DogStatsDState
flush_step s = record {
  series = record s.series {
    counters = map (with_cell_of counters.flushed) s.series.counters;
    gauges = map (with_cell_of (λ state. gauges.gauge_of state.value 0)) s.series.gauges;
    histograms = map (with_cell_of (λ samples. [])) s.series.histograms;
  };
  idle = marks_after (map (λ series. series.cell) s.series.counters) s.idle;
}

-- ---- what is written of items within a limit

abbrev pub lines_of_items : ℕ → List FlushItem → List (List ℕ)
lines_of_items limit items = flat_map (λ i. lines_of limit i.item i.values) items

-- how many points are left out
abbrev pub left_out_of : ℕ → FlushItem → ℕ
left_out_of limit i = length (left_out_values limit i.item i.values)

abbrev pub left_out_of_items : ℕ → List FlushItem → ℕ
left_out_of_items limit [] = 0
left_out_of_items limit (i ∷ items) = left_out_of limit i + left_out_of_items limit items
