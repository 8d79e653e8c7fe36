-- What a flush leaves of the state of a receiver that all its payloads are applied to (this project's rule).
use Rattle.std.specs.Prelude.{◌≡◌, ℕ, ◌^◌, ◌<◌, ◌&&◌, Bool, true, false, None, List, [], ◌∷◌, ◌++◌, map, filter, flat_map, fold, decimal, All, FitsSigned, if◌then◌else◌}
use Rattle.std.specs.Int.{w64}
use Rattle.metrics_core.specs.declared.kinds.MetricKind.{MetricKind}
use Rattle.metrics_core.specs.Keys.{KeyText}
use Rattle.metrics_core.specs.Calls.{Call}
use Rattle.metrics_core.specs.Numbers.{dogstatsd_number}
use Rattle.metrics_core.specs.declared.numbers.Fixed.{Fixed}
use Rattle.metrics_registry.specs.Live.{LiveSeries}
use Rattle.flushed_cells.specs.declared.counter_state.CounterState.{CounterState}
use Rattle.flushed_cells.specs.declared.gauge_state.GaugeState.{GaugeState}
use Rattle.dsd_writer.specs.Lines.{ItemText, line_fits}
use Rattle.dsd_lines.specs.Grammar.{PointsText, Counter, Gauge, Steps, Histogram, Distribution, Timer, IsClean, LineText}
use Rattle.dsd_lines.specs.Texts.{numbers_of}
use Rattle.dsd_lines.specs.Written.{IsSayable, item_said, points_spelled}
use Rattle.dsd_exporter.specs.State.{DogStatsDSettings, DogStatsDState, is_quiet, timestamp}
use Rattle.prom_exporter.specs.State.{PrometheusState}
use Rattle.dsd_receiver.specs.Received.{calls_of_points, kind_said, rate_said, with_calls}

-- what a flush sends of one series says this: these are its name, tags, type, rate and timestamp, and its values are spelled so
pub record IsSaidBy (item : ItemText) (values : List (List ℕ)) (said : LineText) : Type 0 where
  pub item_is : item ≡ item_said said
  pub values_are : values ≡ points_spelled said.points
  pub sayable : IsSayable said

-- the values that are not left out: a line with such a value alone is within the limit
abbrev pub kept : {X : Type 0} → ℕ → ItemText → (X → List ℕ) → List X → List X
kept limit item spell values = filter (λ value. line_fits limit item (spell value ∷ [])) values

-- those of StatsD alone no flush sends
abbrev pub kept_points : ℕ → ItemText → PointsText → PointsText
kept_points limit item (Counter counts) = Counter (kept limit item decimal counts)
kept_points limit item (Gauge values) = Gauge (kept limit item dogstatsd_number values)
kept_points limit item (Histogram values) = Histogram (kept limit item dogstatsd_number values)
kept_points limit item (Distribution values) = Distribution (kept limit item dogstatsd_number values)
kept_points limit item (Steps steps) = Steps []
kept_points limit item (Timer numbers) = Timer []

-- the calls of the values that are not left out
abbrev pub calls_kept : ℕ → ℕ → LineText → List Call
calls_kept moment limit said = calls_of_points moment (rate_said said.rate) (kept_points limit (item_said said) said.points)

-- a series of which no value is sent isn't registered
abbrev pub with_some : MetricKind → KeyText → List Call → PrometheusState → PrometheusState
with_some kind key [] s = s
with_some kind key (call ∷ calls) s = with_calls kind key (call ∷ calls) s

abbrev pub after_said : ℕ → ℕ → PrometheusState → LineText → PrometheusState
after_said moment limit s said = with_some (kind_said said.points) said.key (calls_kept moment limit said) s

-- the state extended by the values of all series that a flush sends, less those that are left out
abbrev pub after_all_said : ℕ → ℕ → List LineText → PrometheusState → PrometheusState
after_all_said moment limit saids s = fold (after_said moment limit) s saids

-- ---- what a flush sends

-- what lines say of a flush at a moment, where no prefix stands before names and histograms are not sampled: of each counter that
-- is sent what was added since the last flush, of each gauge its value, and of each histogram with samples all of them, in order
module _ (settings : DogStatsDSettings) (moment : ℕ) where
  abbrev pub counter_said : KeyText → CounterState → LineText
  counter_said key s = record { key = key; points = Counter (s.delta ∷ []); rate = None; timestamp = timestamp settings [] moment }

  abbrev pub counter_if_sent : Bool → KeyText → CounterState → List LineText
  counter_if_sent idle key s = if is_quiet s && idle then [] else counter_said key s ∷ []

  abbrev pub counters_said : List Bool → List (LiveSeries CounterState) → List LineText
  counters_said marks [] = []
  counters_said [] (series ∷ live) = counter_if_sent false series.key series.cell ++ counters_said [] live
  counters_said (mark ∷ marks) (series ∷ live) = counter_if_sent mark series.key series.cell ++ counters_said marks live

  abbrev pub gauge_said : KeyText → GaugeState → LineText
  gauge_said key s = record { key = key; points = Gauge (s.value.0 ∷ []); rate = None; timestamp = timestamp settings [] moment }

  abbrev pub gauges_said : List (LiveSeries GaugeState) → List LineText
  gauges_said live = map (λ series. gauge_said series.key series.cell) live

  abbrev pub samples_said : Bool → List Fixed → PointsText
  samples_said true samples = Distribution (numbers_of samples)
  samples_said false samples = Histogram (numbers_of samples)

  abbrev pub histogram_if_any : KeyText → List Fixed → List LineText
  histogram_if_any key [] = []
  histogram_if_any key (sample ∷ samples) =
      record { key = key; points = samples_said settings.distributions (sample ∷ samples); rate = None; timestamp = None } ∷ []

  abbrev pub histograms_said : List (LiveSeries (List Fixed)) → List LineText
  histograms_said live = flat_map (λ series. histogram_if_any series.key series.cell) live

  abbrev pub flush_said : DogStatsDState → List LineText
  flush_said s = counters_said s.idle s.series.counters ++ gauges_said s.series.gauges ++ histograms_said s.series.histograms

-- Lines can say what a flush sends: no prefix stands before names, histograms are not sampled, keys are clean, and values fit 64
-- bits, as all values of the program do.
pub record CanBeSaid (settings : DogStatsDSettings) (s : DogStatsDState) : Type 0 where
  pub prefix : settings.name_prefix ≡ None
  pub unsampled : settings.reservoir_size ≡ None
  pub counters : All (λ series. IsClean series.key × (series.cell.delta < 2 ^ 64)) s.series.counters
  pub gauges : All (λ series. IsClean series.key × FitsSigned w64 series.cell.value.0) s.series.gauges
  pub histograms : All (λ series. IsClean series.key × All (FitsSigned w64) (numbers_of series.cell)) s.series.histograms
