-- What a round of lanes leaves of the sequential state.
use Rattle.std.specs.Prelude.{◌≡◌, ℕ, true, List, filter, length}
use Rattle.std.specs.List.{AllByRecursion}
use mathlib.Core.Option.{some}
use lib.ListN.{get_elem?}
use Rattle.legal_history.specs.Order.{taken, IsOrder}
use Rattle.cell_lanes.specs.Lines.{LaneText}
use Rattle.cell_lanes.specs.Things.{root_of, fixed_of}
use Rattle.cell_lanes.specs.Lanes.{AllDone, AllFit, AllTaken, Each, Grew, all_calls_on}
use Rattle.metrics_core.specs.declared.calls.SeriesCall.{SeriesCall}
use Rattle.metrics_core.specs.declared.numbers.Fixed.{Fixed as FixedOf}
use Rattle.metrics_registry.specs.Live.{LiveSeries}
use Rattle.flushed_cells.specs.declared.counter_state.CounterState.{CounterState}
use Rattle.flushed_cells.specs.declared.gauge_state.GaugeState.{GaugeState}
use Rattle.dsd_exporter.specs.CallSteps.{counter_step, gauge_step, samples_step, after_calls, records_some}
use Rattle.dsd_exporter.specs.Exporter.{Exporter, series_seen}
use Rattle.dsd_exporter.specs.LaneIndices.{gauge_index, histogram_index}
use Rattle.dsd_exporter.specs.LanePasses.{TakesCall, StandsAsEntries, things_of, frame_of}

-- lanes ran over an exporter and made all their calls, each on a series that takes it
pub record IsRound (lanes : List (LaneText SeriesCall)) (old new : Exporter) : Type 0 where
  pub done : ℕ → ℕ
  pub all_done : AllDone lanes done
  pub fit : AllFit (length (things_of old)) lanes
  pub taken : AllTaken fixed_of TakesCall (things_of old) lanes
  pub frame : frame_of new ≡ frame_of old
  pub grew : Each (Grew root_of StandsAsEntries lanes done) (things_of old) (things_of new)

-- a series took the calls of all lanes, each once, in one order in which each lane's calls stand as the lane has them
pub record TookCalls {S : Type 0} (step : SeriesCall → S → S) (lists : ℕ → List SeriesCall) (before now : LiveSeries S) : Type 0 where
  pub id : now.id ≡ before.id
  pub key : now.key ≡ before.key
  pub order : List ℕ
  pub is_order : IsOrder order lists
  pub called : now.cell ≡ after_calls step (taken order lists) before.cell

-- of what lane l asks for on the series with this index, the calls that record samples
abbrev pub records_on : ℕ → List (LaneText SeriesCall) → ℕ → List SeriesCall
records_on index lanes l = filter records_some (all_calls_on index lanes l)

-- each counter and each gauge of the sequential state took what all lanes asked for on it
abbrev pub LeavesCounters : List (LaneText SeriesCall) → Exporter → Exporter → Type 0
LeavesCounters lanes old new =
    (length new.series.counters ≡ length old.series.counters)
    × ((place : ℕ) (s t : LiveSeries CounterState) → get_elem? (series_seen old.series).counters place ≡ some s → get_elem? (series_seen new.series).counters place ≡ some t
    → TookCalls counter_step (all_calls_on place lanes) s t)

abbrev pub LeavesGauges : List (LaneText SeriesCall) → Exporter → Exporter → Type 0
LeavesGauges lanes old new =
    (length new.series.gauges ≡ length old.series.gauges)
    × ((place : ℕ) (s t : LiveSeries GaugeState) → get_elem? (series_seen old.series).gauges place ≡ some s → get_elem? (series_seen new.series).gauges place ≡ some t
    → TookCalls gauge_step (all_calls_on (gauge_index old place) lanes) s t)

-- each histogram took what all lanes recorded on it; where each call on it records a sample, all that was asked for
abbrev pub LeavesHistograms : List (LaneText SeriesCall) → Exporter → Exporter → Type 0
LeavesHistograms lanes old new =
    (length new.series.histograms ≡ length old.series.histograms)
    × ((place : ℕ) (s t : LiveSeries (List FixedOf)) → get_elem? (series_seen old.series).histograms place ≡ some s → get_elem? (series_seen new.series).histograms place ≡ some t
    → TookCalls samples_step (records_on (histogram_index old place) lanes) s t
    × (((l : ℕ) → AllByRecursion (λ call. records_some call ≡ true) (all_calls_on (histogram_index old place) lanes l)) → TookCalls samples_step (all_calls_on (histogram_index old place) lanes) s t))
