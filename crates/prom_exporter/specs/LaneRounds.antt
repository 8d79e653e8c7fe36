-- What a round of lanes leaves of the exporter's series.
use Rattle.std.specs.Prelude.{◌≡◌, ℕ, zero, suc, Bool, true, false, List, ◌++◌, map, filter, length}
use Rattle.std.specs.List.{AllByRecursion}
use mathlib.Core.Option.{some}
use lib.ListN.{get_elem?}
use Rattle.legal_history.specs.Order.{taken, IsOrder, GrewInOrder}
use Rattle.cell_lanes.specs.Lines.{LaneText}
use Rattle.cell_lanes.specs.Things.{root_of, fixed_of}
use Rattle.cell_lanes.specs.Lanes.{AllDone, AllFit, AllTaken, Each, Grew, all_calls_on}
use Rattle.metrics_core.specs.declared.calls.SeriesCall.{SeriesCall}
use Rattle.metrics_core.specs.declared.calls.SeriesCall.TheVariants as calls
use Rattle.metrics_core.specs.Series.{call_of}
use Rattle.metrics_registry.specs.Live.{LiveSeries}
use Rattle.prom_exporter.specs.Sampled.{Sampled, calls_known}
use Rattle.prom_exporter.specs.Exporter.{Exporter, SharedCounter, SharedGauge}
use Rattle.prom_exporter.specs.LaneIndices.{gauge_index, histogram_index}
use Rattle.prom_exporter.specs.LanePasses.{TakesCall, StandsAsEntries, things_of, frame_of}

-- lanes ran over an exporter and made all their calls, each on a series that takes it
pub record IsRound (lanes : List (LaneText SeriesCall)) (old new : Exporter) : Type 0 where
  pub done : ℕ → ℕ
  pub all_done : AllDone lanes done
  pub fit : AllFit (length (things_of old)) lanes
  pub taken : AllTaken fixed_of TakesCall (things_of old) lanes
  pub frame : frame_of new ≡ frame_of old
  pub grew : Each (Grew root_of StandsAsEntries lanes done) (things_of old) (things_of new)

-- whether a call records a sample or more
abbrev pub records_some : SeriesCall → Bool
records_some (calls.Record value moment zero) = false
records_some (calls.Record value moment (suc more)) = true
records_some (calls.Increment _) = false
records_some (calls.Absolute _) = false
records_some (calls.Add _) = false
records_some (calls.Subtract _) = false
records_some (calls.Set _) = false

-- of what lane l asks for on the series with this index, the calls that record samples
abbrev pub records_on : ℕ → List (LaneText SeriesCall) → ℕ → List SeriesCall
records_on index lanes l = filter records_some (all_calls_on index lanes l)

-- the history of each counter and of each gauge grew by what all lanes asked for on it, in one order of lanes
abbrev pub LeavesValues : List (LaneText SeriesCall) → Exporter → Exporter → Type 0
LeavesValues lanes old new =
    ((place : ℕ) (s t : LiveSeries SharedCounter) → get_elem? old.series.counters place ≡ some s → get_elem? new.series.counters place ≡ some t
    → GrewInOrder (all_calls_on place lanes) s.cell.root.seen t.cell.root.seen)
    × ((place : ℕ) (s t : LiveSeries SharedGauge) → get_elem? old.series.gauges place ≡ some s → get_elem? new.series.gauges place ≡ some t
    → GrewInOrder (all_calls_on (gauge_index old place) lanes) s.cell.root.seen t.cell.root.seen)

-- a histogram's calls grew by these calls of lanes, in one order of lanes
abbrev pub GrewByRecords : (ℕ → List SeriesCall) → Sampled → Sampled → Type 0
GrewByRecords lists s t = (order : List ℕ) × IsOrder order lists × (calls_known t ≡ calls_known s ++ map call_of (taken order lists))

-- each histogram's calls grew by what all lanes recorded on it; where each call on it records a sample, by all that was asked for
abbrev pub LeavesRecords : List (LaneText SeriesCall) → Exporter → Exporter → Type 0
LeavesRecords lanes old new =
    (place : ℕ) (s t : LiveSeries Sampled) → get_elem? old.series.histograms place ≡ some s → get_elem? new.series.histograms place ≡ some t
    → GrewByRecords (records_on (histogram_index old place) lanes) s.cell t.cell
    × (((l : ℕ) → AllByRecursion (λ call. records_some call ≡ true) (all_calls_on (histogram_index old place) lanes l)) → GrewByRecords (all_calls_on (histogram_index old place) lanes) s.cell t.cell)
