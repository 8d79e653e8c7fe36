-- What a round of lanes over both exporters leaves of each.
use Rattle.std.specs.Prelude.{◌≡◌, ℕ, ◌+◌, List, flat_map, length}
use Rattle.std.specs.List.{AllByRecursion}
use mathlib.Core.Option.{some}
use lib.ListN.{get_elem?}
use Rattle.legal_history.specs.Order.{GrewInOrder}
use Rattle.cell_lanes.specs.Lines.{LaneText}
use Rattle.cell_lanes.specs.Things.{root_of, fixed_of}
use Rattle.cell_lanes.specs.Lanes.{AllDone, AllFit, AllTaken, Each, Grew, all_calls_on}
use Rattle.metrics_core.specs.declared.calls.SeriesCall.{SeriesCall}
use Rattle.prom_exporter.specs.LanePasses as P
use Rattle.dsd_exporter.specs.LanePasses as D
use Rattle.exporter_lanes.specs.declared.exporters.Exporters.{Exporters}
use Rattle.exporter_lanes.specs.declared.exporters.ExporterCall.{ExporterCall}
use Rattle.exporter_lanes.specs.ExporterLanes.{DogStatsDThing, PrometheusThing, StandsAsEntries, TakesCall, asks_dogstatsd, asks_prometheus, dogstatsd_things, first_prometheus, frame_of, prometheus_things, things_of}

-- lanes ran over both exporters and made all their calls, each on a series that takes it
pub record IsRound (lanes : List (LaneText ExporterCall)) (old new : Exporters) : Type 0 where
  pub done : ℕ → ℕ
  pub all_done : AllDone lanes done
  pub fit : AllFit (length (things_of old)) lanes
  pub taken : AllTaken fixed_of TakesCall (things_of old) lanes
  pub frame : frame_of new ≡ frame_of old
  pub grew : Each (Grew root_of StandsAsEntries lanes done) (things_of old) (things_of new)

-- what lane l asks for on the thing of the Prometheus exporter with this index of its own, where so many things are before its first one
abbrev pub prometheus_calls_on : ℕ → ℕ → List (LaneText ExporterCall) → ℕ → List SeriesCall
prometheus_calls_on first j lanes l = flat_map asks_prometheus (all_calls_on (first + j) lanes l)

-- what lane l asks for on the thing of the DogStatsD exporter with this index
abbrev pub dogstatsd_calls_on : ℕ → List (LaneText ExporterCall) → ℕ → List SeriesCall
dogstatsd_calls_on j lanes l = flat_map asks_dogstatsd (all_calls_on j lanes l)

-- the history of each thing of the exporter grew by what all lanes asked for on it, in one order in which each lane's calls stand as the lane has them
abbrev pub PrometheusGrew : List (LaneText ExporterCall) → Exporters → Exporters → Type 0
PrometheusGrew lanes old new = (j : ℕ) (c d : PrometheusThing) → get_elem? (prometheus_things old) j ≡ some c → get_elem? (prometheus_things new) j ≡ some d
    → GrewInOrder (λ l. flat_map P.entries_made (prometheus_calls_on (first_prometheus old) j lanes l)) c.root.seen d.root.seen

abbrev pub DogStatsDGrew : List (LaneText ExporterCall) → Exporters → Exporters → Type 0
DogStatsDGrew lanes old new = (j : ℕ) (c d : DogStatsDThing) → get_elem? (dogstatsd_things old) j ≡ some c → get_elem? (dogstatsd_things new) j ≡ some d
    → GrewInOrder (λ l. flat_map D.entries_made (dogstatsd_calls_on j lanes l)) c.root.seen d.root.seen

-- each call that a lane asks for on a thing of the exporter is one that the thing takes there
abbrev pub PrometheusTakes : List (LaneText ExporterCall) → Exporters → Type 0
PrometheusTakes lanes old = (j : ℕ) (c : PrometheusThing) → get_elem? (prometheus_things old) j ≡ some c → (l : ℕ) → AllByRecursion (P.TakesCall c.fixed) (prometheus_calls_on (first_prometheus old) j lanes l)

abbrev pub DogStatsDTakes : List (LaneText ExporterCall) → Exporters → Type 0
DogStatsDTakes lanes old = (j : ℕ) (c : DogStatsDThing) → get_elem? (dogstatsd_things old) j ≡ some c → (l : ℕ) → AllByRecursion (D.TakesCall c.fixed) (dogstatsd_calls_on j lanes l)

-- a round over both is one over each: its series took the calls that are for it, and nothing else of it changed
pub record IsRoundOverEach (lanes : List (LaneText ExporterCall)) (old new : Exporters) : Type 0 where
  pub prometheus : PrometheusGrew lanes old new
  pub dogstatsd : DogStatsDGrew lanes old new
  pub prometheus_takes : PrometheusTakes lanes old
  pub dogstatsd_takes : DogStatsDTakes lanes old
  pub prometheus_frame : P.frame_of new.prometheus ≡ P.frame_of old.prometheus
  pub dogstatsd_frame : D.frame_of new.dogstatsd ≡ D.frame_of old.dogstatsd
  pub as_many_prometheus : length (prometheus_things new) ≡ length (prometheus_things old)
  pub as_many_dogstatsd : length (dogstatsd_things new) ≡ length (dogstatsd_things old)
