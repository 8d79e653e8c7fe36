-- An exporter at rest: no pass is out, and it knows whose each call is. So it may run lanes.
use Rattle.std.specs.Prelude.{◌≡◌, ℕ, Bool, List, Option, All}
use Rattle.legal_history.specs.declared.history.View.{View}
use Rattle.legal_history.specs.History.{Settled}
use Rattle.cell_lanes.specs.Things.{root_of}
use Rattle.cell_lanes.specs.Lanes.{AtRest, Roots}
use Rattle.metrics_core.specs.Keys.{KeyText}
use Rattle.dsd_writer.specs.Writers.{WriterText}
use Rattle.dsd_exporter.specs.Exporter.{Exporter, AllHome, IsHome, AddsCounter, AddsGauge, AddsHistogram, no_cells}
use Rattle.dsd_exporter.specs.Flushing.{Found, Flushes}
use Rattle.dsd_exporter.specs.LanePasses.{things_of}
use Rattle.dsd_exporter.specs.Updates.{UpdateText}

-- no pass of the cell is out, and its root knows whose each call is
abbrev pub Rests : {M : Type 0} → View M → Type 0
Rests v = IsHome v × Settled v

pub record AllRest (exporter : Exporter) : Type 0 where
  pub counters : All (λ series. Rests series.cell.root) exporter.series.counters
  pub gauges : All (λ series. Rests series.cell.root) exporter.series.gauges
  pub histograms : All (λ series. Rests series.cell.root) exporter.series.histograms

-- an exporter at rest is what a round of lanes begins with and ends with
pub record RestsForLanes (exporter : Exporter) : Type 0 where
  pub begins : AllRest exporter → Roots root_of (things_of exporter) × AtRest root_of (things_of exporter)
  pub ends : Roots root_of (things_of exporter) → AtRest root_of (things_of exporter) → AllRest exporter
  pub home : AllRest exporter → AllHome exporter

-- an exporter without series is at rest, and one with a new series where it was before
abbrev pub BeginsAtRest : Exporter → Type 0
BeginsAtRest exporter = exporter.series ≡ no_cells → AllRest exporter

pub record NewSeriesRest (key : KeyText) (old new : Exporter) : Type 0 where
  pub counter : AddsCounter key old new → AllRest old → AllRest new
  pub gauge : AddsGauge key old new → AllRest old → AllRest new
  pub histogram : AddsHistogram key old new → AllRest old → AllRest new

-- a flush, also one that was refused memory, leaves an exporter at rest so
abbrev pub FlushRests : Exporter → Exporter → Type 0
FlushRests old new = (moment : ℕ) (found : Found) (marks noted : List Bool) (w v : WriterText) (u n : UpdateText) (to_come left : Option (ℕ → ℕ))
    → Flushes moment found old new marks noted w v u n to_come left → AllRest old → AllRest new
