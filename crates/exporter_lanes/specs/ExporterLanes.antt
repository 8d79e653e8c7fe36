-- The series of both exporters as lanes see them: those of the DogStatsD exporter, then those of the Prometheus exporter.
use Rattle.std.specs.Prelude.{◌≡◌, ◌↔◌, ℕ, List, [], ◌∷◌, ◌++◌, map, length}
use Rattle.legal_history.specs.declared.history.View.{View}
use Rattle.legal_history.specs.Mapped.{mapped_view}
use Rattle.cell_lanes.specs.Things.{Thing, root_of}
use Rattle.cell_lanes.specs.Lanes.{AtRest, Roots}
use Rattle.metrics_core.specs.declared.calls.SeriesCall.{SeriesCall}
use Rattle.prom_exporter.specs.declared.lanes.SeriesCell.{SeriesCell as PrometheusCell}
use Rattle.prom_exporter.specs.declared.lanes.SeriesEntry.{SeriesEntry as PrometheusEntry}
use Rattle.prom_exporter.specs.LanePasses as P
use Rattle.dsd_exporter.specs.declared.lanes.SeriesCell.{SeriesCell as DogStatsDCell}
use Rattle.dsd_exporter.specs.declared.lanes.SeriesEntry.{SeriesEntry as DogStatsDEntry}
use Rattle.dsd_exporter.specs.LanePasses as D
use Rattle.exporter_lanes.specs.declared.exporters.Exporters.{Exporters}
use Rattle.exporter_lanes.specs.declared.exporters.ExporterCall.{ExporterCall}
use Rattle.exporter_lanes.specs.declared.exporters.ExporterCall.TheVariants as calls
use Rattle.exporter_lanes.specs.declared.exporters.ExporterPass.{ExporterPass}
use Rattle.exporter_lanes.specs.declared.exporters.ExporterPass.TheVariants as passes
use Rattle.exporter_lanes.specs.declared.exporters.ExporterCell.{ExporterCell}
use Rattle.exporter_lanes.specs.declared.exporters.ExporterCell.TheVariants as cells
use Rattle.exporter_lanes.specs.declared.exporters.ExporterEntry.{ExporterEntry}
use Rattle.exporter_lanes.specs.declared.exporters.ExporterEntry.TheVariants as entries

-- ---- things

-- a thing of either exporter, and of both
abbrev pub PrometheusThing : Type 0
PrometheusThing = Thing PrometheusEntry PrometheusCell

abbrev pub DogStatsDThing : Type 0
DogStatsDThing = Thing DogStatsDEntry DogStatsDCell

abbrev pub ExporterThing : Type 0
ExporterThing = Thing ExporterEntry ExporterCell

-- a thing of either exporter as one of both: each call stands as one of that exporter
abbrev pub prometheus_thing : PrometheusThing → ExporterThing
prometheus_thing t = record { root = mapped_view entries.Prometheus t.root; fixed = cells.Prometheus t.fixed }

abbrev pub dogstatsd_thing : DogStatsDThing → ExporterThing
dogstatsd_thing t = record { root = mapped_view entries.DogStatsD t.root; fixed = cells.DogStatsD t.fixed }

abbrev pub prometheus_things : Exporters → List PrometheusThing
prometheus_things exporters = P.things_of exporters.prometheus

abbrev pub dogstatsd_things : Exporters → List DogStatsDThing
dogstatsd_things exporters = D.things_of exporters.dogstatsd

-- the DogStatsD exporter tells how many it has, so its things come first
abbrev pub things_of : Exporters → List ExporterThing
things_of exporters = map dogstatsd_thing (dogstatsd_things exporters) ++ map prometheus_thing (prometheus_things exporters)

-- the index of the first thing of the Prometheus exporter
abbrev pub first_prometheus : Exporters → ℕ
first_prometheus exporters = length (dogstatsd_things exporters)

-- all but what the exporters know of their series
abbrev pub frame_of : Exporters → Exporters
frame_of exporters = record { prometheus = P.frame_of exporters.prometheus; dogstatsd = D.frame_of exporters.dogstatsd }

-- ---- passes and calls

-- what a pass knows
abbrev pub pass_known : ExporterPass → View ExporterEntry
pass_known (passes.Prometheus lent) = mapped_view entries.Prometheus (P.pass_known lent)
pass_known (passes.DogStatsD lent) = mapped_view entries.DogStatsD (D.pass_known lent)

-- the pass is one of this cell
abbrev pub IsPassOf : ExporterCell → ExporterPass → Type 0
IsPassOf (cells.Prometheus cell) (passes.Prometheus lent) = P.IsPassOf cell lent
IsPassOf (cells.DogStatsD cell) (passes.DogStatsD lent) = D.IsPassOf cell lent
IsPassOf (cells.Prometheus _) (passes.DogStatsD _) = ⊥
IsPassOf (cells.DogStatsD _) (passes.Prometheus _) = ⊥

-- the call is one for this cell's exporter, and on a cell of this kind
abbrev pub TakesCall : ExporterCell → ExporterCall → Type 0
TakesCall (cells.Prometheus cell) (calls.Prometheus call) = P.TakesCall cell call
TakesCall (cells.DogStatsD cell) (calls.DogStatsD call) = D.TakesCall cell call
TakesCall (cells.Prometheus _) (calls.DogStatsD _) = ⊥
TakesCall (cells.DogStatsD _) (calls.Prometheus _) = ⊥

-- what was a pass of a cell stays one, and what it took it takes
abbrev pub Lasts : ExporterCell → ExporterCell → Type 0
Lasts f g = ((lent : ExporterPass) → IsPassOf f lent → IsPassOf g lent) × ((call : ExporterCall) → TakesCall f call → TakesCall g call)

pub lasts_on : (f : ExporterCell) → Lasts f f
lasts_on f = (λ lent is. is, λ call takes. takes)

pub lasts_then : (f g h : ExporterCell) → Lasts f g → Lasts g h → Lasts f h
lasts_then f g h first more = (λ lent is. more.0 lent (first.0 lent is), λ call takes. more.1 call (first.1 call takes))

pub owns_on : (f g : ExporterCell) (lent : ExporterPass) → Lasts f g → IsPassOf f lent → IsPassOf g lent
owns_on f g lent lasts is = lasts.0 lent is

pub takes_on : (f g : ExporterCell) (call : ExporterCall) → Lasts f g → TakesCall f call → TakesCall g call
takes_on f g call lasts takes = lasts.1 call takes

-- what stands in the history for a call: what stands there for it with its exporter
abbrev pub entries_made : ExporterCall → List ExporterEntry
entries_made (calls.Prometheus call) = map entries.Prometheus (P.entries_made call)
entries_made (calls.DogStatsD call) = map entries.DogStatsD (D.entries_made call)

abbrev pub StandsAsEntries : ExporterCall → List ExporterEntry → Type 0
StandsAsEntries call made = made ≡ entries_made call

-- the call, if it is for the exporter
abbrev pub asks_prometheus : ExporterCall → List SeriesCall
asks_prometheus (calls.Prometheus call) = call ∷ []
asks_prometheus (calls.DogStatsD _) = []

abbrev pub asks_dogstatsd : ExporterCall → List SeriesCall
asks_dogstatsd (calls.Prometheus _) = []
asks_dogstatsd (calls.DogStatsD call) = call ∷ []

-- ---- exporters at rest

-- no pass of any thing is out, and each root knows whose each call is
abbrev pub ThingsRest : {M F : Type 0} → List (Thing M F) → Type 0
ThingsRest {M} {F} things = Roots root_of things × AtRest root_of things

-- both together are at rest where each is
abbrev pub RestTogether : Exporters → Type 0
RestTogether exporters = ThingsRest (things_of exporters) ↔ (ThingsRest (prometheus_things exporters) × ThingsRest (dogstatsd_things exporters))
