-- The series that registrations make.
use Rattle.std.specs.Prelude.{◌≡◌, ◌⊎◌, false, List, [], ◌∷◌, map}
use Rattle.metrics_core.specs.declared.kinds.MetricKind.{MetricKind}
use Rattle.metrics_core.specs.declared.kinds.MetricKind.TheVariants as kinds
use Rattle.metrics_core.specs.Keys.{key_eq}
use Rattle.metrics_registry.specs.Live.{LiveSeries, RegistryText}
use Rattle.flushed_cells.specs.Counters as counters
use Rattle.flushed_cells.specs.Gauges as gauges
use Rattle.dsd_exporter.specs.State.{SeriesStates, register, number_given, with_cell_of}
use Rattle.dsd_exporter.specs.Exporter.{registry_as}
use Rattle.shared_flushes.specs.declared.entries.StateEntry.{StateEntry}
use Rattle.shared_flushes.specs.declared.entries.StateEntry.TheVariants.{Built, Register}

-- the series as they were registered: no call was made on any
abbrev pub bare : {C G H : Type 0} → RegistryText C G H → SeriesStates
bare s = registry_as (λ _. counters.counter_start) (λ _. gauges.gauge_start) (λ _. []) s

-- the entry, with its answer, takes the series from x to y
abbrev pub Step : StateEntry → SeriesStates → SeriesStates → Type 0
Step (Built _) x y = ⊥
Step (Register kind key number) x y = (number ≡ number_given kind key x) × (y ≡ register kind key x)

-- the entry is one of these
abbrev pub Called : StateEntry → List StateEntry → Type 0
Called c [] = ⊥
Called c (d ∷ ds) = (c ≡ d) ⊎ Called c ds

-- ---- the series of a kind

-- a series with its id and its key alone
abbrev pub Named : Type 0
Named = LiveSeries (Unit {0})

abbrev pub named : {X : Type 0} → List (LiveSeries X) → List Named
named live = map (with_cell_of (λ _. tt)) live

-- the series of a kind, in order of registration
abbrev pub of_kind : {C G H : Type 0} → MetricKind → RegistryText C G H → List Named
of_kind kinds.Counter s = named s.counters
of_kind kinds.Gauge s = named s.gauges
of_kind kinds.Histogram s = named s.histograms

-- each was registered, under its key and its number
abbrev pub AreRegistered : MetricKind → List StateEntry → List Named → Type 0
AreRegistered kind entries [] = Unit {0}
AreRegistered kind entries (s ∷ live) = Called (Register kind s.key s.id.number) entries × AreRegistered kind entries live

-- no two have equal keys: none has a key equal to one before it
abbrev pub NoneHas : LiveSeries (Unit {0}) → List Named → Type 0
NoneHas s [] = Unit {0}
NoneHas s (t ∷ live) = (key_eq s.key t.key ≡ false) × NoneHas s live

abbrev pub AreApart : List Named → Type 0
AreApart [] = Unit {0}
AreApart (s ∷ live) = NoneHas s live × AreApart live
