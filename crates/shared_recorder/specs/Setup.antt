-- The recorder of one thread: the exporter's sequential state, of which no calls are known.
use Rattle.std.specs.Prelude.{◌≡◌, ℕ, ◌==◌, ◌⊎◌, List, [], ◌∷◌, map, None, if◌then◌else◌}
use Rattle.metrics_registry.specs.Live.{LiveSeries}
use Rattle.prom_exporter.specs.State.{Series, PrometheusState, register, number_given, describe, publish}
use Rattle.prom_exporter.specs.Families.{ExporterSettings}
use Rattle.prom_exporter.specs.Exporter.{Exporter}
use Rattle.shared_recorder.specs.declared.entries.Gone.{Gone}
use Rattle.shared_recorder.specs.declared.entries.RecorderEntry.{RecorderEntry}
use Rattle.shared_recorder.specs.declared.entries.RecorderEntry.TheVariants.{Built, Register, Describe, Page}

-- the series as registered
abbrev pub bare : Series → Series
bare s = record { number = s.number; key = s.key; calls = []; note = None }

-- the state as registrations, descriptions and pages made it
abbrev pub setup : PrometheusState → PrometheusState
setup s = record s { counters = map bare s.counters; gauges = map bare s.gauges; histograms = map bare s.histograms }

-- ---- what a page removes

-- the series less those with these numbers, which stand in the order of the series
abbrev pub left : List ℕ → List Series → List Series
left [] series = series
left (n ∷ gone) [] = []
left (n ∷ gone) (s ∷ series) = if s.number == n then left gone series else s ∷ left (n ∷ gone) series

-- the numbers of the first list that aren't in the second, which has the others in the same order
abbrev pub gone_between : List ℕ → List ℕ → List ℕ
gone_between [] now = []
gone_between (n ∷ before) [] = n ∷ gone_between before []
gone_between (n ∷ before) (m ∷ now) = if n == m then gone_between before now else n ∷ gone_between before (m ∷ now)

abbrev pub numbers_of : {X : Type 0} → List (LiveSeries X) → List ℕ
numbers_of live = map (λ s. s.id.number) live

abbrev pub gone : List ℕ → List ℕ → List ℕ → Gone
gone counters gauges histograms = record { counters = counters; gauges = gauges; histograms = histograms }

-- the series of one exporter that another has no more
abbrev pub gone_of : Exporter → Exporter → Gone
gone_of x y = gone
    (gone_between (numbers_of x.series.counters) (numbers_of y.series.counters))
    (gone_between (numbers_of x.series.gauges) (numbers_of y.series.gauges))
    (gone_between (numbers_of x.series.histograms) (numbers_of y.series.histograms))

abbrev pub none_gone : Gone
none_gone = gone [] [] []

-- what a page leaves: it publishes what waits, and these series are no longer live
abbrev pub page_left : Gone → PrometheusState → PrometheusState
page_left g x = publish (record x { counters = left g.counters x.counters; gauges = left g.gauges x.gauges; histograms = left g.histograms x.histograms })

-- ---- the history

-- what an entry leaves of a state
abbrev pub entry_left : RecorderEntry → PrometheusState → PrometheusState
entry_left (Built _) x = x
entry_left (Register kind key _) x = register kind key x
entry_left (Describe name unit text) x = describe name unit text x
entry_left (Page g) x = page_left g x

-- what entries leave of a state, one after the other
abbrev pub entries_left : List RecorderEntry → PrometheusState → PrometheusState
entries_left [] x = x
entries_left (c ∷ cs) x = entries_left cs (entry_left c x)

-- the entry, with its answer, takes the state from x to y. Where no idle timeout is set a page removes nothing
abbrev pub Step : ExporterSettings → RecorderEntry → PrometheusState → PrometheusState → Type 0
Step settings (Built _) x y = ⊥
Step settings (Register kind key number) x y = (number ≡ number_given kind key x) × (y ≡ register kind key x)
Step settings (Describe name unit text) x y = y ≡ describe name unit text x
Step settings (Page g) x y = (settings.idle ≡ None → g ≡ none_gone) × (y ≡ page_left g x)

-- the entry is one of these
abbrev pub Called : RecorderEntry → List RecorderEntry → Type 0
Called c [] = ⊥
Called c (d ∷ ds) = (c ≡ d) ⊎ Called c ds
