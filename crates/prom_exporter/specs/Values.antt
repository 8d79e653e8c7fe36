-- Series as the exporter keeps them, and the state and the families that they make.
use Rattle.std.specs.Prelude.{ℕ, List, [], ◌∷◌, ◌++◌, map, filter, ℤ, Option, None, bytes_eq, if◌then◌else◌}
use Rattle.metrics_core.specs.Numbers.{whole}
use Rattle.metrics_core.specs.Keys.{KeyText, LabelText}
use Rattle.metrics_core.specs.Calls.{Call, counter_value, gauge_value}
use Rattle.metrics_registry.specs.Live.{LiveSeries, RegistryText}
use Rattle.prom_format.specs.Names.{sanitized_metric_name}
use Rattle.prom_format.specs.Lines.{shown_label_set}
use Rattle.prom_format.specs.Pages.{Row, Family}
use Rattle.prom_format.specs.declared.families.FamilyType.{FamilyType}
use Rattle.prom_exporter.specs.State.{Series, PrometheusState}
use Rattle.prom_exporter.specs.Families.{distinct}
use Rattle.prom_exporter.specs.Naming.{NamingText, help_in, shown_name}
use Rattle.prom_exporter.specs.Shared.{Shared, calls_seen}
use Rattle.prom_exporter.specs.Sampled.{Sampled, calls_known, calls_recorded}

-- ---- the state

-- a cell as a state sees it: all calls on it, and what the last page noted of it
pub record SeenCell : Type 0 where
  pub calls : List Call
  pub note : Option (ℕ × ℕ)

-- a live series
abbrev pub series_of : LiveSeries SeenCell → Series
series_of series = record { number = series.id.number; key = series.key; calls = series.cell.calls; note = series.cell.note }

-- the state of a registry, as if nothing were described and nothing limited
abbrev pub state_of : RegistryText SeenCell SeenCell SeenCell → PrometheusState
state_of registry = record {
  counters = map series_of registry.counters;
  gauges = map series_of registry.gauges;
  histograms = map series_of registry.histograms;
  made = registry.made;
  published = [];
  pending = [];
  limit = None;
  redirected = [];
}

-- the series of shared cells, each with the calls that the exporter has seen
abbrev pub seen_cell : {F : Type 0} → Shared F → SeenCell
seen_cell cell = record { calls = calls_seen cell; note = cell.note }

abbrev pub seen_series : {F : Type 0} → LiveSeries (Shared F) → LiveSeries SeenCell
seen_series series = record { id = series.id; key = series.key; cell = seen_cell series.cell }

-- histograms, each with these calls
abbrev pub sampled_series : (Sampled → List Call) → LiveSeries Sampled → LiveSeries SeenCell
sampled_series calls series = record { id = series.id; key = series.key; cell = record { calls = calls series.cell; note = series.cell.note } }

-- the registry, where these are the calls on histograms
abbrev pub seen_registry : {C G : Type 0} → (Sampled → List Call) → RegistryText (Shared C) (Shared G) Sampled → RegistryText SeenCell SeenCell SeenCell
seen_registry calls registry = record {
  counters = map seen_series registry.counters;
  gauges = map seen_series registry.gauges;
  histograms = map (sampled_series calls) registry.histograms;
  made = registry.made;
}

-- the sequential state: the calls of a series are those of its cell's history that the exporter has seen
abbrev pub state_seen : {C G : Type 0} → RegistryText (Shared C) (Shared G) Sampled → PrometheusState
state_seen registry = state_of (seen_registry calls_known registry)

-- the same as far as a page shows it: of a histogram the calls whose samples are recorded
abbrev pub state_recorded : {C G : Type 0} → RegistryText (Shared C) (Shared G) Sampled → PrometheusState
state_recorded registry = state_of (seen_registry calls_recorded registry)

-- what a page shows of a counter and of a gauge, in billionths
abbrev pub counter_shown : {F : Type 0} → Shared F → ℤ
counter_shown cell = whole (counter_value (calls_seen cell))

abbrev pub gauge_shown : {F : Type 0} → Shared F → ℤ
gauge_shown cell = gauge_value (calls_seen cell)

-- ---- the families

-- the members of a list that have a name
abbrev pub named : {X : Type 0} → (X → List ℕ) → List X → List ℕ → List X
named name_of xs name = filter (λ x. bytes_eq (name_of x) name) xs

-- a list in groups, one for each name: the names in the order of their first members, the members in theirs
abbrev pub grouped : {X : Type 0} → (X → List ℕ) → List X → List (List ℕ × List X)
grouped name_of xs = map (λ name. (name, named name_of xs name)) (distinct (map name_of xs))

-- the groups, with one more member last in the group of its name, or in a group of its own
abbrev pub with_member : {X : Type 0} → List (List ℕ × List X) → List ℕ → X → List (List ℕ × List X)
with_member [] n x = (n, x ∷ []) ∷ []
with_member (g ∷ gs) n x = if bytes_eq n g.0 then (g.0, g.1 ++ x ∷ []) ∷ gs else g ∷ with_member gs n x

-- a series as a member of a family: its key and its cell
abbrev pub member_of : {X : Type 0} → LiveSeries X → KeyText × X
member_of series = (series.key, series.cell)

abbrev pub metric_name : {X : Type 0} → KeyText × X → List ℕ
metric_name member = sanitized_metric_name member.0.name

-- the row of a series in a family of a name, where a page shows so much of its cell
abbrev pub value_row : {X : Type 0} → (X → ℤ) → List LabelText → List ℕ → KeyText × X → Row
value_row shown globals name member = record { name = name; labels = shown_label_set globals member.0.labels; value = shown member.1 }

module _ {X : Type 0} (naming : NamingText) (suffix : Option (List ℕ)) (type : FamilyType) (shown : X → ℤ) (globals : List LabelText) where
  -- the family of the series under a metric name
  abbrev pub value_family : List ℕ × List (KeyText × X) → Family
  value_family group = record {
    help = help_in naming group.0;
    name = shown_name naming suffix group.0;
    type = type;
    rows = map (value_row shown globals (shown_name naming suffix group.0)) group.1;
  }

  abbrev pub value_families : List (LiveSeries X) → List Family
  value_families live = map value_family (grouped metric_name (map member_of live))
