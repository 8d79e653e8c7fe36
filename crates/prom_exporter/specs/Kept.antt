-- That what the exporter keeps for its rows is what its series want, and what it keeps of its settings.
use Rattle.std.specs.Prelude.{◌≡◌, ℕ, List, take, length, All}
use Rattle.metrics_core.specs.Keys.{LabelText}
use Rattle.metrics_registry.specs.Live.{LiveSeries, RegistryText}
use Rattle.distributions.specs.Kinds.{DistributionRules, kind_for}
use Rattle.prom_exporter.specs.Families.{ExporterSettings, distribution_of}
use Rattle.prom_format.specs.Names.{sanitized_metric_name}
use Rattle.prom_exporter.specs.Rows.{RowsText, rows_of, keys_of}
use Rattle.prom_exporter.specs.Sampled.{Sampled}

-- what is kept for the rows of some series is what the first of them want: how many these are the kept label sets tell. A page keeps the rest
abbrev pub KeepsFirst : {X : Type 0} → List LabelText → List (LiveSeries X) → RowsText → Type 0
KeepsFirst globals live rows = rows ≡ rows_of globals (take (length rows.label_sets) (keys_of live))

-- distributions are of the kinds that follow from the settings
abbrev pub FitsSettings : ExporterSettings → DistributionRules → Type 0
FitsSettings settings distributions = (name : List ℕ) → kind_for distributions name ≡ distribution_of settings name

-- each histogram is of the kind that follows from its name
abbrev pub HaveKinds : ExporterSettings → List (LiveSeries Sampled) → Type 0
HaveKinds settings histograms = All (λ series. series.cell.series.kind ≡ distribution_of settings (sanitized_metric_name series.key.name)) histograms

pub record IsKept {C G : Type 0} (settings : ExporterSettings) (distributions : DistributionRules) (series : RegistryText C G Sampled) (counter_rows gauge_rows histogram_rows : RowsText) : Type 0 where
  pub counters : KeepsFirst settings.globals series.counters counter_rows
  pub gauges : KeepsFirst settings.globals series.gauges gauge_rows
  pub histograms : KeepsFirst settings.globals series.histograms histogram_rows
  pub kinds : FitsSettings settings distributions
  pub sampled : HaveKinds settings series.histograms
