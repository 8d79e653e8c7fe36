-- Which series are summaries, and when these are timely.
use Rattle.std.specs.Prelude.{◌≡◌, ℕ, All}
use Rattle.metrics_core.specs.Keys.{KeyText}
use Rattle.prom_format.specs.Names.{sanitized_metric_name}
use Rattle.distributions.specs.Kinds.{Summary, SummaryText}
use Rattle.prom_exporter.specs.State.{Series}
use Rattle.prom_exporter.specs.Families.{ExporterSettings, distribution_of}
use Rattle.prom_exporter.specs.Sampled.{IsTimely}
use Rattle.prom_exporter.specs.Exporter.{Exporter}

-- the histograms of a key are summaries, by its metric name; so is a series
abbrev pub IsNamedSummary : ExporterSettings → KeyText → Type 0
IsNamedSummary settings key = (built : SummaryText) × (distribution_of settings (sanitized_metric_name key.name) ≡ Summary built)

abbrev pub IsSummary : ExporterSettings → Series → Type 0
IsSummary settings series = IsNamedSummary settings series.key

-- of each summary the moments of the samples never fall, and none is after this moment
abbrev pub AreSummariesTimely : ℕ → Exporter → Type 0
AreSummariesTimely moment exporter =
    All (λ series. IsNamedSummary exporter.settings series.key → IsTimely moment series.cell) exporter.series.histograms
