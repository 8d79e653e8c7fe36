use Rattle.std.proofs.Common.{ap, ◌∙◌, length}
use Rattle.metrics_core.specs.Numbers.{in_64_bits}
use Rattle.histogram_series.specs.Series.{SampleSeries, recorded_samples}
use Rattle.histogram_series.proofs.Kept.{recorded-count}
use Rattle.histogram_series.proofs.series.HistogramSeries.updates.Goals as goal

pub returns : goal.returns
returns c = c.count.ensures ∙ recorded-count c.self.invariant.1 ∙ ap (λ (s : SampleSeries). in_64_bits (length (recorded_samples s))) c.self.view_is
