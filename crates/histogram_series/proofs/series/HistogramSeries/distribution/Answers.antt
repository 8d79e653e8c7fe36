use Rattle.std.proofs.Common.{subst}
use Rattle.distributions.specs.Recording.{StandsFor}
use Rattle.histogram_series.specs.Series.{SampleSeries, recorded_samples, AreInTurn}
use Rattle.histogram_series.proofs.Kept.{recorded-stands}
use Rattle.histogram_series.proofs.series.HistogramSeries.distribution.Goals as goal

pub returns-clause-stands : goal.returns-clause-stands
returns-clause-stands c =
    subst (λ (s : SampleSeries). AreInTurn s.kind (recorded_samples s) → StandsFor s.kind (recorded_samples s) c.self.inside.distribution) c.self.view_is (recorded-stands c.self.invariant.1)
