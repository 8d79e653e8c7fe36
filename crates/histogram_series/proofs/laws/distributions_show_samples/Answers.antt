use Rattle.histogram_series.proofs.Shown.{shows}
use Rattle.histogram_series.proofs.laws.distributions_show_samples.Goals as goal

pub returns : goal.returns
returns c = shows
