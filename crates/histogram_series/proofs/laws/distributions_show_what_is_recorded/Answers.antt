use Rattle.histogram_series.proofs.Shown.{shows_recorded}
use Rattle.histogram_series.proofs.laws.distributions_show_what_is_recorded.Goals as goal

pub returns : goal.returns
returns c = shows_recorded
