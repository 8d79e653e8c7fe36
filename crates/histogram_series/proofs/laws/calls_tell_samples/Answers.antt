use Rattle.histogram_series.proofs.Held.{calls_tell}
use Rattle.histogram_series.proofs.laws.calls_tell_samples.Goals as goal

pub returns : goal.returns
returns c = calls_tell
