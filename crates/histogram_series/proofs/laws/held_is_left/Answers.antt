use Rattle.std.proofs.Common.{[]}
use Rattle.histogram_series.proofs.Held.{held-runs}
use Rattle.histogram_series.proofs.laws.held_is_left.Goals as goal

pub returns : goal.returns
returns g c = λ cs es run. held-runs [] cs es run
