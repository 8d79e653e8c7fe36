use Rattle.histogram_series.proofs.Held.{pushes_behind}
use Rattle.histogram_series.proofs.laws.pushes_stand_behind.Goals as goal

pub returns : goal.returns
returns c = pushes_behind
