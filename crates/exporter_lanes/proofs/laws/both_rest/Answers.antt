use Rattle.exporter_lanes.proofs.Rests.{rest_together}
use Rattle.exporter_lanes.proofs.laws.both_rest.Goals as goal

pub returns : goal.returns
returns c = λ exporters. rest_together exporters
