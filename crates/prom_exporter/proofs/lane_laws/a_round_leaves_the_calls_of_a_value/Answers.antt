use Rattle.prom_exporter.proofs.LaneRounds.{leaves_values}
use Rattle.prom_exporter.proofs.lane_laws.a_round_leaves_the_calls_of_a_value.Goals as goal

pub returns : goal.returns
returns c = λ lanes old new round. leaves_values lanes old new round
