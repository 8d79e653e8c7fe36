use Rattle.prom_exporter.proofs.LaneRounds.{leaves_records}
use Rattle.prom_exporter.proofs.lane_laws.a_round_leaves_the_pushes_of_a_histogram.Goals as goal

pub returns : goal.returns
returns c = λ lanes old new round. leaves_records lanes old new round
