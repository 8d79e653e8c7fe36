use Rattle.dsd_exporter.proofs.LaneRounds.{leaves_counters}
use Rattle.dsd_exporter.proofs.lane_laws.a_round_leaves_the_state_of_counters.Goals as goal

pub returns : goal.returns
returns c = λ lanes old new round. leaves_counters lanes old new round
