use Rattle.dsd_exporter.proofs.LaneRounds.{leaves_histograms}
use Rattle.dsd_exporter.proofs.lane_laws.a_round_leaves_the_state_of_histograms.Goals as goal

pub returns : goal.returns
returns c = λ lanes old new round. leaves_histograms lanes old new round
