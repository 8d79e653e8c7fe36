use Rattle.exporter_lanes.proofs.Rounds.{over_each}
use Rattle.exporter_lanes.proofs.laws.a_round_over_both_is_one_over_each.Goals as goal

pub returns : goal.returns
returns c = λ lanes old new round. over_each lanes old new round
