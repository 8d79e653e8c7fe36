use Rattle.dsd_exporter.proofs.LaneIndices.{of_one_kind}
use Rattle.dsd_exporter.proofs.lane_laws.an_index_is_of_one_kind.Goals as goal

pub returns : goal.returns
returns c = λ exporter. of_one_kind exporter
