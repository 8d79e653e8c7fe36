use Rattle.dsd_exporter.proofs.LaneIndices.{one_index}
use Rattle.dsd_exporter.proofs.lane_laws.an_id_has_one_index.Goals as goal

pub returns : goal.returns
returns c = λ exporter numbered. one_index exporter numbered
