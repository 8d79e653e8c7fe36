use Rattle.dsd_exporter.proofs.LaneIndices.{have_indices}
use Rattle.dsd_exporter.proofs.lane_laws.series_have_their_indices.Goals as goal

pub returns : goal.returns
returns c = λ exporter. have_indices exporter
