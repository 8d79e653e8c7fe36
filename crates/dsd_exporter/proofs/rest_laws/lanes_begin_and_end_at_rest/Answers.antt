use Rattle.dsd_exporter.proofs.Resting.{rests_for_lanes}
use Rattle.dsd_exporter.proofs.rest_laws.lanes_begin_and_end_at_rest.Goals as goal

pub returns : goal.returns
returns c = λ exporter. rests_for_lanes exporter
