use Rattle.dsd_exporter.proofs.Resting.{flush_rests}
use Rattle.dsd_exporter.proofs.rest_laws.a_flush_leaves_rest.Goals as goal

pub returns : goal.returns
returns c = λ old new. flush_rests old new
