use Rattle.dsd_exporter.proofs.Resting.{new_rests}
use Rattle.dsd_exporter.proofs.rest_laws.a_new_series_leaves_rest.Goals as goal

pub returns : goal.returns
returns c = λ key old new. new_rests key old new
