use Rattle.dsd_exporter.proofs.Resting.{begins_at_rest}
use Rattle.dsd_exporter.proofs.rest_laws.an_exporter_begins_at_rest.Goals as goal

pub returns : goal.returns
returns c = λ exporter. begins_at_rest exporter
