use Rattle.prom_exporter.proofs.Home.{look_begins}
use Rattle.prom_exporter.proofs.laws.looking_forgets_nothing.Goals as goal

pub returns : goal.returns
returns g c = look_begins
