use Rattle.prom_exporter.proofs.Home.{given_back_seen}
use Rattle.prom_exporter.proofs.laws.given_back_is_seen.Goals as goal

pub returns : goal.returns
returns g c = given_back_seen
