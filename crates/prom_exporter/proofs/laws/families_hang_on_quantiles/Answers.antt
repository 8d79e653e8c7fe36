use Rattle.prom_exporter.proofs.TimelyPages.{same_quantiles}
use Rattle.prom_exporter.proofs.laws.families_hang_on_quantiles.Goals as goal

pub returns : goal.returns
returns c = same_quantiles
