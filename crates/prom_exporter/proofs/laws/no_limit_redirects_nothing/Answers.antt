use Rattle.prom_exporter.proofs.Redirected.{unlimited-registers, unlimited-numbers}
use Rattle.prom_exporter.proofs.laws.no_limit_redirects_nothing.Goals as goal

pub returns-clause-registers : goal.returns-clause-registers
returns-clause-registers c = unlimited-registers

pub returns-clause-numbers : goal.returns-clause-numbers
returns-clause-numbers c = unlimited-numbers
