use Rattle.series_cells.proofs.Played.{looked_made}
use Rattle.series_cells.proofs.gauge.PromGauge.look.Goals as goal

pub returns-clause-none : goal.returns-clause-none
returns-clause-none c = let reads = c.load-value.ensures.value in looked_made _ _ reads.0 reads.1 reads.3
