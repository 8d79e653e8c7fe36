use Rattle.series_cells.proofs.Passes.{gauge_shows}
use Rattle.series_cells.proofs.shared.PromGaugeSharedCell.read.Goals as goal

pub returns-clause-read : goal.returns-clause-read
returns-clause-read g c = gauge_shows _ c.load.result _ c.load.ensures.value
