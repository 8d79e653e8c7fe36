use Rattle.series_cells.proofs.Passes.{gauge_shows}
use Rattle.series_cells.proofs.shared.PromGaugeValueCell.value.Goals as goal

pub returns-clause-value : goal.returns-clause-value
returns-clause-value c = gauge_shows _ c.load.result _ c.load.ensures.value
