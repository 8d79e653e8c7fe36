use Rattle.std.proofs.Common.{refl}
use Rattle.std.specs.Prelude.{pos}
use Rattle.series_cells.specs.Values.{gauge_step, signed}
use Rattle.series_cells.proofs.CellSteps.{opens}
use Rattle.series_cells.proofs.gauge.PromGauge.new.Goals as goal

pub of_words-requires : goal.of_words-requires
of_words-requires c = opens gauge_step (pos 0) signed refl
