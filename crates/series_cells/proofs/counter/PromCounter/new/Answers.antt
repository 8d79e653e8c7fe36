use Rattle.std.proofs.Common.{refl}
use Rattle.series_cells.specs.Values.{counter_step, itself}
use Rattle.series_cells.proofs.CellSteps.{opens}
use Rattle.series_cells.proofs.counter.PromCounter.new.Goals as goal

pub of_words-requires : goal.of_words-requires
of_words-requires c = opens counter_step 0 itself refl
