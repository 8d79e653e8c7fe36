use Rattle.cell_lanes.specs.Things.{root_of}
use Rattle.series_cells.specs.Series.{as_counter, counted}
use Rattle.cell_tests.proofs.FinishedRounds.{played}
use Rattle.cell_tests.proofs.laws.a_finished_round_is_counted.Goals as goal

pub returns : goal.returns
returns c = played as_counter root_of counted
