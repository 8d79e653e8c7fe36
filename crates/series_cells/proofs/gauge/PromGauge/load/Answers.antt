use Rattle.std.proofs.Common.{arith}
use Rattle.std.specs.Prelude.{pos}
use Rattle.series_cells.specs.Values.{gauge_step, signed}
use Rattle.series_cells.proofs.CellSteps.{looks}
use Rattle.series_cells.proofs.gauge.PromGauge.load.Goals as goal

pub load-word-requires : goal.load-word-requires
load-word-requires c =
    let p = c.args.pass.now in
    (c.requires, omega (arith, c.args.self.now.two), looks gauge_step (pos 0) signed _ p.seat.id p.seat.me p.live)
