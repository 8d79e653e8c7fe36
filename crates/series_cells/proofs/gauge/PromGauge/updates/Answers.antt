use Rattle.std.proofs.Common.{arith}
use Rattle.std.specs.Prelude.{pos}
use Rattle.series_cells.specs.Values.{gauge_step, signed}
use Rattle.series_cells.proofs.CellSteps.{reads_count}
use Rattle.series_cells.proofs.gauge.PromGauge.updates.Goals as goal

pub load-requires : goal.load-requires
load-requires c =
    let p = c.args.pass.now in
    (c.requires, omega (arith, c.args.self.now.two), reads_count gauge_step (pos 0) signed _ p.seat.id p.seat.me p.live)
