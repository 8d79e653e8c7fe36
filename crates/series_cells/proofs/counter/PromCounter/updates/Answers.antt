use Rattle.std.proofs.Common.{arith}
use Rattle.series_cells.specs.Values.{counter_step, itself}
use Rattle.series_cells.proofs.CellSteps.{reads_count}
use Rattle.series_cells.proofs.counter.PromCounter.updates.Goals as goal

pub load-requires : goal.load-requires
load-requires c =
    let p = c.args.pass.now in
    (c.requires, omega (arith, c.args.self.now.two), reads_count counter_step 0 itself _ p.seat.id p.seat.me p.live)
