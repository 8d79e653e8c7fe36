use Rattle.std.proofs.Common.{rules}
use Rattle.flushed_cells.specs.declared.gauge_calls.GaugeCall.TheVariants.{Flush}
use Rattle.flushed_cells.specs.Gauges.{GaugeStep, gauge_start, is_still}
use Rattle.flushed_cells.specs.Passes.{view_of}
use Rattle.flushed_cells.proofs.Sitting.{looks}
use Rattle.flushed_cells.proofs.Turns.{still_gauge_flushes}
use Rattle.flushed_cells.proofs.gauge.DsdGauge.flush.Goals as goal

pub load_as-seen-requires : goal.load_as-seen-requires
load_as-seen-requires g c = (
  search rules,
  (search rules, (c.requires, λ x seats k at. looks GaugeStep gauge_start x (is_still x) seats c.args.pass.now.seat.id (view_of c.args.pass.now) (Flush x.value 0) c.args.pass.now.live (still_gauge_flushes x) k at)),
)
