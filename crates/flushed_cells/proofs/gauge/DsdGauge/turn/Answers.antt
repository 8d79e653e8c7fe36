use Rattle.std.proofs.Common.{◌∙◌, rules}
use Rattle.crossbeam_utils.specs.Seq.{cell_view}
use Rattle.flushed_cells.specs.Gauges.{GaugeStep, gauge_start}
use Rattle.flushed_cells.proofs.Sitting.{peeks}
use Rattle.flushed_cells.proofs.gauge.DsdGauge.turn.Goals as goal

pub load_as-found-requires : goal.load_as-found-requires
load_as-found-requires g c = (search rules, (search rules, (c.loop.invariant.cell ∙ c.requires.cell, λ x seats k at. peeks GaugeStep gauge_start x seats c.loop.seat.id (cell_view c.loop.seat) k at)))
