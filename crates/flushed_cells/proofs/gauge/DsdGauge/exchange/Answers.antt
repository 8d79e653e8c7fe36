use Rattle.std.proofs.Common.{sym, subst, rules}
use Rattle.flushed_cells.specs.declared.gauge_state.GaugeState.{GaugeState}
use Rattle.flushed_cells.specs.Gauges.{GaugeStep, gauge_start, answered}
use Rattle.flushed_cells.proofs.Alike.{same_gauge, gauges_alike, gauges_unlike}
use Rattle.flushed_cells.proofs.Sitting.{exchanges_as}
use Rattle.flushed_cells.proofs.Turns.{gauge_turns}
use Rattle.crossbeam_utils.specs.Seq.{cell_view}
use Rattle.flushed_cells.proofs.gauge.DsdGauge.exchange.Goals as goal

pub compare_exchange_as-requires : goal.compare_exchange_as-requires
compare_exchange_as-requires g c = (
  search rules,
  (
    search rules,
    (
      c.requires.cell,
      λ x seats k at.
          exchanges_as GaugeStep gauge_start x c.args.old c.after.result (same_gauge x c.args.old) (gauges_alike x c.args.old) (gauges_unlike x c.args.old)
          seats c.args.seat.now.id (cell_view c.args.seat.now) (answered c.args.change c.args.old) g.N.AskedGauge.call g.N.AskedGauge.expected c.requires.asked.0 c.requires.asked.1
          c.requires.live (subst (λ (z : GaugeState). GaugeStep (answered c.args.change c.args.old) c.args.old z) (sym c.after.ensures) (gauge_turns c.args.change c.args.old)) k at,
    ),
  ),
)
