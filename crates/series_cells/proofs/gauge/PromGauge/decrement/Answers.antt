use Rattle.std.proofs.Common.{ap, ◌∙◌, arith}
use Rattle.std.specs.Prelude.{pos}
use Rattle.series_cells.specs.Values.{gauge_step, signed}
use Rattle.series_cells.specs.Values.{billionths}
use Rattle.series_cells.proofs.GaugeSteps.{gauge_subtracts}
use Rattle.metrics_core.specs.declared.calls.SeriesCall.TheVariants.{Subtract}
use Rattle.series_cells.specs.declared.views.CellView.{CellView}
use Rattle.series_cells.proofs.CellSteps.{makes, counts}
use Rattle.series_cells.proofs.gauge.PromGauge.decrement.Goals as goal

pub fetch_sub-requires : goal.fetch_sub-requires
fetch_sub-requires c =
    let p = c.args.pass.now in
    (c.requires, omega (arith, c.args.self.now.two), makes gauge_step (pos 0) signed _ p.seat.id p.seat.me (Subtract (billionths c.cast_unsigned-word.result)) _ p.live p.counted (gauge_subtracts _ (omega (arith, c.cast_unsigned-word.ensures))))

pub fetch_add-requires : goal.fetch_add-requires
fetch_add-requires c =
    let e = c.fetch_sub.ensures in
    let q = c.fetch_sub.new.seat in
    (e.0 ∙ c.requires, omega (arith, c.args.self.now.two), counts gauge_step (pos 0) signed _ q.id q.me (ap (λ (v : CellView). v.waits) e.2.2))
