use Rattle.std.proofs.Common.{ap, ◌∙◌, arith}
use Rattle.std.specs.Prelude.{pos}
use Rattle.series_cells.specs.Values.{gauge_step, signed}
use Rattle.series_cells.specs.Values.{billionths}
use Rattle.series_cells.proofs.GaugeSteps.{gauge_adds}
use Rattle.metrics_core.specs.declared.calls.SeriesCall.TheVariants.{Add}
use Rattle.series_cells.specs.declared.views.CellView.{CellView}
use Rattle.series_cells.proofs.CellSteps.{makes, counts}
use Rattle.series_cells.proofs.gauge.PromGauge.increment.Goals as goal

pub fetch_add-requires : goal.fetch_add-requires
fetch_add-requires c =
    let p = c.args.pass.now in
    (c.requires, omega (arith, c.args.self.now.two), makes gauge_step (pos 0) signed _ p.seat.id p.seat.me (Add (billionths c.cast_unsigned-word.result)) _ p.live p.counted (gauge_adds _ (omega (arith, c.cast_unsigned-word.ensures))))

pub fetch_add-requires-2 : goal.fetch_add-requires-2
fetch_add-requires-2 c =
    let e = c.fetch_add.ensures in
    let q = c.fetch_add.new.seat in
    (e.0 ∙ c.requires, omega (arith, c.args.self.now.two), counts gauge_step (pos 0) signed _ q.id q.me (ap (λ (v : CellView). v.waits) e.2.2))
