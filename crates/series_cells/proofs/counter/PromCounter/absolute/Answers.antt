use Rattle.std.proofs.Common.{refl, ap, ◌∙◌, arith}
use Rattle.series_cells.specs.Values.{counter_step, itself}
use Rattle.metrics_core.specs.declared.calls.SeriesCall.TheVariants.{Absolute}
use Rattle.series_cells.specs.declared.views.CellView.{CellView}
use Rattle.series_cells.proofs.CellSteps.{makes, counts}
use Rattle.series_cells.proofs.counter.PromCounter.absolute.Goals as goal

pub fetch_max-requires : goal.fetch_max-requires
fetch_max-requires c =
    let p = c.args.pass.now in
    (c.requires, omega (arith, c.args.self.now.two), makes counter_step 0 itself _ p.seat.id p.seat.me (Absolute c.args.value) _ p.live p.counted (λ n below. refl))

pub fetch_add-requires : goal.fetch_add-requires
fetch_add-requires c =
    let e = c.fetch_max.ensures in
    let q = c.fetch_max.new.seat in
    (e.0 ∙ c.requires, omega (arith, c.args.self.now.two), counts counter_step 0 itself _ q.id q.me (ap (λ (v : CellView). v.waits) e.2.2))
