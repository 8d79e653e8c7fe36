use Rattle.std.proofs.Common.{refl, ap, ◌∙◌, arith}
use Rattle.series_cells.specs.Values.{counter_step, itself}
use Rattle.metrics_core.specs.declared.calls.SeriesCall.TheVariants.{Increment}
use Rattle.series_cells.specs.declared.views.CellView.{CellView}
use Rattle.series_cells.proofs.CellSteps.{makes, counts}
use Rattle.series_cells.proofs.counter.PromCounter.increment.Goals as goal

pub fetch_add-requires : goal.fetch_add-requires
fetch_add-requires c =
    let p = c.args.pass.now in
    (c.requires, omega (arith, c.args.self.now.two), makes counter_step 0 itself _ p.seat.id p.seat.me (Increment c.args.value) _ p.live p.counted (λ n below. refl))

pub fetch_add-requires-2 : goal.fetch_add-requires-2
fetch_add-requires-2 c =
    let e = c.fetch_add.ensures in
    let q = c.fetch_add.new.seat in
    (e.0 ∙ c.requires, omega (arith, c.args.self.now.two), counts counter_step 0 itself _ q.id q.me (ap (λ (v : CellView). v.waits) e.2.2))
