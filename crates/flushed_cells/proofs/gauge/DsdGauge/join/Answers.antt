use Rattle.std.proofs.Common.{rules, ap, ◌∙◌, sym}
use Rattle.legal_history.specs.declared.history.View.{View}
use Rattle.crossbeam_utils.specs.Seq.{cell_view}
use Rattle.flushed_cells.specs.declared.gauge_calls.GaugeCall.{GaugeCall}
use Rattle.flushed_cells.specs.Gauges.{GaugeStep, gauge_start}
use Rattle.flushed_cells.specs.Passes.{view_of}
use Rattle.flushed_cells.proofs.Sitting.{moves, merges_seated}
use Rattle.flushed_cells.proofs.gauge.DsdGauge.join.Goals as goal

pub split_pass-fresh-requires : goal.split_pass-fresh-requires
split_pass-fresh-requires c = (
  search rules,
  (search rules, (c.requires.passes.1, λ x seats k at. moves GaugeStep gauge_start x seats c.args.child.seat.id (view_of c.args.child) c.args.child.live k at)),
)

pub join_pass-requires : goal.join_pass-requires
join_pass-requires c =
    let given = c.split_pass-fresh.ensures.given in (
      search rules,
      (
        search rules,
        (
          (c.requires.passes.0, given.0 ∙ (c.requires.passes.1 ∙ sym c.requires.passes.0), given.2),
          λ x seats k at apart there.
              merges_seated GaugeStep gauge_start x seats c.args.pass.now.seat.id (view_of c.args.pass.now) c.split_pass-fresh.result.id (cell_view c.split_pass-fresh.result)
              c.args.pass.now.live c.requires.root (ap (λ (v : View GaugeCall). v.live) given.1 ∙ c.args.child.live) k at apart there,
        ),
      ),
    )
