use Rattle.std.proofs.Common.{refl, sym, ap, ◌∙◌}
use Rattle.std.proofs.lemmas.Result.{err_from_is_err_and}
use Rattle.std.specs.Arc.{arc_value}
use Rattle.metrics_registry.specs.Live.{with_cell}
use Rattle.prom_exporter.specs.contracts.state.PrometheusState.{the_view}
use Rattle.prom_exporter.proofs.States.{kept}
use Rattle.prom_exporter.proofs.Seen.{of_gauges}
use Rattle.prom_exporter.proofs.KeptRows.{keys-with_cell, kept_same}
use Rattle.prom_exporter.proofs.state.PrometheusState.lend_gauge.Goals as goal

pub returns-in_err-cell-clause-refused : goal.returns-in_err-cell-clause-refused
returns-in_err-cell-clause-refused c =
    let refusal = err_from_is_err_and c.from_residual.result c.from_residual.ensures.1 in
    let series = c.self.inside.series in
    let numbered = c.in-Some.ensures.numbered in
    rw refusal.1 (
    ap (λ es. record (the_view c.self.inside) { series = record series { gauges = es } })
    (ap (λ cell. with_cell c.args.id series.gauges cell) c.in_err-cell.ensures.refused
    ∙ kept c.args.id series.gauges series.made c.in-Some.gauge.now numbered.gauges.0 (of_gauges c.args.id c.in-Some.gauge.now series.gauges series.made numbered.gauges.1 (sym c.in-Some.ensures.value)) (sym c.in-Some.ensures.value))
    ∙ c.self.view_is)

pub returns-clause-lent : goal.returns-clause-lent
returns-clause-lent c =
    rw (← c.self.view_is) (
      c.in-Some.gauge.now,
      c.lend.new.self,
      sym c.in-Some.ensures.value,
      (record { id_is = refl; made = arc_value c.in_ok-cell.cell; cell = c.in_ok-cell.ensures.lent.0; handle = c.from_arc.ensures; pass = c.in_ok-cell.ensures.lent.1; knows = c.in_ok-cell.ensures.lent.2 }, c.in_ok-cell.ensures.out),
      refl,
    )

pub invariant_of-self-in_err-cell : goal.invariant_of-self-in_err-cell
invariant_of-self-in_err-cell c = kept_same _ _ c.self.inside.series _ _ _ _ c.self.invariant refl (keys-with_cell c.args.id c.self.inside.series.gauges _) refl c.self.invariant.sampled

pub invariant_of-self-2 : goal.invariant_of-self-2
invariant_of-self-2 c = kept_same _ _ c.self.inside.series _ _ _ _ c.self.invariant refl (keys-with_cell c.args.id c.self.inside.series.gauges _) refl c.self.invariant.sampled
