use Rattle.std.proofs.Common.{refl, sym, ap, ◌∙◌}
use Rattle.std.proofs.lemmas.Result.{err_from_is_err_and}
use Rattle.std.specs.Arc.{arc_value}
use Rattle.metrics_registry.specs.Live.{with_cell}
use Rattle.prom_exporter.specs.contracts.state.PrometheusState.{the_view}
use Rattle.prom_exporter.proofs.States.{kept}
use Rattle.prom_exporter.proofs.Seen.{of_counters}
use Rattle.prom_exporter.proofs.KeptRows.{keys-with_cell, kept_same}
use Rattle.prom_exporter.proofs.state.PrometheusState.lend_counter.Goals as goal

pub returns-in_err-cell-clause-refused : goal.returns-in_err-cell-clause-refused
returns-in_err-cell-clause-refused c =
    let refusal = err_from_is_err_and c.from_residual.result c.from_residual.ensures.1 in
    let series = c.self.inside.series in
    let numbered = c.in-Some.ensures.numbered in
    rw refusal.1 (
    ap (λ es. record (the_view c.self.inside) { series = record series { counters = es } })
    (ap (λ cell. with_cell c.args.id series.counters cell) c.in_err-cell.ensures.refused
    ∙ kept c.args.id series.counters series.made c.in-Some.counter.now numbered.counters.0 (of_counters c.args.id c.in-Some.counter.now series.counters series.made numbered.counters.1 (sym c.in-Some.ensures.value)) (sym c.in-Some.ensures.value))
    ∙ c.self.view_is)

pub returns-clause-lent : goal.returns-clause-lent
returns-clause-lent c =
    rw (← c.self.view_is) (
      c.in-Some.counter.now,
      c.lend.new.self,
      sym c.in-Some.ensures.value,
      (record { id_is = refl; made = arc_value c.in_ok-cell.cell; cell = c.in_ok-cell.ensures.lent.0; handle = c.from_arc.ensures; pass = c.in_ok-cell.ensures.lent.1; knows = c.in_ok-cell.ensures.lent.2 }, c.in_ok-cell.ensures.out),
      refl,
    )

pub invariant_of-self-in_err-cell : goal.invariant_of-self-in_err-cell
invariant_of-self-in_err-cell c = kept_same _ _ c.self.inside.series _ _ _ _ c.self.invariant (keys-with_cell c.args.id c.self.inside.series.counters _) refl refl c.self.invariant.sampled

pub invariant_of-self-2 : goal.invariant_of-self-2
invariant_of-self-2 c = kept_same _ _ c.self.inside.series _ _ _ _ c.self.invariant (keys-with_cell c.args.id c.self.inside.series.counters _) refl refl c.self.invariant.sampled
