use Rattle.std.proofs.Common.{Some, refl, sym, ap, ◌∙◌}
use Rattle.std.proofs.lemmas.Result.{err_from_is_err_and}
use Rattle.metrics_registry.specs.Live.{with_cell}
use Rattle.prom_exporter.specs.contracts.state.PrometheusState.{the_view}
use Rattle.prom_exporter.proofs.States.{kept}
use Rattle.prom_exporter.proofs.Seen.{of_histograms}
use Rattle.prom_exporter.specs.Sampled.{Sampled}
use Rattle.prom_exporter.proofs.Upkeep.{kept-with_cell}
use Rattle.prom_exporter.proofs.state.PrometheusState.lend_histogram.Goals as goal

pub returns-in_err-queue-clause-refused : goal.returns-in_err-queue-clause-refused
returns-in_err-queue-clause-refused c =
    let refusal = err_from_is_err_and c.from_residual.result c.from_residual.ensures.1 in
    let series = c.self.inside.series in
    let numbered = c.in-Some.ensures.numbered in
    rw refusal.1 (
    ap (λ es. record (the_view c.self.inside) { series = record series { histograms = es } })
    (ap (λ cell. with_cell c.args.id series.histograms cell) c.in_err-queue.ensures.refused
    ∙ kept c.args.id series.histograms series.made c.in-Some.histogram.now numbered.histograms.0 (of_histograms c.args.id c.in-Some.histogram.now series.histograms series.made numbered.histograms.1 (sym c.in-Some.ensures.value)) (sym c.in-Some.ensures.value))
    ∙ c.self.view_is)

pub returns-clause-lent : goal.returns-clause-lent
returns-clause-lent c =
    rw (← c.self.view_is) (
      c.in-Some.histogram.now,
      c.lend.new.self,
      sym c.in-Some.ensures.value,
      (record { id_is = refl; handle = c.from_arc.ensures ∙ ap Some c.in_ok-queue.ensures.lent.0; pass = c.in_ok-queue.ensures.lent.1; knows = c.in_ok-queue.ensures.lent.2 }, c.in_ok-queue.ensures.out),
      refl,
    )

pub invariant_of-self-in_err-queue : goal.invariant_of-self-in_err-queue
invariant_of-self-in_err-queue c =
    kept-with_cell _ _ c.self.inside.series _ _ _ c.self.invariant c.args.id c.in-Some.histogram.now c.lend.new.self c.in-Some.ensures.numbered (sym c.in-Some.ensures.value)
    (ap (λ (s : Sampled). s.series.kind) c.in_err-queue.ensures.refused)

pub invariant_of-self-2 : goal.invariant_of-self-2
invariant_of-self-2 c =
    kept-with_cell _ _ c.self.inside.series _ _ _ c.self.invariant c.args.id c.in-Some.histogram.now c.lend.new.self c.in-Some.ensures.numbered (sym c.in-Some.ensures.value)
    (ap (λ (s : Sampled). s.series.kind) c.in_ok-queue.ensures.out)
