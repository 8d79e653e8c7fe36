use Rattle.std.proofs.Common.{refl, sym, ap, ◌∙◌}
use Rattle.std.proofs.lemmas.Result.{err_from_is_err_and}
use Rattle.metrics_core.specs.declared.kinds.MetricKind.TheVariants.{Gauge}
use Rattle.metrics_registry.specs.Live.{with_cell}
use Rattle.dsd_exporter.specs.Exporter.{settings_of}
use Rattle.dsd_exporter.proofs.PutBack.{put_back}
use Rattle.dsd_exporter.proofs.GaugeKeys.{keys-with_cell}
use Rattle.dsd_exporter.proofs.state.State.lend_gauge.Goals as goal

pub returns-in_err-handle-clause-refused : goal.returns-in_err-handle-clause-refused
returns-in_err-handle-clause-refused c =
    let refusal = err_from_is_err_and c.from_residual.result c.from_residual.ensures.1 in
    let series = c.self.inside.series in
    rw refusal.1 (
    ap (λ es. record { settings = settings_of c.self.inside.configuration; series = record series { gauges = es } })
    (ap (λ cell. with_cell c.args.id series.gauges cell) c.in_err-handle.ensures.refused
    ∙ put_back c.args.id Gauge series.gauges series.made c.in-Some.gauge.now c.in-Some.ensures.numbered.gauges (sym c.in-Some.ensures.value))
    ∙ c.self.view_is)

pub returns-clause-lent : goal.returns-clause-lent
returns-clause-lent c =
    rw (← c.self.view_is) (
      c.in-Some.gauge.now,
      c.lend_pass.new.self,
      sym c.in-Some.ensures.value,
      (record { id_is = refl; cell = c.in_ok-handle.ensures.lent.0; pass = c.in_ok-handle.ensures.lent.1; knows = c.in_ok-handle.ensures.lent.2 }, c.in_ok-handle.ensures.lent.3),
      refl,
    )

pub invariant_of-self-in_err-handle : goal.invariant_of-self-in_err-handle
invariant_of-self-in_err-handle c = c.self.invariant ∙ sym (keys-with_cell c.args.id c.self.inside.series.gauges _)

pub invariant_of-self-2 : goal.invariant_of-self-2
invariant_of-self-2 c = c.self.invariant ∙ sym (keys-with_cell c.args.id c.self.inside.series.gauges _)
