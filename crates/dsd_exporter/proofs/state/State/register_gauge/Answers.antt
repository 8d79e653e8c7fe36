use Rattle.std.proofs.Common.{◌≡◌, ◌⊎◌, sym, subst}
use Rattle.std.specs.Prelude.{OnOk}
use Rattle.metrics_core.specs.Keys.{KeyText}
use Rattle.metrics_core.specs.declared.kinds.MetricKind.TheVariants.{Gauge}
use Rattle.dsd_exporter.specs.Exporter.{AddsGauge}
use Rattle.dsd_exporter.proofs.Registered.{register-there, id-there}
use Rattle.dsd_exporter.proofs.state.State.register_gauge.Goals as goal

pub returns-in-Some-clause-registered : goal.returns-in-Some-clause-registered
returns-in-Some-clause-registered c = rw (← c.self.view_is) (register-there Gauge c.args.key.now c.self.inside.series c.in-Some.id (sym c.in-Some.ensures))

pub returns-in-Some-clause-id : goal.returns-in-Some-clause-id
returns-in-Some-clause-id c =
    let series = c.self.inside.series in
    rw (← c.self.view_is) (id-there Gauge c.args.key.now series series.made series.gauges c.in-Some.id c.made-made.ensures.numbered.gauges.1 (sym c.in-Some.ensures) (sym c.in-Some.ensures))

pub returns-clause-cells : goal.returns-clause-cells
returns-clause-cells c =
    let old = c.args.self.now in
    let new = c.register_owned_gauge.new.self in
    subst (λ (key : KeyText). OnOk c.register_owned_gauge.result ((new ≡ old) ⊎ AddsGauge key old new)) c.in_ok-clone.ensures.same c.register_owned_gauge.ensures.cells
