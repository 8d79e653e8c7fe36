use Rattle.std.proofs.Common.{◌≡◌, ◌⊎◌, sym, subst}
use Rattle.std.specs.Prelude.{OnOk}
use Rattle.metrics_core.specs.Keys.{KeyText}
use Rattle.metrics_core.specs.declared.kinds.MetricKind.TheVariants.{Histogram}
use Rattle.dsd_exporter.specs.Exporter.{AddsHistogram}
use Rattle.dsd_exporter.proofs.Registered.{register-there, id-there}
use Rattle.dsd_exporter.proofs.state.State.register_histogram.Goals as goal

pub returns-in-Some-clause-registered : goal.returns-in-Some-clause-registered
returns-in-Some-clause-registered c = rw (← c.self.view_is) (register-there Histogram c.args.key.now c.self.inside.series c.in-Some.id (sym c.in-Some.ensures))

pub returns-in-Some-clause-id : goal.returns-in-Some-clause-id
returns-in-Some-clause-id c =
    let series = c.self.inside.series in
    rw (← c.self.view_is) (id-there Histogram c.args.key.now series series.made series.histograms c.in-Some.id c.made-made.ensures.numbered.histograms.1 (sym c.in-Some.ensures) (sym c.in-Some.ensures))

pub returns-clause-cells : goal.returns-clause-cells
returns-clause-cells c =
    let old = c.args.self.now in
    let new = c.register_owned_histogram.new.self in
    subst (λ (key : KeyText). OnOk c.register_owned_histogram.result ((new ≡ old) ⊎ AddsHistogram key old new)) c.in_ok-clone.ensures.same c.register_owned_histogram.ensures.cells
