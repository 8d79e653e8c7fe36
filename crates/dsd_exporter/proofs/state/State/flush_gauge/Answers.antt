use Rattle.std.proofs.Common.{◌≡◌, refl, sym, inr, subst, Option, Some, IfSome}
use Rattle.metrics_core.specs.Keys.{KeyText}
use Rattle.metrics_core.specs.Numbers.{dogstatsd_number}
use Rattle.flushed_cells.specs.declared.gauge_state.GaugeState.{GaugeState}
use Rattle.dsd_writer.specs.Results.{Written}
use Rattle.dsd_exporter.specs.Flushing.{ChangesAt, HasKeyAt, PassesGauge, WritesOne, gauge_line}
use Rattle.dsd_exporter.proofs.Gauges.{flushed_gauge}
use Rattle.dsd_exporter.proofs.state.State.flush_gauge.Goals as goal

pub returns-in-Some-clause-flushed : goal.returns-in-Some-clause-flushed
returns-in-Some-clause-flushed g c =
    let old = c.args.self.now in
    let live = old.series.gauges in
    let again = subst (λ (o : Option Written). IfSome o (λ written. (found : GaugeState) × (key : KeyText) × HasKeyAt c.args.place key live
    × ChangesAt c.args.place (λ s t. PassesGauge s found t) live live
    × WritesOne (gauge_line old.settings c.args.writer.now.global_tags c.args.moment key) (dogstatsd_number found.value.0) written c.args.writer.now c.write_again.new.writer)) c.in-Some.is c.in_ok-written.ensures.written in
    let found = again.0 in
    let passes = again.3 in
    flushed_gauge old.settings c.args.moment c.args.place live live c.args.writer.now c.args.writer.now c.args.telemetry.now found (found.value, 0) (λ j. (found.value, sym passes.3.1.updates j))
    (passes.0, passes.1, passes.2, inr passes.3, passes.4) (record { same_limit = refl; same_start = refl; same_tags = refl }) refl _ _
    c.in-Some.written old.settings refl (again.1, again.2, again.4) c.count_number.ensures
