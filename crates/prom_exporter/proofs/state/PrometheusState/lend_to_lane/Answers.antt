use Rattle.std.proofs.Common.{sym, ap, subst}
use Rattle.std.proofs.lemmas.Result.{err_from_is_err_and}
use Rattle.prom_exporter.specs.declared.indices.Place.TheVariants as places
use Rattle.prom_exporter.specs.Sampled.{Sampled}
use Rattle.prom_exporter.specs.LanePasses.{StandsAt, things_of, frame_of}
use Rattle.prom_exporter.specs.contracts.state.PrometheusState.{the_view}
use Rattle.prom_exporter.proofs.LaneThings.{counter_kept, gauge_kept, histogram_kept, counter_lends, gauge_lends, histogram_lends}
use Rattle.prom_exporter.proofs.KeptCells.{counter_cell_kept, gauge_cell_kept, histogram_cell_kept}
use Rattle.prom_exporter.proofs.state.PrometheusState.lend_to_lane.Goals as goal

pub invariant_of-self : goal.invariant_of-self
invariant_of-self c = counter_cell_kept _ _ c.self.inside.series _ _ _ c.self.invariant c.in-Counter.place c.lend_to_lane.new.self

pub invariant_of-self-in-Counter : goal.invariant_of-self-in-Counter
invariant_of-self-in-Counter c = counter_cell_kept _ _ c.self.inside.series _ _ _ c.self.invariant c.in-Counter.place c.lend_to_lane.new.self

pub returns-in_err-counter-in-Counter-clause-refused : goal.returns-in_err-counter-in-Counter-clause-refused
returns-in_err-counter-in-Counter-clause-refused c =
    let refusal = err_from_is_err_and c.from_residual.result c.from_residual.ensures.1 in
    rw (refusal.1, ← c.self.view_is) (ap things_of (counter_kept (the_view c.self.inside) c.in-Counter.place c.counter_at.result.now c.lend_to_lane.new.self c.counter_at.ensures.value c.in_err-counter-in-Counter.ensures.refused))

pub returns-in_err-counter-in-Counter-clause-frame : goal.returns-in_err-counter-in-Counter-clause-frame
returns-in_err-counter-in-Counter-clause-frame c = rw (← c.self.view_is) (ap frame_of (counter_kept (the_view c.self.inside) c.in-Counter.place c.counter_at.result.now c.lend_to_lane.new.self c.counter_at.ensures.value c.in_err-counter-in-Counter.ensures.refused))

pub returns-in_ok-counter-in-Counter-clause-lent : goal.returns-in_ok-counter-in-Counter-clause-lent
returns-in_ok-counter-in-Counter-clause-lent c =
    let at = subst (λ e. StandsAt c.args.index e (places.Counter c.in-Counter.place)) (sym c.self.view_is) c.in-Counter.ensures in
    rw (← c.self.view_is) (counter_lends (the_view c.self.inside) c.args.index c.in-Counter.place c.counter_at.result.now c.lend_to_lane.new.self c.in_ok-counter-in-Counter.counter at c.counter_at.ensures.value c.in_ok-counter-in-Counter.ensures.lent c.in_ok-counter-in-Counter.ensures.out).0

pub returns-in_ok-counter-in-Counter-clause-frame : goal.returns-in_ok-counter-in-Counter-clause-frame
returns-in_ok-counter-in-Counter-clause-frame c =
    let at = subst (λ e. StandsAt c.args.index e (places.Counter c.in-Counter.place)) (sym c.self.view_is) c.in-Counter.ensures in
    rw (← c.self.view_is) (counter_lends (the_view c.self.inside) c.args.index c.in-Counter.place c.counter_at.result.now c.lend_to_lane.new.self c.in_ok-counter-in-Counter.counter at c.counter_at.ensures.value c.in_ok-counter-in-Counter.ensures.lent c.in_ok-counter-in-Counter.ensures.out).1

pub invariant_of-self-in_err-gauge-in-Gauge : goal.invariant_of-self-in_err-gauge-in-Gauge
invariant_of-self-in_err-gauge-in-Gauge c = gauge_cell_kept _ _ c.self.inside.series _ _ _ c.self.invariant c.in-Gauge.place c.lend_to_lane-in-Gauge.new.self

pub invariant_of-self-in-Gauge : goal.invariant_of-self-in-Gauge
invariant_of-self-in-Gauge c = gauge_cell_kept _ _ c.self.inside.series _ _ _ c.self.invariant c.in-Gauge.place c.lend_to_lane-in-Gauge.new.self

pub returns-in_err-gauge-in-Gauge-clause-refused : goal.returns-in_err-gauge-in-Gauge-clause-refused
returns-in_err-gauge-in-Gauge-clause-refused c =
    let refusal = err_from_is_err_and c.from_residual-in_err-gauge-in-Gauge.result c.from_residual-in_err-gauge-in-Gauge.ensures.1 in
    rw (refusal.1, ← c.self.view_is) (ap things_of (gauge_kept (the_view c.self.inside) c.in-Gauge.place c.gauge_at.result.now c.lend_to_lane-in-Gauge.new.self c.gauge_at.ensures.value c.in_err-gauge-in-Gauge.ensures.refused))

pub returns-in_err-gauge-in-Gauge-clause-frame : goal.returns-in_err-gauge-in-Gauge-clause-frame
returns-in_err-gauge-in-Gauge-clause-frame c = rw (← c.self.view_is) (ap frame_of (gauge_kept (the_view c.self.inside) c.in-Gauge.place c.gauge_at.result.now c.lend_to_lane-in-Gauge.new.self c.gauge_at.ensures.value c.in_err-gauge-in-Gauge.ensures.refused))

pub returns-in_ok-gauge-in-Gauge-clause-lent : goal.returns-in_ok-gauge-in-Gauge-clause-lent
returns-in_ok-gauge-in-Gauge-clause-lent c =
    let at = subst (λ e. StandsAt c.args.index e (places.Gauge c.in-Gauge.place)) (sym c.self.view_is) c.in-Gauge.ensures in
    rw (← c.self.view_is) (gauge_lends (the_view c.self.inside) c.args.index c.in-Gauge.place c.gauge_at.result.now c.lend_to_lane-in-Gauge.new.self c.in_ok-gauge-in-Gauge.gauge at c.gauge_at.ensures.value c.in_ok-gauge-in-Gauge.ensures.lent c.in_ok-gauge-in-Gauge.ensures.out).0

pub returns-in_ok-gauge-in-Gauge-clause-frame : goal.returns-in_ok-gauge-in-Gauge-clause-frame
returns-in_ok-gauge-in-Gauge-clause-frame c =
    let at = subst (λ e. StandsAt c.args.index e (places.Gauge c.in-Gauge.place)) (sym c.self.view_is) c.in-Gauge.ensures in
    rw (← c.self.view_is) (gauge_lends (the_view c.self.inside) c.args.index c.in-Gauge.place c.gauge_at.result.now c.lend_to_lane-in-Gauge.new.self c.in_ok-gauge-in-Gauge.gauge at c.gauge_at.ensures.value c.in_ok-gauge-in-Gauge.ensures.lent c.in_ok-gauge-in-Gauge.ensures.out).1

pub invariant_of-self-in_err-histogram-in-Histogram : goal.invariant_of-self-in_err-histogram-in-Histogram
invariant_of-self-in_err-histogram-in-Histogram c = histogram_cell_kept _ _ c.self.inside.series _ _ _ c.self.invariant c.in-Histogram.place c.histogram_at.result.now c.lend_to_lane-in-Histogram.new.self c.histogram_at.ensures.value (ap (λ (x : Sampled). x.series.kind) c.in_err-histogram-in-Histogram.ensures.refused)

pub invariant_of-self-in-Histogram : goal.invariant_of-self-in-Histogram
invariant_of-self-in-Histogram c = histogram_cell_kept _ _ c.self.inside.series _ _ _ c.self.invariant c.in-Histogram.place c.histogram_at.result.now c.lend_to_lane-in-Histogram.new.self c.histogram_at.ensures.value (ap (λ (x : Sampled). x.series.kind) c.in_ok-histogram-in-Histogram.ensures.out)

pub returns-in_err-histogram-in-Histogram-clause-refused : goal.returns-in_err-histogram-in-Histogram-clause-refused
returns-in_err-histogram-in-Histogram-clause-refused c =
    let refusal = err_from_is_err_and c.from_residual-in_err-histogram-in-Histogram.result c.from_residual-in_err-histogram-in-Histogram.ensures.1 in
    rw (refusal.1, ← c.self.view_is) (ap things_of (histogram_kept (the_view c.self.inside) c.in-Histogram.place c.histogram_at.result.now c.lend_to_lane-in-Histogram.new.self c.histogram_at.ensures.value c.in_err-histogram-in-Histogram.ensures.refused))

pub returns-in_err-histogram-in-Histogram-clause-frame : goal.returns-in_err-histogram-in-Histogram-clause-frame
returns-in_err-histogram-in-Histogram-clause-frame c = rw (← c.self.view_is) (ap frame_of (histogram_kept (the_view c.self.inside) c.in-Histogram.place c.histogram_at.result.now c.lend_to_lane-in-Histogram.new.self c.histogram_at.ensures.value c.in_err-histogram-in-Histogram.ensures.refused))

pub returns-in_ok-histogram-in-Histogram-clause-lent : goal.returns-in_ok-histogram-in-Histogram-clause-lent
returns-in_ok-histogram-in-Histogram-clause-lent c =
    let at = subst (λ e. StandsAt c.args.index e (places.Histogram c.in-Histogram.place)) (sym c.self.view_is) c.in-Histogram.ensures in
    rw (← c.self.view_is) (histogram_lends (the_view c.self.inside) c.args.index c.in-Histogram.place c.histogram_at.result.now c.lend_to_lane-in-Histogram.new.self c.in_ok-histogram-in-Histogram.histogram at c.histogram_at.ensures.value c.in_ok-histogram-in-Histogram.ensures.lent c.in_ok-histogram-in-Histogram.ensures.out).0

pub returns-in_ok-histogram-in-Histogram-clause-frame : goal.returns-in_ok-histogram-in-Histogram-clause-frame
returns-in_ok-histogram-in-Histogram-clause-frame c =
    let at = subst (λ e. StandsAt c.args.index e (places.Histogram c.in-Histogram.place)) (sym c.self.view_is) c.in-Histogram.ensures in
    rw (← c.self.view_is) (histogram_lends (the_view c.self.inside) c.args.index c.in-Histogram.place c.histogram_at.result.now c.lend_to_lane-in-Histogram.new.self c.in_ok-histogram-in-Histogram.histogram at c.histogram_at.ensures.value c.in_ok-histogram-in-Histogram.ensures.lent c.in_ok-histogram-in-Histogram.ensures.out).1
