use Rattle.std.proofs.Common.{sym, ap, subst, ◌∙◌}
use Rattle.dsd_exporter.specs.declared.indices.Place.TheVariants as places
use Rattle.dsd_exporter.specs.LanePasses.{StandsAt, of_counter, of_gauge, of_histogram, things_of, frame_of}
use Rattle.dsd_exporter.specs.contracts.state.State.{the_view}
use Rattle.dsd_exporter.proofs.LaneThings.{HomeAt, counter_here, gauge_here, histogram_here, counter_settles, gauge_settles, histogram_settles}
use Rattle.dsd_exporter.proofs.GaugeKeys.{keys-with_cell_at}
use Rattle.dsd_exporter.proofs.state.State.settle_one.Goals as goal

pub settle-requires-clause-home : goal.settle-requires-clause-home
settle-requires-clause-home g c κs lives =
    let at = subst (λ e. StandsAt c.args.index e (places.Counter c.in-Counter.place)) (sym c.self.view_is) c.in-Counter.ensures in
    let home = subst (λ e. HomeAt e c.args.index) (sym c.self.view_is) c.requires.home in
    home (of_counter c.counter_at.result.now) (counter_here (the_view c.self.inside) c.args.index c.in-Counter.place c.counter_at.result.now at.0 c.counter_at.ensures.value)

pub returns-in-Counter-clause-same : goal.returns-in-Counter-clause-same
returns-in-Counter-clause-same g c =
    let at = subst (λ e. StandsAt c.args.index e (places.Counter c.in-Counter.place)) (sym c.self.view_is) c.in-Counter.ensures in
    rw (← c.self.view_is) (ap things_of (counter_settles (the_view c.self.inside) c.args.index c.in-Counter.place c.counter_at.result.now c.settle.new.self at.0 c.counter_at.ensures.value c.settle.ensures.same c.settle.ensures.settled).0)

pub returns-in-Counter-clause-settled : goal.returns-in-Counter-clause-settled
returns-in-Counter-clause-settled g c =
    let at = subst (λ e. StandsAt c.args.index e (places.Counter c.in-Counter.place)) (sym c.self.view_is) c.in-Counter.ensures in
    rw (← c.self.view_is) (counter_settles (the_view c.self.inside) c.args.index c.in-Counter.place c.counter_at.result.now c.settle.new.self at.0 c.counter_at.ensures.value c.settle.ensures.same c.settle.ensures.settled).1

pub returns-in-Counter-clause-frame : goal.returns-in-Counter-clause-frame
returns-in-Counter-clause-frame g c =
    let at = subst (λ e. StandsAt c.args.index e (places.Counter c.in-Counter.place)) (sym c.self.view_is) c.in-Counter.ensures in
    rw (← c.self.view_is) (ap frame_of (counter_settles (the_view c.self.inside) c.args.index c.in-Counter.place c.counter_at.result.now c.settle.new.self at.0 c.counter_at.ensures.value c.settle.ensures.same c.settle.ensures.settled).0)

pub settle-requires-in-Gauge-clause-home : goal.settle-requires-in-Gauge-clause-home
settle-requires-in-Gauge-clause-home g c κs lives =
    let at = subst (λ e. StandsAt c.args.index e (places.Gauge c.in-Gauge.place)) (sym c.self.view_is) c.in-Gauge.ensures in
    let home = subst (λ e. HomeAt e c.args.index) (sym c.self.view_is) c.requires.home in
    home (of_gauge c.gauge_at.result.now) (gauge_here (the_view c.self.inside) c.args.index c.in-Gauge.place c.gauge_at.result.now at.0 c.gauge_at.ensures.value)

pub returns-in-Gauge-clause-same : goal.returns-in-Gauge-clause-same
returns-in-Gauge-clause-same g c =
    let at = subst (λ e. StandsAt c.args.index e (places.Gauge c.in-Gauge.place)) (sym c.self.view_is) c.in-Gauge.ensures in
    rw (← c.self.view_is) (ap things_of (gauge_settles (the_view c.self.inside) c.args.index c.in-Gauge.place c.gauge_at.result.now c.settle-in-Gauge.new.self at.0 c.gauge_at.ensures.value c.settle-in-Gauge.ensures.same c.settle-in-Gauge.ensures.settled).0)

pub returns-in-Gauge-clause-settled : goal.returns-in-Gauge-clause-settled
returns-in-Gauge-clause-settled g c =
    let at = subst (λ e. StandsAt c.args.index e (places.Gauge c.in-Gauge.place)) (sym c.self.view_is) c.in-Gauge.ensures in
    rw (← c.self.view_is) (gauge_settles (the_view c.self.inside) c.args.index c.in-Gauge.place c.gauge_at.result.now c.settle-in-Gauge.new.self at.0 c.gauge_at.ensures.value c.settle-in-Gauge.ensures.same c.settle-in-Gauge.ensures.settled).1

pub returns-in-Gauge-clause-frame : goal.returns-in-Gauge-clause-frame
returns-in-Gauge-clause-frame g c =
    let at = subst (λ e. StandsAt c.args.index e (places.Gauge c.in-Gauge.place)) (sym c.self.view_is) c.in-Gauge.ensures in
    rw (← c.self.view_is) (ap frame_of (gauge_settles (the_view c.self.inside) c.args.index c.in-Gauge.place c.gauge_at.result.now c.settle-in-Gauge.new.self at.0 c.gauge_at.ensures.value c.settle-in-Gauge.ensures.same c.settle-in-Gauge.ensures.settled).0)

pub settle-requires-in-Histogram : goal.settle-requires-in-Histogram
settle-requires-in-Histogram g c =
    let at = subst (λ e. StandsAt c.args.index e (places.Histogram c.in-Histogram.place)) (sym c.self.view_is) c.in-Histogram.ensures in
    let home = subst (λ e. HomeAt e c.args.index) (sym c.self.view_is) c.requires.home in
    home (of_histogram c.histogram_at.result.now) (histogram_here (the_view c.self.inside) c.args.index c.in-Histogram.place c.histogram_at.result.now at c.histogram_at.ensures.value)

pub returns-in-Histogram-clause-same : goal.returns-in-Histogram-clause-same
returns-in-Histogram-clause-same g c =
    let at = subst (λ e. StandsAt c.args.index e (places.Histogram c.in-Histogram.place)) (sym c.self.view_is) c.in-Histogram.ensures in
    rw (← c.self.view_is) (ap things_of (histogram_settles (the_view c.self.inside) c.args.index c.in-Histogram.place c.histogram_at.result.now c.settle-in-Histogram.new.self at c.histogram_at.ensures.value c.settle-in-Histogram.ensures.same c.settle-in-Histogram.ensures.settled).0)

pub returns-in-Histogram-clause-settled : goal.returns-in-Histogram-clause-settled
returns-in-Histogram-clause-settled g c =
    let at = subst (λ e. StandsAt c.args.index e (places.Histogram c.in-Histogram.place)) (sym c.self.view_is) c.in-Histogram.ensures in
    rw (← c.self.view_is) (histogram_settles (the_view c.self.inside) c.args.index c.in-Histogram.place c.histogram_at.result.now c.settle-in-Histogram.new.self at c.histogram_at.ensures.value c.settle-in-Histogram.ensures.same c.settle-in-Histogram.ensures.settled).1

pub returns-in-Histogram-clause-frame : goal.returns-in-Histogram-clause-frame
returns-in-Histogram-clause-frame g c =
    let at = subst (λ e. StandsAt c.args.index e (places.Histogram c.in-Histogram.place)) (sym c.self.view_is) c.in-Histogram.ensures in
    rw (← c.self.view_is) (ap frame_of (histogram_settles (the_view c.self.inside) c.args.index c.in-Histogram.place c.histogram_at.result.now c.settle-in-Histogram.new.self at c.histogram_at.ensures.value c.settle-in-Histogram.ensures.same c.settle-in-Histogram.ensures.settled).0)

pub invariant_of-self-in-Gauge : goal.invariant_of-self-in-Gauge
invariant_of-self-in-Gauge g c = c.self.invariant ∙ sym (keys-with_cell_at c.self.inside.series.gauges c.in-Gauge.place c.settle-in-Gauge.new.self)
