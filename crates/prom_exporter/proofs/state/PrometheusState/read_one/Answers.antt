use Rattle.std.proofs.Common.{sym, ap, subst}
use Rattle.prom_exporter.specs.declared.indices.Place.TheVariants as places
use Rattle.prom_exporter.specs.Sampled.{Sampled}
use Rattle.prom_exporter.specs.LanePasses.{StandsAt, of_histogram, things_of, frame_of}
use Rattle.prom_exporter.specs.contracts.state.PrometheusState.{the_view}
use Rattle.prom_exporter.proofs.LaneThings.{HomeAt, histogram_here, counter_reads, gauge_reads, histogram_settles}
use Rattle.prom_exporter.proofs.KeptCells.{counter_cell_kept, gauge_cell_kept, histogram_cell_kept}
use Rattle.prom_exporter.proofs.state.PrometheusState.read_one.Goals as goal

pub invariant_of-self : goal.invariant_of-self
invariant_of-self g c = counter_cell_kept _ _ c.self.inside.series _ _ _ c.self.invariant c.in-Counter.place c.read.new.self

pub returns-in-Counter-clause-same : goal.returns-in-Counter-clause-same
returns-in-Counter-clause-same g c =
    let at = subst (λ e. StandsAt c.args.index e (places.Counter c.in-Counter.place)) (sym c.self.view_is) c.in-Counter.ensures in
    let home = subst (λ e. HomeAt e c.args.index) (sym c.self.view_is) c.requires.home in
    rw (← c.self.view_is) (ap things_of (counter_reads (the_view c.self.inside) c.args.index c.in-Counter.place c.counter_at.result.now c.read.new.self at.0 c.counter_at.ensures.value home c.read.ensures).0)

pub returns-in-Counter-clause-settled : goal.returns-in-Counter-clause-settled
returns-in-Counter-clause-settled g c =
    let at = subst (λ e. StandsAt c.args.index e (places.Counter c.in-Counter.place)) (sym c.self.view_is) c.in-Counter.ensures in
    let home = subst (λ e. HomeAt e c.args.index) (sym c.self.view_is) c.requires.home in
    rw (← c.self.view_is) (counter_reads (the_view c.self.inside) c.args.index c.in-Counter.place c.counter_at.result.now c.read.new.self at.0 c.counter_at.ensures.value home c.read.ensures).1

pub returns-in-Counter-clause-frame : goal.returns-in-Counter-clause-frame
returns-in-Counter-clause-frame g c =
    let at = subst (λ e. StandsAt c.args.index e (places.Counter c.in-Counter.place)) (sym c.self.view_is) c.in-Counter.ensures in
    let home = subst (λ e. HomeAt e c.args.index) (sym c.self.view_is) c.requires.home in
    rw (← c.self.view_is) (ap frame_of (counter_reads (the_view c.self.inside) c.args.index c.in-Counter.place c.counter_at.result.now c.read.new.self at.0 c.counter_at.ensures.value home c.read.ensures).0)

pub invariant_of-self-in-Gauge : goal.invariant_of-self-in-Gauge
invariant_of-self-in-Gauge g c = gauge_cell_kept _ _ c.self.inside.series _ _ _ c.self.invariant c.in-Gauge.place c.read-in-Gauge.new.self

pub returns-in-Gauge-clause-same : goal.returns-in-Gauge-clause-same
returns-in-Gauge-clause-same g c =
    let at = subst (λ e. StandsAt c.args.index e (places.Gauge c.in-Gauge.place)) (sym c.self.view_is) c.in-Gauge.ensures in
    let home = subst (λ e. HomeAt e c.args.index) (sym c.self.view_is) c.requires.home in
    rw (← c.self.view_is) (ap things_of (gauge_reads (the_view c.self.inside) c.args.index c.in-Gauge.place c.gauge_at.result.now c.read-in-Gauge.new.self at.0 c.gauge_at.ensures.value home c.read-in-Gauge.ensures).0)

pub returns-in-Gauge-clause-settled : goal.returns-in-Gauge-clause-settled
returns-in-Gauge-clause-settled g c =
    let at = subst (λ e. StandsAt c.args.index e (places.Gauge c.in-Gauge.place)) (sym c.self.view_is) c.in-Gauge.ensures in
    let home = subst (λ e. HomeAt e c.args.index) (sym c.self.view_is) c.requires.home in
    rw (← c.self.view_is) (gauge_reads (the_view c.self.inside) c.args.index c.in-Gauge.place c.gauge_at.result.now c.read-in-Gauge.new.self at.0 c.gauge_at.ensures.value home c.read-in-Gauge.ensures).1

pub returns-in-Gauge-clause-frame : goal.returns-in-Gauge-clause-frame
returns-in-Gauge-clause-frame g c =
    let at = subst (λ e. StandsAt c.args.index e (places.Gauge c.in-Gauge.place)) (sym c.self.view_is) c.in-Gauge.ensures in
    let home = subst (λ e. HomeAt e c.args.index) (sym c.self.view_is) c.requires.home in
    rw (← c.self.view_is) (ap frame_of (gauge_reads (the_view c.self.inside) c.args.index c.in-Gauge.place c.gauge_at.result.now c.read-in-Gauge.new.self at.0 c.gauge_at.ensures.value home c.read-in-Gauge.ensures).0)

pub invariant_of-self-in-Histogram : goal.invariant_of-self-in-Histogram
invariant_of-self-in-Histogram g c = histogram_cell_kept _ _ c.self.inside.series _ _ _ c.self.invariant c.in-Histogram.place c.histogram_at.result.now c.settle.new.self c.histogram_at.ensures.value (ap (λ (x : Sampled). x.series.kind) c.settle.ensures.same)

pub settle-requires : goal.settle-requires
settle-requires g c =
    let at = subst (λ e. StandsAt c.args.index e (places.Histogram c.in-Histogram.place)) (sym c.self.view_is) c.in-Histogram.ensures in
    let home = subst (λ e. HomeAt e c.args.index) (sym c.self.view_is) c.requires.home in
    home (of_histogram c.histogram_at.result.now) (histogram_here (the_view c.self.inside) c.args.index c.in-Histogram.place c.histogram_at.result.now at c.histogram_at.ensures.value)

pub returns-in-Histogram-clause-same : goal.returns-in-Histogram-clause-same
returns-in-Histogram-clause-same g c =
    let at = subst (λ e. StandsAt c.args.index e (places.Histogram c.in-Histogram.place)) (sym c.self.view_is) c.in-Histogram.ensures in
    rw (← c.self.view_is) (ap things_of (histogram_settles (the_view c.self.inside) c.args.index c.in-Histogram.place c.histogram_at.result.now c.settle.new.self at c.histogram_at.ensures.value c.settle.ensures.same c.settle.ensures.settled).0)

pub returns-in-Histogram-clause-settled : goal.returns-in-Histogram-clause-settled
returns-in-Histogram-clause-settled g c =
    let at = subst (λ e. StandsAt c.args.index e (places.Histogram c.in-Histogram.place)) (sym c.self.view_is) c.in-Histogram.ensures in
    rw (← c.self.view_is) (histogram_settles (the_view c.self.inside) c.args.index c.in-Histogram.place c.histogram_at.result.now c.settle.new.self at c.histogram_at.ensures.value c.settle.ensures.same c.settle.ensures.settled).1

pub returns-in-Histogram-clause-frame : goal.returns-in-Histogram-clause-frame
returns-in-Histogram-clause-frame g c =
    let at = subst (λ e. StandsAt c.args.index e (places.Histogram c.in-Histogram.place)) (sym c.self.view_is) c.in-Histogram.ensures in
    rw (← c.self.view_is) (ap frame_of (histogram_settles (the_view c.self.inside) c.args.index c.in-Histogram.place c.histogram_at.result.now c.settle.new.self at c.histogram_at.ensures.value c.settle.ensures.same c.settle.ensures.settled).0)
