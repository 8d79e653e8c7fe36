use Rattle.std.proofs.Common.{◌-◌, ◌+◌, ◌<◌, length, refl, sym, ap, subst}
use Rattle.prom_exporter.specs.declared.lanes.LanePass.TheVariants as passes
use Rattle.prom_exporter.specs.Sampled.{Sampled}
use Rattle.prom_exporter.specs.LanePasses.{of_counter, of_gauge, of_histogram, things_of}
use Rattle.prom_exporter.specs.contracts.state.PrometheusState.{the_view}
use Rattle.prom_exporter.proofs.LaneThings.{IsPassHere, counter_here, gauge_here, histogram_here, counter_place, gauge_place, histogram_place, gauge_counted, histogram_counted, counter_takes_back, gauge_takes_back, histogram_takes_back}
use Rattle.prom_exporter.proofs.KeptCells.{counter_cell_kept, gauge_cell_kept, histogram_cell_kept}
use Rattle.prom_exporter.proofs.state.PrometheusState.take_from_lane.Goals as goal

pub counter_at-requires : goal.counter_at-requires
counter_at-requires c =
    let below = subst (λ e. c.args.index < length (things_of e)) (sym c.self.view_is) c.requires.here in
    let owned : IsPassHere (the_view c.self.inside) (passes.Counter c.in-Counter.counter) c.args.index = subst (λ p. IsPassHere (the_view c.self.inside) p c.args.index) c.in-Counter.is (subst (λ e. IsPassHere e c.args.lent c.args.index) (sym c.self.view_is) c.requires.lent) in
    let at = counter_place (the_view c.self.inside) c.args.index c.in-Counter.counter below owned in
    at

pub take_from_lane-requires-clause-lent : goal.take_from_lane-requires-clause-lent
take_from_lane-requires-clause-lent c κs =
    let below = subst (λ e. c.args.index < length (things_of e)) (sym c.self.view_is) c.requires.here in
    let owned : IsPassHere (the_view c.self.inside) (passes.Counter c.in-Counter.counter) c.args.index = subst (λ p. IsPassHere (the_view c.self.inside) p c.args.index) c.in-Counter.is (subst (λ e. IsPassHere e c.args.lent c.args.index) (sym c.self.view_is) c.requires.lent) in
    let at = counter_place (the_view c.self.inside) c.args.index c.in-Counter.counter below owned in
    owned (of_counter c.counter_at.result.now) (counter_here (the_view c.self.inside) c.args.index c.args.index c.counter_at.result.now refl c.counter_at.ensures.value)

pub invariant_of-self : goal.invariant_of-self
invariant_of-self c = counter_cell_kept _ _ c.self.inside.series _ _ _ c.self.invariant c.args.index c.take_from_lane.new.self

pub returns-in-Counter-clause-taken : goal.returns-in-Counter-clause-taken
returns-in-Counter-clause-taken c =
    let below = subst (λ e. c.args.index < length (things_of e)) (sym c.self.view_is) c.requires.here in
    let owned : IsPassHere (the_view c.self.inside) (passes.Counter c.in-Counter.counter) c.args.index = subst (λ p. IsPassHere (the_view c.self.inside) p c.args.index) c.in-Counter.is (subst (λ e. IsPassHere e c.args.lent c.args.index) (sym c.self.view_is) c.requires.lent) in
    let at = counter_place (the_view c.self.inside) c.args.index c.in-Counter.counter below owned in
    rw (← c.self.view_is, c.in-Counter.is) (counter_takes_back (the_view c.self.inside) c.args.index c.args.index c.counter_at.result.now c.take_from_lane.new.self c.in-Counter.counter (refl, at) c.counter_at.ensures.value c.take_from_lane.ensures).0

pub returns-in-Counter-clause-frame : goal.returns-in-Counter-clause-frame
returns-in-Counter-clause-frame c =
    let below = subst (λ e. c.args.index < length (things_of e)) (sym c.self.view_is) c.requires.here in
    let owned : IsPassHere (the_view c.self.inside) (passes.Counter c.in-Counter.counter) c.args.index = subst (λ p. IsPassHere (the_view c.self.inside) p c.args.index) c.in-Counter.is (subst (λ e. IsPassHere e c.args.lent c.args.index) (sym c.self.view_is) c.requires.lent) in
    let at = counter_place (the_view c.self.inside) c.args.index c.in-Counter.counter below owned in
    rw (← c.self.view_is) (counter_takes_back (the_view c.self.inside) c.args.index c.args.index c.counter_at.result.now c.take_from_lane.new.self c.in-Counter.counter (refl, at) c.counter_at.ensures.value c.take_from_lane.ensures).1

pub overflow_sub-index : goal.overflow_sub-index
overflow_sub-index c =
    let below = subst (λ e. c.args.index < length (things_of e)) (sym c.self.view_is) c.requires.here in
    let owned : IsPassHere (the_view c.self.inside) (passes.Gauge c.in-Gauge.gauge) c.args.index = subst (λ p. IsPassHere (the_view c.self.inside) p c.args.index) c.in-Gauge.is (subst (λ e. IsPassHere e c.args.lent c.args.index) (sym c.self.view_is) c.requires.lent) in
    let at = gauge_counted (the_view c.self.inside) c.args.index c.counter_count-counters.result c.counter_count-counters.ensures.count (gauge_place (the_view c.self.inside) c.args.index c.in-Gauge.gauge below owned) in
    at.0

pub gauge_at-requires : goal.gauge_at-requires
gauge_at-requires c =
    let below = subst (λ e. c.args.index < length (things_of e)) (sym c.self.view_is) c.requires.here in
    let owned : IsPassHere (the_view c.self.inside) (passes.Gauge c.in-Gauge.gauge) c.args.index = subst (λ p. IsPassHere (the_view c.self.inside) p c.args.index) c.in-Gauge.is (subst (λ e. IsPassHere e c.args.lent c.args.index) (sym c.self.view_is) c.requires.lent) in
    let at = gauge_counted (the_view c.self.inside) c.args.index c.counter_count-counters.result c.counter_count-counters.ensures.count (gauge_place (the_view c.self.inside) c.args.index c.in-Gauge.gauge below owned) in
    at.2

pub take_from_lane-requires-in-Gauge-clause-lent : goal.take_from_lane-requires-in-Gauge-clause-lent
take_from_lane-requires-in-Gauge-clause-lent c κs =
    let below = subst (λ e. c.args.index < length (things_of e)) (sym c.self.view_is) c.requires.here in
    let owned : IsPassHere (the_view c.self.inside) (passes.Gauge c.in-Gauge.gauge) c.args.index = subst (λ p. IsPassHere (the_view c.self.inside) p c.args.index) c.in-Gauge.is (subst (λ e. IsPassHere e c.args.lent c.args.index) (sym c.self.view_is) c.requires.lent) in
    let at = gauge_counted (the_view c.self.inside) c.args.index c.counter_count-counters.result c.counter_count-counters.ensures.count (gauge_place (the_view c.self.inside) c.args.index c.in-Gauge.gauge below owned) in
    owned (of_gauge c.gauge_at.result.now) (gauge_here (the_view c.self.inside) c.args.index (c.args.index - c.counter_count-counters.result) c.gauge_at.result.now at.1 c.gauge_at.ensures.value)

pub invariant_of-self-in-Gauge : goal.invariant_of-self-in-Gauge
invariant_of-self-in-Gauge c = gauge_cell_kept _ _ c.self.inside.series _ _ _ c.self.invariant (c.args.index - c.counter_count-counters.result) c.take_from_lane-in-Gauge.new.self

pub returns-in-Gauge-clause-taken : goal.returns-in-Gauge-clause-taken
returns-in-Gauge-clause-taken c =
    let below = subst (λ e. c.args.index < length (things_of e)) (sym c.self.view_is) c.requires.here in
    let owned : IsPassHere (the_view c.self.inside) (passes.Gauge c.in-Gauge.gauge) c.args.index = subst (λ p. IsPassHere (the_view c.self.inside) p c.args.index) c.in-Gauge.is (subst (λ e. IsPassHere e c.args.lent c.args.index) (sym c.self.view_is) c.requires.lent) in
    let at = gauge_counted (the_view c.self.inside) c.args.index c.counter_count-counters.result c.counter_count-counters.ensures.count (gauge_place (the_view c.self.inside) c.args.index c.in-Gauge.gauge below owned) in
    rw (← c.self.view_is, c.in-Gauge.is) (gauge_takes_back (the_view c.self.inside) c.args.index (c.args.index - c.counter_count-counters.result) c.gauge_at.result.now c.take_from_lane-in-Gauge.new.self c.in-Gauge.gauge (at.1, at.2) c.gauge_at.ensures.value c.take_from_lane-in-Gauge.ensures).0

pub returns-in-Gauge-clause-frame : goal.returns-in-Gauge-clause-frame
returns-in-Gauge-clause-frame c =
    let below = subst (λ e. c.args.index < length (things_of e)) (sym c.self.view_is) c.requires.here in
    let owned : IsPassHere (the_view c.self.inside) (passes.Gauge c.in-Gauge.gauge) c.args.index = subst (λ p. IsPassHere (the_view c.self.inside) p c.args.index) c.in-Gauge.is (subst (λ e. IsPassHere e c.args.lent c.args.index) (sym c.self.view_is) c.requires.lent) in
    let at = gauge_counted (the_view c.self.inside) c.args.index c.counter_count-counters.result c.counter_count-counters.ensures.count (gauge_place (the_view c.self.inside) c.args.index c.in-Gauge.gauge below owned) in
    rw (← c.self.view_is) (gauge_takes_back (the_view c.self.inside) c.args.index (c.args.index - c.counter_count-counters.result) c.gauge_at.result.now c.take_from_lane-in-Gauge.new.self c.in-Gauge.gauge (at.1, at.2) c.gauge_at.ensures.value c.take_from_lane-in-Gauge.ensures).1

pub overflow_sub-index-in-Histogram : goal.overflow_sub-index-in-Histogram
overflow_sub-index-in-Histogram c =
    let below = subst (λ e. c.args.index < length (things_of e)) (sym c.self.view_is) c.requires.here in
    let owned : IsPassHere (the_view c.self.inside) (passes.Histogram c.in-Histogram.histogram) c.args.index = subst (λ p. IsPassHere (the_view c.self.inside) p c.args.index) c.in-Histogram.is (subst (λ e. IsPassHere e c.args.lent c.args.index) (sym c.self.view_is) c.requires.lent) in
    let at = histogram_counted (the_view c.self.inside) c.args.index c.counter_count.result c.gauge_count.result c.counter_count.ensures.count c.gauge_count.ensures (histogram_place (the_view c.self.inside) c.args.index c.in-Histogram.histogram below owned) in
    at.0

pub histogram_at-requires : goal.histogram_at-requires
histogram_at-requires c =
    let below = subst (λ e. c.args.index < length (things_of e)) (sym c.self.view_is) c.requires.here in
    let owned : IsPassHere (the_view c.self.inside) (passes.Histogram c.in-Histogram.histogram) c.args.index = subst (λ p. IsPassHere (the_view c.self.inside) p c.args.index) c.in-Histogram.is (subst (λ e. IsPassHere e c.args.lent c.args.index) (sym c.self.view_is) c.requires.lent) in
    let at = histogram_counted (the_view c.self.inside) c.args.index c.counter_count.result c.gauge_count.result c.counter_count.ensures.count c.gauge_count.ensures (histogram_place (the_view c.self.inside) c.args.index c.in-Histogram.histogram below owned) in
    at.2

pub take_from_lane-requires-in-Histogram : goal.take_from_lane-requires-in-Histogram
take_from_lane-requires-in-Histogram c =
    let below = subst (λ e. c.args.index < length (things_of e)) (sym c.self.view_is) c.requires.here in
    let owned : IsPassHere (the_view c.self.inside) (passes.Histogram c.in-Histogram.histogram) c.args.index = subst (λ p. IsPassHere (the_view c.self.inside) p c.args.index) c.in-Histogram.is (subst (λ e. IsPassHere e c.args.lent c.args.index) (sym c.self.view_is) c.requires.lent) in
    let at = histogram_counted (the_view c.self.inside) c.args.index c.counter_count.result c.gauge_count.result c.counter_count.ensures.count c.gauge_count.ensures (histogram_place (the_view c.self.inside) c.args.index c.in-Histogram.histogram below owned) in
    owned (of_histogram c.histogram_at.result.now) (histogram_here (the_view c.self.inside) c.args.index (c.args.index - (c.counter_count.result + c.gauge_count.result)) c.histogram_at.result.now at.1 c.histogram_at.ensures.value)

pub invariant_of-self-in-Histogram : goal.invariant_of-self-in-Histogram
invariant_of-self-in-Histogram c = histogram_cell_kept _ _ c.self.inside.series _ _ _ c.self.invariant (c.args.index - (c.counter_count.result + c.gauge_count.result)) c.histogram_at.result.now c.take_from_lane-in-Histogram.new.self c.histogram_at.ensures.value (ap (λ (x : Sampled). x.series.kind) c.take_from_lane-in-Histogram.ensures)

pub returns-in-Histogram-clause-taken : goal.returns-in-Histogram-clause-taken
returns-in-Histogram-clause-taken c =
    let below = subst (λ e. c.args.index < length (things_of e)) (sym c.self.view_is) c.requires.here in
    let owned : IsPassHere (the_view c.self.inside) (passes.Histogram c.in-Histogram.histogram) c.args.index = subst (λ p. IsPassHere (the_view c.self.inside) p c.args.index) c.in-Histogram.is (subst (λ e. IsPassHere e c.args.lent c.args.index) (sym c.self.view_is) c.requires.lent) in
    let at = histogram_counted (the_view c.self.inside) c.args.index c.counter_count.result c.gauge_count.result c.counter_count.ensures.count c.gauge_count.ensures (histogram_place (the_view c.self.inside) c.args.index c.in-Histogram.histogram below owned) in
    rw (← c.self.view_is, c.in-Histogram.is) (histogram_takes_back (the_view c.self.inside) c.args.index (c.args.index - (c.counter_count.result + c.gauge_count.result)) c.histogram_at.result.now c.take_from_lane-in-Histogram.new.self c.in-Histogram.histogram at.1 c.histogram_at.ensures.value c.take_from_lane-in-Histogram.ensures).0

pub returns-in-Histogram-clause-frame : goal.returns-in-Histogram-clause-frame
returns-in-Histogram-clause-frame c =
    let below = subst (λ e. c.args.index < length (things_of e)) (sym c.self.view_is) c.requires.here in
    let owned : IsPassHere (the_view c.self.inside) (passes.Histogram c.in-Histogram.histogram) c.args.index = subst (λ p. IsPassHere (the_view c.self.inside) p c.args.index) c.in-Histogram.is (subst (λ e. IsPassHere e c.args.lent c.args.index) (sym c.self.view_is) c.requires.lent) in
    let at = histogram_counted (the_view c.self.inside) c.args.index c.counter_count.result c.gauge_count.result c.counter_count.ensures.count c.gauge_count.ensures (histogram_place (the_view c.self.inside) c.args.index c.in-Histogram.histogram below owned) in
    rw (← c.self.view_is) (histogram_takes_back (the_view c.self.inside) c.args.index (c.args.index - (c.counter_count.result + c.gauge_count.result)) c.histogram_at.result.now c.take_from_lane-in-Histogram.new.self c.in-Histogram.histogram at.1 c.histogram_at.ensures.value c.take_from_lane-in-Histogram.ensures).1
