use Rattle.std.proofs.Common.{arith}
use Rattle.dsd_exporter.specs.contracts.state.State.{the_view}
use Rattle.dsd_exporter.proofs.LaneThings.{counter_index, gauge_index, histogram_index, no_index, id_within}
use Rattle.dsd_exporter.proofs.state.State.index_of.Goals as goal

pub returns-in-Some-clause-index : goal.returns-in-Some-clause-index
returns-in-Some-clause-index c = rw (← c.self.view_is) (counter_index c.args.id (the_view c.self.inside) c.in-Some.place c.in-Some.ensures.place)

pub overflow_add-result : goal.overflow_add-result
overflow_add-result c = (let within = id_within c.args.id c.self.inside.series.gauges c.in-Some-place_of_gauge.place c.in-Some-place_of_gauge.ensures.place in omega (arith, within, c.counter_count-counters.ensures.count, c.counter_count-counters.ensures.room))

pub returns-in-Some-place_of_gauge-clause-index : goal.returns-in-Some-place_of_gauge-clause-index
returns-in-Some-place_of_gauge-clause-index c =
    rw (← c.self.view_is) (gauge_index c.args.id (the_view c.self.inside) c.counter_count-counters.result c.in-Some-place_of_gauge.place c.counter_count-counters.ensures.count c.in-Some-place_of_gauge.ensures.place)

pub returns-in_err-place-clause-index : goal.returns-in_err-place-clause-index
returns-in_err-place-clause-index c =
    rw (c.from_residual.ensures, ← c.self.view_is) (no_index c.args.id (the_view c.self.inside) c.in_default.ensures.place c.in_default-place_of_gauge.ensures.place c.in_err-place.ensures.place)

pub overflow_add-result-2 : goal.overflow_add-result-2
overflow_add-result-2 c =
    (let within = id_within c.args.id c.self.inside.series.histograms c.in_ok-place.place c.in_ok-place.ensures.place in
    let fits = c.count-count.type_inv in
    omega (arith, within, fits, c.count-count.ensures, c.gauge_count.ensures))

pub overflow_add-result-3 : goal.overflow_add-result-3
overflow_add-result-3 c =
    (let within = id_within c.args.id c.self.inside.series.histograms c.in_ok-place.place c.in_ok-place.ensures.place in
    let fits = c.count-count.type_inv in
    omega (arith, within, fits, c.count-count.ensures, c.counter_count-counters.ensures.count, c.gauge_count.ensures))

pub returns-clause-index : goal.returns-clause-index
returns-clause-index c =
    rw (← c.self.view_is) (histogram_index c.args.id (the_view c.self.inside) c.counter_count-counters.result c.gauge_count.result c.in_ok-place.place c.counter_count-counters.ensures.count c.gauge_count.ensures c.in_ok-place.ensures.place)
