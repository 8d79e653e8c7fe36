use Rattle.std.proofs.Common.{refl, subst, sym}
use Rattle.exporter_lanes.specs.ExporterLanes.{first_prometheus, dogstatsd_thing, prometheus_thing}
use Rattle.exporter_lanes.proofs.Things.{IsPassAt, TakenAt, dogstatsd_at, dogstatsd_below, dogstatsd_taken, prometheus_here, prometheus_past, prometheus_taken, prometheus_within}
use Rattle.exporter_lanes.proofs.exporters.ExportersLenders.take_back.Goals as goal

pub overflow_sub-index : goal.overflow_sub-index
overflow_sub-index c =
    prometheus_past c.args.self.now c.series_count-first.result c.series_count-first.ensures.count c.args.index c.in-Prometheus.lent (subst (IsPassAt c.args.self.now c.args.index) c.in-Prometheus.is c.requires.lent)

pub take_back-requires-clause-here : goal.take_back-requires-clause-here
take_back-requires-clause-here c =
    let e = c.args.self.now in
    let past = prometheus_past e c.series_count-first.result c.series_count-first.ensures.count c.args.index c.in-Prometheus.lent (subst (IsPassAt e c.args.index) c.in-Prometheus.is c.requires.lent) in
    prometheus_within e c.series_count-first.result c.series_count-first.ensures.count c.args.index past c.requires.here

pub take_back-requires-clause-root : goal.take_back-requires-clause-root
take_back-requires-clause-root c =
    let e = c.args.self.now in
    let past = prometheus_past e c.series_count-first.result c.series_count-first.ensures.count c.args.index c.in-Prometheus.lent (subst (IsPassAt e c.args.index) c.in-Prometheus.is c.requires.lent) in
    λ t at. c.requires.root (prometheus_thing t) (prometheus_here e c.series_count-first.result c.series_count-first.ensures.count c.args.index t past at)

pub take_back-requires-clause-lent : goal.take_back-requires-clause-lent
take_back-requires-clause-lent c =
    let e = c.args.self.now in
    let of = subst (IsPassAt e c.args.index) c.in-Prometheus.is c.requires.lent in
    let past = prometheus_past e c.series_count-first.result c.series_count-first.ensures.count c.args.index c.in-Prometheus.lent of in
    λ t at. of (prometheus_thing t) (prometheus_here e c.series_count-first.result c.series_count-first.ensures.count c.args.index t past at)

pub take_back-requires-in-DogStatsD-clause-here : goal.take_back-requires-in-DogStatsD-clause-here
take_back-requires-in-DogStatsD-clause-here c =
    dogstatsd_below c.args.self.now (first_prometheus c.args.self.now) refl c.args.index c.in-DogStatsD.lent c.requires.here (subst (IsPassAt c.args.self.now c.args.index) c.in-DogStatsD.is c.requires.lent)

pub take_back-requires-in-DogStatsD-clause-root : goal.take_back-requires-in-DogStatsD-clause-root
take_back-requires-in-DogStatsD-clause-root c = λ t at. c.requires.root (dogstatsd_thing t) (dogstatsd_at c.args.self.now c.args.index t at)

pub take_back-requires-in-DogStatsD-clause-lent : goal.take_back-requires-in-DogStatsD-clause-lent
take_back-requires-in-DogStatsD-clause-lent c =
    let of = subst (IsPassAt c.args.self.now c.args.index) c.in-DogStatsD.is c.requires.lent in
    λ t at. of (dogstatsd_thing t) (dogstatsd_at c.args.self.now c.args.index t at)

pub returns-in-Prometheus-clause-taken : goal.returns-in-Prometheus-clause-taken
returns-in-Prometheus-clause-taken c =
    let e = c.args.self.now in
    let past = prometheus_past e c.series_count-first.result c.series_count-first.ensures.count c.args.index c.in-Prometheus.lent (subst (IsPassAt e c.args.index) c.in-Prometheus.is c.requires.lent) in
    subst (λ lent. TakenAt e c.args.index lent (record e { prometheus = c.take_back.new.self })) (sym c.in-Prometheus.is)
    (prometheus_taken e c.series_count-first.result c.series_count-first.ensures.count c.args.index c.in-Prometheus.lent c.take_back.new.self past c.requires.here c.take_back.ensures.taken)

pub returns-in-DogStatsD-clause-taken : goal.returns-in-DogStatsD-clause-taken
returns-in-DogStatsD-clause-taken c =
    let e = c.args.self.now in
    let below = dogstatsd_below e (first_prometheus e) refl c.args.index c.in-DogStatsD.lent c.requires.here (subst (IsPassAt e c.args.index) c.in-DogStatsD.is c.requires.lent) in
    subst (λ lent. TakenAt e c.args.index lent (record e { dogstatsd = c.take_back-in-DogStatsD.new.self })) (sym c.in-DogStatsD.is)
    (dogstatsd_taken e (first_prometheus e) refl c.args.index c.in-DogStatsD.lent c.take_back-in-DogStatsD.new.self below c.take_back-in-DogStatsD.ensures.taken)
