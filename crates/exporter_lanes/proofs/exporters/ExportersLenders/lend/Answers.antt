use Rattle.exporter_lanes.specs.ExporterLanes.{dogstatsd_thing, prometheus_thing}
use Rattle.exporter_lanes.proofs.Things.{dogstatsd_at, dogstatsd_lent, prometheus_here, prometheus_lent}
use Rattle.exporter_lanes.proofs.exporters.ExportersLenders.lend.Goals as goal

pub lend-requires-clause-root : goal.lend-requires-clause-root
lend-requires-clause-root c = λ t at. c.requires.root (dogstatsd_thing t) (dogstatsd_at c.args.self.now c.args.index t at)

pub lend-requires-else-index-first-clause-root : goal.lend-requires-else-index-first-clause-root
lend-requires-else-index-first-clause-root c =
    λ t at. c.requires.root (prometheus_thing t) (prometheus_here c.args.self.now c.series_count-first.result c.series_count-first.ensures.count c.args.index t c.if-index-first.false at)

pub returns-in_ok-lent-clause-lent : goal.returns-in_ok-lent-clause-lent
returns-in_ok-lent-clause-lent c =
    dogstatsd_lent c.args.self.now c.series_count-first.result c.series_count-first.ensures.count c.args.index c.in_ok-lent.lent c.lend.new.self c.if-index-first.true c.in_ok-lent.ensures.lent

pub returns-in_ok-lent-2-clause-lent : goal.returns-in_ok-lent-2-clause-lent
returns-in_ok-lent-2-clause-lent c =
    prometheus_lent c.args.self.now c.series_count-first.result c.series_count-first.ensures.count c.args.index c.in_ok-lent-2.lent c.lend-else-index-first.new.self c.if-index-first.false c.requires.here c.in_ok-lent-2.ensures.lent
