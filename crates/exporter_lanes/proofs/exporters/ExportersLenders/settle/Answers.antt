use Rattle.exporter_lanes.specs.ExporterLanes.{dogstatsd_thing, prometheus_thing}
use Rattle.exporter_lanes.proofs.Things.{dogstatsd_at, dogstatsd_settled, prometheus_here, prometheus_settled}
use Rattle.exporter_lanes.proofs.exporters.ExportersLenders.settle.Goals as goal

pub settle-requires-clause-home : goal.settle-requires-clause-home
settle-requires-clause-home g c = λ t at. c.requires.home (dogstatsd_thing t) (dogstatsd_at c.args.self.now c.args.index t at)

pub settle-requires-else-index-first-clause-home : goal.settle-requires-else-index-first-clause-home
settle-requires-else-index-first-clause-home g c =
    λ t at. c.requires.home (prometheus_thing t) (prometheus_here c.args.self.now c.series_count-first.result c.series_count-first.ensures.count c.args.index t c.if-index-first.false at)

pub returns-then-index-first-clause-settled : goal.returns-then-index-first-clause-settled
returns-then-index-first-clause-settled g c =
    dogstatsd_settled c.args.self.now c.series_count-first.result c.series_count-first.ensures.count c.args.index c.if-index-first.true c.settle.ensures.settled

pub returns-else-index-first-clause-settled : goal.returns-else-index-first-clause-settled
returns-else-index-first-clause-settled g c =
    prometheus_settled c.args.self.now c.series_count-first.result c.series_count-first.ensures.count c.args.index c.if-index-first.false c.requires.here c.settle-else-index-first.ensures.settled
