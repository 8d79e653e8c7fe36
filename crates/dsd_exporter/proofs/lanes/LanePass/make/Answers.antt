use Rattle.std.proofs.Common.{subst}
use Rattle.std.proofs.lemmas.Result.{on_ok_weaker}
use Rattle.dsd_exporter.specs.LanePasses.{IsPassOf}
use Rattle.dsd_exporter.proofs.CallKinds.{counter_takes, gauge_takes, histogram_takes, counter_makes, gauge_makes, histogram_makes}
use Rattle.dsd_exporter.proofs.lanes.LanePass.make.Goals as goal

pub counter_change-requires : goal.counter_change-requires
counter_change-requires g c =
    let owned = subst (IsPassOf c.requires.0) c.in-Counter.is c.requires.1 in
    counter_takes c.requires.0 c.in-Counter.counter c.args.call.now owned c.requires.2

pub returns-in-Counter-clause-made : goal.returns-in-Counter-clause-made
returns-in-Counter-clause-made g c =
    let owned = subst (IsPassOf c.requires.0) c.in-Counter.is c.requires.1 in
    let takes = counter_takes c.requires.0 c.in-Counter.counter c.args.call.now owned c.requires.2 in
    rw c.in-Counter.is (on_ok_weaker c.make.result (counter_makes c.args.call.now c.counter_change.result c.in-Counter.counter.knows c.make.new.self.knows takes c.counter_change.ensures) c.make.ensures.made)

pub gauge_change-requires : goal.gauge_change-requires
gauge_change-requires g c =
    let owned = subst (IsPassOf c.requires.0) c.in-Gauge.is c.requires.1 in
    gauge_takes c.requires.0 c.in-Gauge.gauge c.args.call.now owned c.requires.2

pub returns-in-Gauge-clause-made : goal.returns-in-Gauge-clause-made
returns-in-Gauge-clause-made g c =
    let owned = subst (IsPassOf c.requires.0) c.in-Gauge.is c.requires.1 in
    let takes = gauge_takes c.requires.0 c.in-Gauge.gauge c.args.call.now owned c.requires.2 in
    rw c.in-Gauge.is (on_ok_weaker c.make-in-Gauge.result (gauge_makes c.args.call.now c.gauge_change.result c.in-Gauge.gauge.knows c.make-in-Gauge.new.self.knows takes c.gauge_change.ensures) c.make-in-Gauge.ensures.made)

pub sample-requires : goal.sample-requires
sample-requires g c =
    let owned = subst (IsPassOf c.requires.0) c.in-Histogram.is c.requires.1 in
    histogram_takes c.requires.0 c.in-Histogram.histogram c.args.call.now owned c.requires.2

pub returns-in-Histogram-clause-made : goal.returns-in-Histogram-clause-made
returns-in-Histogram-clause-made g c =
    let owned = subst (IsPassOf c.requires.0) c.in-Histogram.is c.requires.1 in
    let takes = histogram_takes c.requires.0 c.in-Histogram.histogram c.args.call.now owned c.requires.2 in
    rw c.in-Histogram.is (on_ok_weaker c.make-in-Histogram.result (histogram_makes c.args.call.now c.sample.result c.in-Histogram.histogram.knows c.make-in-Histogram.new.self.knows takes c.sample.ensures) c.make-in-Histogram.ensures.made)
