use Rattle.std.proofs.Common.{subst}
use Rattle.std.proofs.lemmas.Result.{on_ok_weaker}
use Rattle.prom_exporter.specs.LanePasses.{IsPassOf}
use Rattle.prom_exporter.proofs.CallKinds.{counter_makes, gauge_makes, histogram_makes}
use Rattle.prom_exporter.proofs.lanes.LanePass.make.Goals as goal

pub returns-in-Counter-clause-made : goal.returns-in-Counter-clause-made
returns-in-Counter-clause-made g c =
    let owned = subst (IsPassOf c.requires.0) c.in-Counter.is c.requires.1 in
    rw c.in-Counter.is (on_ok_weaker c.make.result (counter_makes c.requires.0 c.in-Counter.counter c.args.call.now c.make.new.self.knows owned c.requires.2) c.make.ensures.made)

pub returns-in-Gauge-clause-made : goal.returns-in-Gauge-clause-made
returns-in-Gauge-clause-made g c =
    let owned = subst (IsPassOf c.requires.0) c.in-Gauge.is c.requires.1 in
    rw c.in-Gauge.is (on_ok_weaker c.make-in-Gauge.result (gauge_makes c.requires.0 c.in-Gauge.gauge c.args.call.now c.make-in-Gauge.new.self.knows owned c.requires.2) c.make-in-Gauge.ensures.made)

pub returns-in-Histogram-clause-made : goal.returns-in-Histogram-clause-made
returns-in-Histogram-clause-made g c =
    let owned = subst (IsPassOf c.requires.0) c.in-Histogram.is c.requires.1 in
    rw c.in-Histogram.is
    (on_ok_weaker c.make-in-Histogram.result (histogram_makes c.requires.0 c.in-Histogram.histogram c.args.call.now c.of_call.result c.make-in-Histogram.new.self.knows owned c.requires.2 c.of_call.ensures) c.make-in-Histogram.ensures.made)
