use Rattle.std.proofs.lemmas.Result.{on_ok_weaker}
use Rattle.prom_exporter.specs.LanePasses as P
use Rattle.dsd_exporter.specs.LanePasses as D
use Rattle.exporter_lanes.proofs.CallsMade.{dogstatsd_made, prometheus_made}
use Rattle.exporter_lanes.proofs.exporters.ExportersLenders.make.Goals as goal

pub returns-in-Prometheus-call-clause-made : goal.returns-in-Prometheus-call-clause-made
returns-in-Prometheus-call-clause-made g c =
    rw (c.in-Prometheus.is, c.in-Prometheus-call.is)
    (on_ok_weaker c.make.result (prometheus_made c.in-Prometheus-call.call (P.pass_known c.in-Prometheus.lent) (P.pass_known c.make.new.lent)) c.make.ensures.made)

pub returns-in-DogStatsD-call-2-clause-made : goal.returns-in-DogStatsD-call-2-clause-made
returns-in-DogStatsD-call-2-clause-made g c =
    rw (c.in-DogStatsD.is, c.in-DogStatsD-call-2.is)
    (on_ok_weaker c.make-in-DogStatsD-call-2.result (dogstatsd_made c.in-DogStatsD-call-2.call (D.pass_known c.in-DogStatsD.lent) (D.pass_known c.make-in-DogStatsD-call-2.new.lent)) c.make-in-DogStatsD-call-2.ensures.made)
