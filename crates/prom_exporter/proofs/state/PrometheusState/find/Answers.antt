use Rattle.std.proofs.Common.{sym, ap, ◌∙◌}
use Rattle.std.specs.Prelude.{is_some}
use Rattle.prom_exporter.specs.contracts.state.PrometheusState.{the_view}
use Rattle.prom_exporter.proofs.Given.{counter_live, gauge_live, histogram_live}
use Rattle.prom_exporter.proofs.state.PrometheusState.find.Goals as goal

pub returns-in-Counter : goal.returns-in-Counter
returns-in-Counter c = rw (c.in-Counter.is, ← c.self.view_is) (ap is_some c.find_counter.ensures ∙ sym (counter_live (the_view c.self.inside) c.args.key.now))

pub returns-in-Gauge : goal.returns-in-Gauge
returns-in-Gauge c = rw (c.in-Gauge.is, ← c.self.view_is) (ap is_some c.find_gauge.ensures ∙ sym (gauge_live (the_view c.self.inside) c.args.key.now))

pub returns-in-Histogram : goal.returns-in-Histogram
returns-in-Histogram c = rw (c.in-Histogram.is, ← c.self.view_is) (ap is_some c.find_histogram.ensures ∙ sym (histogram_live (the_view c.self.inside) c.args.key.now))
