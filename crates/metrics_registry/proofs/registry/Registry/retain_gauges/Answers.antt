use Rattle.metrics_core.specs.declared.kinds.MetricKind.TheVariants.{Gauge}
use Rattle.metrics_registry.specs.Stored.{live_of}
use Rattle.metrics_registry.proofs.RetainedSeries.{are_of-retained}
use Rattle.metrics_registry.proofs.registry.Registry.retain_gauges.Goals as goal

pub invariant_of-self : goal.invariant_of-self
invariant_of-self g c = record {
  counters = c.self.invariant.counters;
  counters_of = c.self.invariant.counters_of;
  gauges = c.retain.ensures.stored;
  gauges_of = are_of-retained g.F.FnMut Gauge c.self.inside.made c.args.keep (live_of c.self.inside.gauge_keys.keys c.self.inside.gauges.items.items) (live_of c.retain.new.keys.keys c.retain.new.self.items.items) c.retain.ensures.retained.0 c.self.invariant.gauges_of c.retain.ensures.retained.1;
  histograms = c.self.invariant.histograms;
  histograms_of = c.self.invariant.histograms_of;
}
