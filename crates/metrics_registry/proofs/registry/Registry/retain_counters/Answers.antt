use Rattle.metrics_core.specs.declared.kinds.MetricKind.TheVariants.{Counter}
use Rattle.metrics_registry.specs.Stored.{live_of}
use Rattle.metrics_registry.proofs.RetainedSeries.{are_of-retained}
use Rattle.metrics_registry.proofs.registry.Registry.retain_counters.Goals as goal

pub invariant_of-self : goal.invariant_of-self
invariant_of-self g c = record {
  counters = c.retain.ensures.stored;
  counters_of = are_of-retained g.F.FnMut Counter c.self.inside.made c.args.keep (live_of c.self.inside.counter_keys.keys c.self.inside.counters.items.items) (live_of c.retain.new.keys.keys c.retain.new.self.items.items) c.retain.ensures.retained.0 c.self.invariant.counters_of c.retain.ensures.retained.1;
  gauges = c.self.invariant.gauges;
  gauges_of = c.self.invariant.gauges_of;
  histograms = c.self.invariant.histograms;
  histograms_of = c.self.invariant.histograms_of;
}
