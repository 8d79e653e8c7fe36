use Rattle.metrics_core.specs.declared.kinds.MetricKind.TheVariants.{Histogram}
use Rattle.metrics_registry.specs.Stored.{live_of}
use Rattle.metrics_registry.proofs.RetainedSeries.{are_of-retained}
use Rattle.metrics_registry.proofs.registry.Registry.retain_histograms.Goals as goal

pub invariant_of-self : goal.invariant_of-self
invariant_of-self g c = record {
  counters = c.self.invariant.counters;
  counters_of = c.self.invariant.counters_of;
  gauges = c.self.invariant.gauges;
  gauges_of = c.self.invariant.gauges_of;
  histograms = c.retain.ensures.stored;
  histograms_of = are_of-retained g.F.FnMut Histogram c.self.inside.made c.args.keep (live_of c.self.inside.histogram_keys.keys c.self.inside.histograms.items.items) (live_of c.retain.new.keys.keys c.retain.new.self.items.items) c.retain.ensures.retained.0 c.self.invariant.histograms_of c.retain.ensures.retained.1;
}
