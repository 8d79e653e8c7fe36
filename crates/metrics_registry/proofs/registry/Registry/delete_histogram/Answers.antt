use Rattle.std.proofs.Common.{sym, subst}
use Rattle.metrics_core.specs.declared.kinds.MetricKind.TheVariants.{Histogram}
use Rattle.metrics_registry.specs.Live.{AreOf}
use Rattle.metrics_registry.specs.Stored.{live_of}
use Rattle.metrics_registry.proofs.Found.{are_of-without}
use Rattle.metrics_registry.proofs.registry.Registry.delete_histogram.Goals as goal

pub invariant_of-self : goal.invariant_of-self
invariant_of-self g c = record {
  counters = c.self.invariant.counters;
  counters_of = c.self.invariant.counters_of;
  gauges = c.self.invariant.gauges;
  gauges_of = c.self.invariant.gauges_of;
  histograms = c.delete.ensures.stored;
  histograms_of = subst (AreOf Histogram c.self.inside.made) (sym c.delete.ensures.rest) (are_of-without c.args.id Histogram c.self.inside.made (live_of c.self.inside.histogram_keys.keys c.self.inside.histograms.items.items) c.self.invariant.histograms_of);
}
