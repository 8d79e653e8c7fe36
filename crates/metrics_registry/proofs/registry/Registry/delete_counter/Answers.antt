use Rattle.std.proofs.Common.{sym, subst}
use Rattle.metrics_core.specs.declared.kinds.MetricKind.TheVariants.{Counter}
use Rattle.metrics_registry.specs.Live.{AreOf}
use Rattle.metrics_registry.specs.Stored.{live_of}
use Rattle.metrics_registry.proofs.Found.{are_of-without}
use Rattle.metrics_registry.proofs.registry.Registry.delete_counter.Goals as goal

pub invariant_of-self : goal.invariant_of-self
invariant_of-self g c = record {
  counters = c.delete.ensures.stored;
  counters_of = subst (AreOf Counter c.self.inside.made) (sym c.delete.ensures.rest) (are_of-without c.args.id Counter c.self.inside.made (live_of c.self.inside.counter_keys.keys c.self.inside.counters.items.items) c.self.invariant.counters_of);
  gauges = c.self.invariant.gauges;
  gauges_of = c.self.invariant.gauges_of;
  histograms = c.self.invariant.histograms;
  histograms_of = c.self.invariant.histograms_of;
}
