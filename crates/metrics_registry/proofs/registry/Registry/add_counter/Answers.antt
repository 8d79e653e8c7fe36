use Rattle.std.proofs.Common.{refl, sym, subst}
use Rattle.metrics_core.specs.declared.kinds.MetricKind.TheVariants.{Counter, Gauge, Histogram}
use Rattle.metrics_registry.specs.Live.{AreOf}
use Rattle.metrics_registry.specs.Stored.{live_of}
use Rattle.metrics_registry.proofs.Found.{all_below, are_of-made, are_of-more}
use Rattle.metrics_registry.proofs.registry.Registry.add_counter.Goals as goal

pub add-requires-clause-above : goal.add-requires-clause-above
add-requires-clause-above g c = all_below Counter c.self.inside.made (live_of c.self.inside.counter_keys.keys c.self.inside.counters.items.items) c.self.invariant.counters_of

pub invariant_of-self : goal.invariant_of-self
invariant_of-self g c = record {
  counters = c.in-Ok.ensures.stored;
  counters_of = subst (AreOf Counter _) (sym c.in-Ok.ensures.added) (are_of-made Counter c.self.inside.made (live_of c.self.inside.counter_keys.keys c.self.inside.counters.items.items) _ c.self.invariant.counters_of refl refl);
  gauges = c.self.invariant.gauges;
  gauges_of = are_of-more Gauge c.self.inside.made (live_of c.self.inside.gauge_keys.keys c.self.inside.gauges.items.items) c.self.invariant.gauges_of;
  histograms = c.self.invariant.histograms;
  histograms_of = are_of-more Histogram c.self.inside.made (live_of c.self.inside.histogram_keys.keys c.self.inside.histograms.items.items) c.self.invariant.histograms_of;
}
