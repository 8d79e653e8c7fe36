use Rattle.std.proofs.Common.{◌+◌, refl, ap, inr}
use Rattle.metrics_core.specs.declared.kinds.MetricKind.TheVariants.{Counter, Gauge, Histogram}
use Rattle.metrics_registry.specs.Stored.{live_of}
use Rattle.metrics_registry.specs.StoredRegistry.{registry_of}
use Rattle.metrics_registry.proofs.Found.{all_below, are_of-more}
use Rattle.metrics_registry.proofs.Registered.{are_of-new, made_new}
use Rattle.metrics_registry.proofs.registry.Registry.register_histogram.Goals as goal

pub register-requires-clause-above : goal.register-requires-clause-above
register-requires-clause-above g c = all_below Histogram c.self.inside.made (live_of c.self.inside.histogram_keys.keys c.self.inside.histograms.items.items) c.self.invariant.histograms_of

pub invariant_of-self-then-given-self : goal.invariant_of-self-then-given-self
invariant_of-self-then-given-self g c = record {
  counters = c.self.invariant.counters;
  counters_of = are_of-more Counter c.self.inside.made (live_of c.self.inside.counter_keys.keys c.self.inside.counters.items.items) c.self.invariant.counters_of;
  gauges = c.self.invariant.gauges;
  gauges_of = are_of-more Gauge c.self.inside.made (live_of c.self.inside.gauge_keys.keys c.self.inside.gauges.items.items) c.self.invariant.gauges_of;
  histograms = c.register.ensures.stored;
  histograms_of = are_of-new _ Histogram c.args.key _ c.in_ok-given.given (live_of c.self.inside.histogram_keys.keys c.self.inside.histograms.items.items) (live_of c.register.new.keys.keys c.register.new.self.items.items) c.self.invariant.histograms_of refl c.if-given-self.true c.in_ok-given.ensures.registered;
}

pub returns-then-given-self-clause-registered : goal.returns-then-given-self-clause-registered
returns-then-given-self-clause-registered g c =
    let made = made_new _ Histogram c.args.key _ c.in_ok-given.given (live_of c.self.inside.histogram_keys.keys c.self.inside.histograms.items.items) (live_of c.register.new.keys.keys c.register.new.self.items.items) c.self.invariant.histograms_of c.if-given-self.true c.in_ok-given.ensures.registered in
    rw (← c.self.view_is) (inr (made.0, made.1, (made.2.0, made.2.1, ap (λ live. record (registry_of c.self.inside) { histograms = live; made = c.self.inside.made + 1 }) made.2.2)))
