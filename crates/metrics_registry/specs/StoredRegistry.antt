-- How a registry is stored.
use Rattle.metrics_core.specs.declared.kinds.MetricKind.TheVariants.{Counter, Gauge, Histogram}
use Rattle.metrics_registry.specs.Live.{RegistryText, AreOf}
use Rattle.metrics_registry.specs.Stored.{live_of, AreStored}
use Rattle.metrics_registry.specs.declared.registry.Registry.TheInside.{Inside}

module _ {C G H : Type 0} where
  -- the registry that is stored
  abbrev pub registry_of : Inside C G H → RegistryText C G H
  registry_of inside = record {
    counters = live_of inside.counter_keys.keys inside.counters.items.items;
    gauges = live_of inside.gauge_keys.keys inside.gauges.items.items;
    histograms = live_of inside.histogram_keys.keys inside.histograms.items.items;
    made = inside.made;
  }

  -- each kind is stored in order, with ids of its kind whose numbers are below the number of series made
  pub record IsStoredRegistry (inside : Inside C G H) : Type 0 where
    pub counters : AreStored inside.counter_keys.keys inside.counters.items.items
    pub counters_of : AreOf Counter inside.made (live_of inside.counter_keys.keys inside.counters.items.items)
    pub gauges : AreStored inside.gauge_keys.keys inside.gauges.items.items
    pub gauges_of : AreOf Gauge inside.made (live_of inside.gauge_keys.keys inside.gauges.items.items)
    pub histograms : AreStored inside.histogram_keys.keys inside.histograms.items.items
    pub histograms_of : AreOf Histogram inside.made (live_of inside.histogram_keys.keys inside.histograms.items.items)
