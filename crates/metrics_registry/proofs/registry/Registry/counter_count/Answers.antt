use Rattle.std.proofs.Common.{sym, ◌∙◌, arith}
use Rattle.metrics_registry.proofs.StoredSeries.{length-live_of}
use Rattle.metrics_registry.proofs.registry.Registry.counter_count.Goals as goal

pub returns-clause-count : goal.returns-clause-count
returns-clause-count g c =
    let stored = c.self.invariant.counters.beside in
    rw (← c.self.view_is) (c.len.ensures.len ∙ stored ∙ sym (length-live_of c.self.inside.counter_keys.keys c.self.inside.counters.items.items stored))

pub returns-clause-room : goal.returns-clause-room
returns-clause-room g c =
    let counters = c.self.invariant.counters.beside in
    let gauges = c.self.invariant.gauges.beside in
    rw (← c.self.view_is) (
    omega (
      arith,
      c.len.ensures.len,
      c.len.ensures.small,
      c.len-gauges.ensures.len,
      c.len-gauges.ensures.small,
      counters,
      gauges,
      length-live_of c.self.inside.counter_keys.keys c.self.inside.counters.items.items counters,
      length-live_of c.self.inside.gauge_keys.keys c.self.inside.gauges.items.items gauges,
    ))
