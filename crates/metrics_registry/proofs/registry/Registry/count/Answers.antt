use Rattle.std.proofs.Common.{length, ◌+◌, sym, ap, ◌∙◌}
use Rattle.metrics_registry.proofs.StoredSeries.{length-live_of}
use Rattle.metrics_registry.proofs.registry.Registry.count.Goals as goal

pub returns : goal.returns
returns g c =
    let counters = c.self.invariant.counters.beside in
    let gauges = c.self.invariant.gauges.beside in
    let histograms = c.self.invariant.histograms.beside in
    let all_counters = ap length c.as_slice.ensures.keys ∙ counters ∙ sym (length-live_of c.self.inside.counter_keys.keys c.self.inside.counters.items.items counters) in
    let all_gauges = ap length c.as_slice-2.ensures.keys ∙ gauges ∙ sym (length-live_of c.self.inside.gauge_keys.keys c.self.inside.gauges.items.items gauges) in
    let all_histograms = ap length c.as_slice-3.ensures.keys ∙ histograms ∙ sym (length-live_of c.self.inside.histogram_keys.keys c.self.inside.histograms.items.items histograms) in
    rw (← c.self.view_is) (λ i. all_counters i + (all_gauges i + all_histograms i))
