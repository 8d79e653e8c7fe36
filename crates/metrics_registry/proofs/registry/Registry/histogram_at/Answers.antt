use Rattle.std.proofs.Common.{◌<◌, length, Some, refl, sym, ap, subst, ◌∙◌}
use Rattle.metrics_core.specs.declared.kinds.MetricKind.TheVariants.{Histogram}
use Rattle.metrics_registry.specs.Live.{AreOf}
use Rattle.metrics_registry.specs.Stored.{live_of}
use Rattle.metrics_registry.specs.StoredRegistry.{registry_of}
use Rattle.metrics_registry.proofs.Found.{are_of-with_cell_at}
use Rattle.metrics_registry.proofs.StoredSeries.{cell-at, stored_within, stored_cell, live_of-cell, stored-cell}
use Rattle.metrics_registry.proofs.registry.Registry.histogram_at.Goals as goal

pub cell_mut-requires : goal.cell_mut-requires
cell_mut-requires g c =
    stored_within c.self.inside.histogram_keys.keys c.self.inside.histograms.items.items c.args.place c.self.invariant.histograms.beside (subst (λ r. c.args.place < length r.histograms) (sym c.self.view_is) c.requires)

pub invariant_of-self-lent : goal.invariant_of-self-lent
invariant_of-self-lent g c w =
    let own = stored_cell c.self.inside.histograms.items.items c.args.place c.cell_mut.result.now c.cell_mut.ensures.value in
    rw own.at (record {
      counters = c.self.invariant.counters;
      counters_of = c.self.invariant.counters_of;
      gauges = c.self.invariant.gauges;
      gauges_of = c.self.invariant.gauges_of;
      histograms = stored-cell c.self.inside.histogram_keys.keys c.self.inside.histograms.items.items c.args.place own.series w c.self.invariant.histograms own.at;
      histograms_of = subst (AreOf Histogram c.self.inside.made) (sym (live_of-cell c.self.inside.histogram_keys.keys c.self.inside.histograms.items.items c.args.place own.series w c.self.invariant.histograms.beside own.at)) (are_of-with_cell_at Histogram c.self.inside.made (live_of c.self.inside.histogram_keys.keys c.self.inside.histograms.items.items) c.args.place w c.self.invariant.histograms_of);
    })

pub returns : goal.returns
returns g c =
    let own = stored_cell c.self.inside.histograms.items.items c.args.place c.cell_mut.result.now c.cell_mut.ensures.value in (
      (refl, λ w. rw (← c.self.view_is, own.at) (ap (λ live. record (registry_of c.self.inside) { histograms = live }) (live_of-cell c.self.inside.histogram_keys.keys c.self.inside.histograms.items.items c.args.place own.series w c.self.invariant.histograms.beside own.at))),
      record {
        writes_back = tt;
        value = rw (← c.self.view_is) (cell-at c.self.inside.histogram_keys.keys c.self.inside.histograms.items.items c.args.place own.series c.self.invariant.histograms.beside own.at ∙ ap Some own.cell);
      },
    )
