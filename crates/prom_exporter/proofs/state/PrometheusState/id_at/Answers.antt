use Rattle.std.proofs.Common.{List, sym, ap, subst, ◌∙◌}
use Rattle.std.specs.Prelude.{option_map, slice_get}
use Rattle.metrics_registry.specs.Live.{LiveSeries}
use Rattle.prom_exporter.specs.declared.indices.Place.TheVariants as places
use Rattle.prom_exporter.specs.Sampled.{Sampled}
use Rattle.prom_exporter.specs.LanePasses.{StandsAt}
use Rattle.prom_exporter.specs.contracts.state.PrometheusState.{the_view}
use Rattle.prom_exporter.specs.Exporter.{SharedGauge}
use Rattle.prom_exporter.proofs.LaneThings.{gauge_id_got, histogram_id_got}
use Rattle.prom_exporter.proofs.state.PrometheusState.id_at.Goals as goal

pub returns-in-Gauge : goal.returns-in-Gauge
returns-in-Gauge c =
    let at = subst (λ e. StandsAt c.args.index e (places.Gauge c.in-Gauge.place)) (sym c.self.view_is) c.in-Gauge.ensures in
    rw (← c.self.view_is)
    (c.id-in-Gauge.ensures
    ∙ ap (λ (l : List (LiveSeries SharedGauge)). option_map (λ (s : LiveSeries SharedGauge). s.id) (slice_get l c.in-Gauge.place)) c.gauges.ensures
    ∙ gauge_id_got (the_view c.self.inside) c.args.index c.in-Gauge.place at)

pub returns-in-Histogram : goal.returns-in-Histogram
returns-in-Histogram c =
    let at = subst (λ e. StandsAt c.args.index e (places.Histogram c.in-Histogram.place)) (sym c.self.view_is) c.in-Histogram.ensures in
    rw (← c.self.view_is)
    (c.id-in-Histogram.ensures
    ∙ ap (λ (l : List (LiveSeries Sampled)). option_map (λ (s : LiveSeries Sampled). s.id) (slice_get l c.in-Histogram.place)) c.histograms.ensures
    ∙ histogram_id_got (the_view c.self.inside) c.args.index c.in-Histogram.place at)
